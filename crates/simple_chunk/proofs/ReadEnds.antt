-- Reading sizes one by one into the places where their records end.
use Rattle.std.proofs.Common.{◌≡◌, ℕ, ◌+◌, ◌-◌, ◌<◌, ◌≤◌, List, [], ◌∷◌, ◌++◌, length, refl, sym, ap, ◌∙◌, arith, subst}
use Rattle.std.proofs.lemmas.List.{length-append, append_assoc, append-nil}
use Rattle.varint_wire.specs.Varint.{SpellsEach}
use Rattle.simple_chunk.specs.Records.{AreEnds, sizes_between}
use Rattle.simple_chunk.specs.Sizes.{AreSizes, IsSplit}
use Rattle.simple_chunk.proofs.Parts.{AreEnds-push}
use Rattle.simple_chunk.proofs.SizeLemmas.{FirstSize-split, AreSizes-none, AreSizes-unspelled}

-- one more end is one more size
sizes_between-push : (begin : ℕ) (ends : List ℕ) (whole more : ℕ) → AreEnds begin ends whole
    → sizes_between begin (ends ++ more ∷ []) ≡ sizes_between begin ends ++ (more - whole) ∷ []
sizes_between-push begin [] whole more h = ap (λ (n : ℕ). (more - n) ∷ []) h
sizes_between-push begin (end ∷ ends) whole more h = ap (λ (xs : List ℕ). (end - begin) ∷ xs) (sizes_between-push end ends whole more h.1)

-- what holds where so many of the sizes are read: their ends, and that the rest are the other sizes
pub record SizesRead (count whole : ℕ) (sizes rest ends : List ℕ) (number end : ℕ) : Type 0 where
  pub ends_are : AreEnds 0 ends end
  pub many : length ends ≡ number
  pub within : end ≤ whole
  pub reads : (more : List ℕ) → SpellsEach more rest → SpellsEach (sizes_between 0 ends ++ more) sizes
  pub leaves : AreSizes count whole sizes → AreSizes (count - number) (whole - end) rest

pub SizesRead-none : (count whole : ℕ) (sizes : List ℕ) → SizesRead count whole sizes sizes [] 0 0
SizesRead-none count whole sizes = record {
  ends_are = refl;
  many = refl;
  within = omega arith;
  reads = λ more h. h;
  leaves = λ h.
      let same_count : count - 0 ≡ count = omega arith in
      let same_whole : whole - 0 ≡ whole = omega arith in
      rw (same_count, same_whole) h;
}

-- one more size is read
pub SizesRead-more : (count whole : ℕ) (sizes rest behind ends : List ℕ) (number end size : ℕ)
    → SizesRead count whole sizes rest ends number end → IsSplit size behind rest → size ≤ whole - end
    → SizesRead count whole sizes behind (ends ++ (end + size) ∷ []) (number + 1) (end + size)
SizesRead-more count whole sizes rest behind ends number end size r split fits =
    let last : end + size - end ≡ size = omega arith in
    let lengths : sizes_between 0 (ends ++ (end + size) ∷ []) ≡ sizes_between 0 ends ++ size ∷ [] =
    sizes_between-push 0 ends end (end + size) r.ends_are ∙ ap (λ (n : ℕ). sizes_between 0 ends ++ n ∷ []) last in
    record {
      ends_are = AreEnds-push 0 ends end (end + size) r.ends_are (omega arith);
      many = omega (arith, length-append ends ((end + size) ∷ []), r.many);
      within = omega (arith, r.within);
      reads = λ more each.
          subst (λ (xs : List ℕ). SpellsEach xs sizes)
          (sym (ap (λ (xs : List ℕ). xs ++ more) lengths ∙ append_assoc (sizes_between 0 ends) (size ∷ []) more))
          (r.reads (size ∷ more) (split.front, behind, split.joined, split.spells, each));
      leaves = λ h.
          let first = FirstSize-split size (count - number) (whole - end) behind rest split (r.leaves h) in
          let fewer : count - number - 1 ≡ count - (number + 1) = omega arith in
          let less : whole - end - size ≡ whole - (end + size) = omega arith in
          rw (← fewer, ← less) first.others;
    }

-- where a size is to come and none begins the rest, the bytes are not those sizes
pub SizesRead-unsplit : (count whole : ℕ) (sizes rest ends : List ℕ) (number end : ℕ) → SizesRead count whole sizes rest ends number end
    → number < count → ((value : ℕ) (behind : List ℕ) → IsSplit value behind rest → ⊥) → AreSizes count whole sizes → ⊥
SizesRead-unsplit count whole sizes rest ends number end r more none h =
    let zero = (AreSizes-unspelled (count - number) (whole - end) rest (r.leaves h)
    (λ value front behind s e. none value behind (record { front = front; spells = s; joined = e }))).0 in
    omega arith

-- nor where it makes more than all of them
pub SizesRead-above : (count whole : ℕ) (sizes rest behind ends : List ℕ) (number end size : ℕ) → SizesRead count whole sizes rest ends number end
    → IsSplit size behind rest → whole - end < size → AreSizes count whole sizes → ⊥
SizesRead-above count whole sizes rest behind ends number end size r split above h =
    let first = FirstSize-split size (count - number) (whole - end) behind rest split (r.leaves h) in
    omega (arith, first.fits)

-- where all are read, no byte is left and they make all
pub SizesRead-all : (count whole : ℕ) (sizes rest ends : List ℕ) (number end : ℕ) → SizesRead count whole sizes rest ends number end
    → number ≡ count → AreSizes count whole sizes → (rest ≡ []) × (end ≡ whole)
SizesRead-all count whole sizes rest ends number end r all h =
    let none = AreSizes-none (count - number) (whole - end) rest (omega arith) (r.leaves h) in
    (none.0, omega (arith, none.1, r.within))

pub SizesRead-spelled : (count whole : ℕ) (sizes rest ends : List ℕ) (number end : ℕ) → SizesRead count whole sizes rest ends number end
    → rest ≡ [] → SpellsEach (sizes_between 0 ends) sizes
SizesRead-spelled count whole sizes rest ends number end r none =
    subst (λ (xs : List ℕ). SpellsEach xs sizes) (append-nil (sizes_between 0 ends)) (r.reads [] none)
