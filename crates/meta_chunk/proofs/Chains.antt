-- Chains of chunks: their fronts, one chunk more, and that a file has one.
use Rattle.std.proofs.Common.{◌≡◌, ◌∙◌, ℕ, zero, suc, ◌+◌, ◌-◌, ◌≤◌, List, [], ◌∷◌, ◌++◌, length, take, drop, refl, sym, ap, subst, arith}
use Rattle.std.specs.Prelude.{slice_range}
use Rattle.std.specs.List.{AllByRecursion}
use Rattle.std.proofs.lemmas.List.{append_assoc, append-nil, take_all, take-take, take-append-drop, drop-take, length-append, length-take, length-take-le, drop_at}
use Rattle.std.proofs.lemmas.List.Elements.{All-from_recursion, recursion_from_All, All-take, All-append, All-weaker}
use Rattle.chunk_header.specs.Chunks.{ChunkValue}
use Rattle.meta_chunk.specs.Laid.{IsLaid, end_of_chunk}
use Rattle.meta_chunk.specs.Files.{AreLaid, BeginsSigned, IsChainOf, begin_of, end_of_chunks}
use Rattle.meta_chunk.proofs.LaidChunks.{end_of_chunk_after, end-IsLaid}
use Rattle.meta_chunk.proofs.Joins.{AreLaid-append, AreLaid-split, end-AreLaid}
use Rattle.meta_chunk.proofs.OneChunk.{IsLaid-one}
use Rattle.meta_chunk.proofs.Begins.{begin_of-within}

-- the front of a list that begins with a signature begins with it
BeginsSigned-take : (n : ℕ) (ks : List ChunkValue) → BeginsSigned ks → BeginsSigned (take n ks)
BeginsSigned-take zero ks h = tt
BeginsSigned-take (suc n) [] h = tt
BeginsSigned-take (suc n) (k ∷ ks) h = h

-- the front of laid chunks is laid
pub AreLaid-take : (n : ℕ) (ks : List ChunkValue) (file : List ℕ) (place : ℕ) → begin_of ks n ≤ place
    → AreLaid 0 ks (take place file) → AreLaid 0 (take n ks) (take (begin_of ks n) file)
AreLaid-take n ks file place within h =
    let parts = AreLaid-split 0 (take n ks) (drop n ks) (take place file)
    (subst (λ (xs : List ChunkValue). AreLaid 0 xs (take place file)) (sym (take-append-drop n ks)) h) in
    let start : begin_of ks n - 0 ≡ begin_of ks n = omega arith in
    subst (λ (xs : List ℕ). AreLaid 0 (take n ks) xs)
    (ap (λ (m : ℕ). take m (take place file)) start ∙ take-take (begin_of ks n) place file within)
    parts.0

-- the front of a chain is a chain
pub IsChainOf-take : {P : ChunkValue → Type 0} (n : ℕ) (ks : List ChunkValue) (file : List ℕ) (place : ℕ)
    → IsChainOf P ks file place → IsChainOf P (take n ks) file (begin_of ks n)
IsChainOf-take {P} n ks file place h =
    let within : begin_of ks n ≤ place = begin_of-within ks file place n h.within h.laid in
    record {
      signed = BeginsSigned-take n ks h.signed;
      each = recursion_from_All P (take n ks) (All-take P n ks (All-from_recursion P ks h.each));
      within = omega (arith, h.within);
      laid = AreLaid-take n ks file place within h.laid;
    }

-- a chain of chunks that meet more is one of chunks that meet less
pub IsChainOf-weaker : {P Q : ChunkValue → Type 0} → ((k : ChunkValue) → P k → Q k) → {ks : List ChunkValue} {file : List ℕ} {place : ℕ}
    → IsChainOf P ks file place → IsChainOf Q ks file place
IsChainOf-weaker {P} {Q} less {ks} h = record {
  signed = h.signed;
  each = recursion_from_All Q ks (All-weaker P Q less ks (All-from_recursion P ks h.each));
  within = h.within;
  laid = h.laid;
}

-- of chunks laid at the front of the same bytes, the fewer are a front of the more
AreLaid-front : (begin : ℕ) (ks ls : List ChunkValue) (bytes rest others more : List ℕ)
    → AreLaid begin ks bytes → AreLaid begin ls others → bytes ++ rest ≡ others ++ more → length bytes ≤ length others
    → ks ≡ take (length ks) ls
AreLaid-front begin [] ls bytes rest others more h g same less = refl
AreLaid-front begin (k ∷ ks) [] bytes rest others more (first, behind, parts, laid_first, laid_behind) g same less =
    absurd (omega (
      arith,
      ap length parts,
      ap length g,
      length-append first behind,
      end-IsLaid begin k first laid_first,
      end_of_chunk_after begin k,
    ))
AreLaid-front begin (k ∷ ks) (l ∷ ls) bytes rest others more (first, behind, parts, laid_first, laid_behind) (front, back, pieces, laid_front, laid_back) same less =
    let whole : first ++ (behind ++ rest) ≡ front ++ (back ++ more) =
    sym (append_assoc first behind rest)
    ∙ ap (λ (xs : List ℕ). xs ++ rest) (sym parts)
    ∙ same
    ∙ ap (λ (xs : List ℕ). xs ++ more) pieces
    ∙ append_assoc front back more in
    let one : k ≡ l = IsLaid-one begin k l first (behind ++ rest) front (back ++ more) laid_first laid_front whole in
    let size : length first ≡ length front = omega (
      arith,
      end-IsLaid begin k first laid_first,
      end-IsLaid begin l front laid_front,
      ap (end_of_chunk begin) one,
    ) in
    let tail : behind ++ rest ≡ back ++ more =
    sym (drop_at first (behind ++ rest) (length first) refl)
    ∙ ap (drop (length first)) whole
    ∙ drop_at front (back ++ more) (length first) (sym size) in
    let fewer : length behind ≤ length back = omega (
      arith,
      ap length parts,
      ap length pieces,
      length-append first behind,
      length-append front back,
    ) in
    let from : AreLaid (begin + length first) ls back = subst (λ (n : ℕ). AreLaid (begin + n) ls back) (sym size) laid_back in
    ap (λ (x : ChunkValue). x ∷ ks) one
    ∙ ap (λ (xs : List ChunkValue). l ∷ xs) (AreLaid-front (begin + length first) ks ls behind rest back more laid_behind from tail fewer)

-- so it is in a file
pub AreLaid-front_of : (ks ls : List ChunkValue) (file : List ℕ) (place further : ℕ)
    → further ≤ length file → place ≤ further → AreLaid 0 ks (take place file) → AreLaid 0 ls (take further file)
    → ks ≡ take (length ks) ls
AreLaid-front_of ks ls file place further within before h g =
    AreLaid-front 0 ks ls (take place file) (drop place file) (take further file) (drop further file) h g
    (take-append-drop place file ∙ sym (take-append-drop further file))
    (omega (arith, length-take-le further file within, length-take-le place file (omega arith)))

-- and up to a place of it one list of chunks is laid at most
pub AreLaid-one : (ks ls : List ChunkValue) (file : List ℕ) (place : ℕ)
    → place ≤ length file → AreLaid 0 ks (take place file) → AreLaid 0 ls (take place file) → ks ≡ ls
AreLaid-one ks ls file place within h g =
    let front : ks ≡ take (length ks) ls = AreLaid-front_of ks ls file place place within (omega arith) h g in
    let back : ls ≡ take (length ls) ks = AreLaid-front_of ls ks file place place within (omega arith) g h in
    front ∙ take_all (length ks) ls (omega (arith, ap length back, length-take (length ls) ks))

-- the front of a file up to a place, and the bytes from there to a place further on
take-further : (file : List ℕ) (place further : ℕ) → place ≤ further
    → take place file ++ slice_range file place further ≡ take further file
take-further file place further before =
    let cut : place + (further - place) ≡ further = omega arith in
    ap (λ (xs : List ℕ). xs ++ slice_range file place further) (sym (take-take place further file before))
    ∙ ap (λ (xs : List ℕ). take place (take further file) ++ xs)
    (sym (drop-take place (further - place) file) ∙ ap (λ (n : ℕ). drop place (take n file)) cut)
    ∙ take-append-drop place (take further file)

-- chunks laid behind others are laid with them
pub AreLaid-more : (ks more : List ChunkValue) (file : List ℕ) (place further : ℕ)
    → place ≤ further → further ≤ length file → AreLaid 0 ks (take place file) → AreLaid place more (slice_range file place further)
    → AreLaid 0 (ks ++ more) (take further file)
AreLaid-more ks more file place further before within h g =
    let end : place ≡ end_of_chunks 0 ks =
    omega (arith, end-AreLaid 0 ks (take place file) h, length-take-le place file (omega arith)) in
    subst (λ (xs : List ℕ). AreLaid 0 (ks ++ more) xs) (take-further file place further before)
    (AreLaid-append 0 ks more (take place file) (slice_range file place further) h
    (subst (λ (p : ℕ). AreLaid p more (slice_range file place further)) end g))

-- so a chain and chunks laid behind it are a chain
pub IsChainOf-append : {P : ChunkValue → Type 0} (ks more : List ChunkValue) (file : List ℕ) (place further : ℕ)
    → IsChainOf P ks file place → BeginsSigned (ks ++ more) → AllByRecursion P more
    → place ≤ further → further ≤ length file → AreLaid place more (slice_range file place further)
    → IsChainOf P (ks ++ more) file further
IsChainOf-append {P} ks more file place further h signed each before within laid =
    record {
      signed = signed;
      each = recursion_from_All P (ks ++ more)
          (All-append P ks more (All-from_recursion P ks h.each) (All-from_recursion P more each));
      within = within;
      laid = AreLaid-more ks more file place further before within h.laid laid;
    }

-- so is a chain and one chunk behind it
pub IsChainOf-push : {P : ChunkValue → Type 0} (ks : List ChunkValue) (k : ChunkValue) (file : List ℕ) (place further : ℕ)
    → IsChainOf P ks file place → BeginsSigned (ks ++ k ∷ []) → P k
    → further ≤ length file → IsLaid place k (slice_range file place further)
    → IsChainOf P (ks ++ k ∷ []) file further
IsChainOf-push ks k file place further h signed each within laid =
    let bytes : List ℕ = slice_range file place further in
    let size : length bytes ≤ further - place = omega (arith, length-take (further - place) (drop place file)) in
    let some : place + 40 ≤ further = omega (arith, end-IsLaid place k bytes laid, end_of_chunk_after place k) in
    IsChainOf-append ks (k ∷ []) file place further h signed (each, tt) (omega arith) within
    (bytes, [], sym (append-nil bytes), laid, refl)
