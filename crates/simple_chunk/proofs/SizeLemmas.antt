-- Spellings of sizes: the first of them, one more in front, and that they begin with no other varint.
use Rattle.std.proofs.Common.{◌≡◌, ℕ, ◌-◌, ◌<◌, ◌≤◌, List, [], ◌∷◌, ◌++◌, length, refl, sym, ap, ◌∙◌, arith, subst}
use Rattle.std.specs.Prelude.{◌↔◌, sum}
use Rattle.std.proofs.lemmas.List.{length-append, append_cancel_left, append_assoc, append-nil}
use Rattle.std.proofs.lemmas.List.Sums.{sum_by-cons}
use Rattle.varint_wire.specs.Varint.{Spells, SpellsEach}
use Rattle.varint_wire.specs.Reading.{IsCut, IsLong}
use Rattle.varint_wire.proofs.Faults.{cut_has_no_spelling, long_begins_none}
use Rattle.varint_wire.proofs.Spellings.{spelling_is_one, Spells-small}
use Rattle.simple_chunk.specs.Sizes.{AreSizes, IsSplit}

-- what the sizes are where the bytes begin with a spelling of one
pub record FirstSize (value count whole : ℕ) (rest : List ℕ) : Type 0 where
  pub some : 0 < count
  pub fits : value ≤ whole
  pub others : AreSizes (count - 1) (whole - value) rest

first_of : (values : List ℕ) (value count whole : ℕ) (front rest : List ℕ) → length values ≡ count → sum values ≡ whole
    → SpellsEach values (front ++ rest) → Spells value front → FirstSize value count whole rest
first_of [] value count whole front rest many together none s =
    absurd (omega (arith, s.some, ap length none, length-append front rest))
first_of (v ∷ values) value count whole front rest many together (a, x, e, t, each) s =
    let one = spelling_is_one value v front a rest x s t e in
    let same : rest ≡ x = append_cancel_left front rest x (e ∙ ap (λ (xs : List ℕ). xs ++ x) (sym one.0)) in
    let total = sum_by-cons (λ (n : ℕ). n) v values in
    record {
      some = omega arith;
      fits = omega (arith, one.1);
      others = record {
        sizes = values;
        many = omega arith;
        together = omega (arith, one.1);
        spells = subst (SpellsEach values) (sym same) each;
      };
    }

pub FirstSize-spelled : (value count whole : ℕ) (front rest : List ℕ) → Spells value front
    → AreSizes count whole (front ++ rest) → FirstSize value count whole rest
FirstSize-spelled value count whole front rest s h = first_of h.sizes value count whole front rest h.many h.together h.spells s

-- one more size in front
pub AreSizes-more : (value count whole : ℕ) (front rest : List ℕ) → Spells value front → FirstSize value count whole rest
    → AreSizes count whole (front ++ rest)
AreSizes-more value count whole front rest s first = record {
  sizes = value ∷ first.others.sizes;
  many = omega (arith, first.some, first.others.many);
  together = omega (arith, sum_by-cons (λ (n : ℕ). n) value first.others.sizes, first.others.together, first.fits);
  spells = (front, rest, refl, s, first.others.spells);
}

-- no sizes take no bytes and make no bytes
none_of : (values : List ℕ) (whole : ℕ) (bytes : List ℕ) → length values ≡ 0 → sum values ≡ whole → SpellsEach values bytes → (bytes ≡ []) × (whole ≡ 0)
none_of [] whole bytes many together none = (none, sym together)
none_of (v ∷ values) whole bytes many together each = absurd (omega arith)

pub AreSizes-none : (count whole : ℕ) (bytes : List ℕ) → count ≡ 0 → AreSizes count whole bytes → (bytes ≡ []) × (whole ≡ 0)
AreSizes-none count whole bytes zero h = none_of h.sizes whole bytes (h.many ∙ zero) h.together h.spells

pub AreSizes-empty : AreSizes 0 0 []
AreSizes-empty = record { sizes = []; many = refl; together = refl; spells = refl }

-- bytes that begin with no spelling are no sizes but none
unspelled_of : (values : List ℕ) (count : ℕ) (bytes : List ℕ) → length values ≡ count → SpellsEach values bytes
    → ((v : ℕ) (front rest : List ℕ) → Spells v front → bytes ≡ front ++ rest → ⊥) → (count ≡ 0) × (bytes ≡ [])
unspelled_of [] count bytes many none refuses = (sym many, none)
unspelled_of (v ∷ values) count bytes many (front, rest, e, s, each) refuses = absurd (refuses v front rest s e)

pub AreSizes-unspelled : (count whole : ℕ) (bytes : List ℕ) → AreSizes count whole bytes
    → ((v : ℕ) (front rest : List ℕ) → Spells v front → bytes ≡ front ++ rest → ⊥) → (count ≡ 0) × (bytes ≡ [])
AreSizes-unspelled count whole bytes h refuses = unspelled_of h.sizes count bytes h.many h.spells refuses

-- each size takes a byte at least
few_of : (values : List ℕ) (bytes : List ℕ) → SpellsEach values bytes → length values ≤ length bytes
few_of [] bytes none = omega arith
few_of (v ∷ values) bytes (front, rest, e, s, each) =
    omega (arith, few_of values rest each, s.some, ap length e, length-append front rest)

pub AreSizes-few : (count whole : ℕ) (bytes : List ℕ) → AreSizes count whole bytes → count ≤ length bytes
AreSizes-few count whole bytes h = omega (arith, few_of h.sizes bytes h.spells, h.many)

-- a number below 128 is a spelling of itself
pub IsSplit-small : (value : ℕ) (rest bytes : List ℕ) → value < 128 → bytes ≡ value ∷ rest → IsSplit value rest bytes
IsSplit-small value rest bytes small e = record { front = value ∷ []; spells = Spells-small value small; joined = e }

-- bytes that begin with a spelling of one size are sizes where the others are
pub FirstSize-split : (value count whole : ℕ) (rest bytes : List ℕ) → IsSplit value rest bytes → AreSizes count whole bytes → FirstSize value count whole rest
FirstSize-split value count whole rest bytes split h =
    FirstSize-spelled value count whole split.front rest split.spells (subst (AreSizes count whole) split.joined h)

-- what is still to come where bytes were taken: a size goes on, or is whole
pub AreSizes-on : (count whole byte : ℕ) (held more rest : List ℕ) → more ≡ held ++ byte ∷ []
    → AreSizes count whole (held ++ (byte ∷ rest)) ↔ AreSizes count whole (more ++ rest)
AreSizes-on count whole byte held more rest is =
    let same : held ++ (byte ∷ rest) ≡ more ++ rest = sym (append_assoc held (byte ∷ []) rest) ∙ ap (λ (xs : List ℕ). xs ++ rest) (sym is) in
    (subst (AreSizes count whole) same, subst (AreSizes count whole) (sym same))

pub AreSizes-whole : (count whole byte size : ℕ) (held more rest : List ℕ) → Spells size (held ++ byte ∷ []) → more ≡ [] → 0 < count → size ≤ whole
    → AreSizes count whole (held ++ (byte ∷ rest)) ↔ AreSizes (count - 1) (whole - size) (more ++ rest)
AreSizes-whole count whole byte size held more rest s none some fits =
    let same : held ++ (byte ∷ rest) ≡ (held ++ byte ∷ []) ++ rest = sym (append_assoc held (byte ∷ []) rest) in
    let behind : more ++ rest ≡ rest = ap (λ (xs : List ℕ). xs ++ rest) none in (
      λ h. subst (AreSizes (count - 1) (whole - size)) (sym behind) (FirstSize-spelled size count whole (held ++ byte ∷ []) rest s (subst (AreSizes count whole) same h)).others,
      λ h. subst (AreSizes count whole) (sym same) (AreSizes-more size count whole (held ++ byte ∷ []) rest s
          (record { some = some; fits = fits; others = subst (AreSizes (count - 1) (whole - size)) behind h })),
    )

-- or it is none that can stand there
pub AreSizes-other : (count whole byte size : ℕ) (held rest : List ℕ) → Spells size (held ++ byte ∷ []) → ¬ ((0 < count) × (size ≤ whole))
    → ¬ AreSizes count whole (held ++ (byte ∷ rest))
AreSizes-other count whole byte size held rest s other = λ h.
    let same : held ++ (byte ∷ rest) ≡ (held ++ byte ∷ []) ++ rest = sym (append_assoc held (byte ∷ []) rest) in
    let first = FirstSize-spelled size count whole (held ++ byte ∷ []) rest s (subst (AreSizes count whole) same h) in
    other (first.some, first.fits)

pub AreSizes-long : (count whole byte : ℕ) (held rest : List ℕ) → IsLong (held ++ byte ∷ []) → ¬ AreSizes count whole (held ++ (byte ∷ rest))
AreSizes-long count whole byte held rest long = λ h.
    let same : held ++ (byte ∷ rest) ≡ (held ++ byte ∷ []) ++ rest = sym (append_assoc held (byte ∷ []) rest) in
    let none = AreSizes-unspelled count whole (held ++ (byte ∷ rest)) h
    (λ v front behind s e. long_begins_none v (held ++ byte ∷ []) rest front behind long s (sym same ∙ e)) in
    omega (arith, ap length none.1, length-append held (byte ∷ rest))

-- a size that is cut is not to be the last
pub AreSizes-cut : (count whole : ℕ) (held : List ℕ) → IsCut held
    → AreSizes count whole (held ++ []) ↔ ((count ≡ 0) × (whole ≡ 0) × (held ≡ []))
AreSizes-cut count whole held cut =
    let same : held ++ [] ≡ held = append-nil held in (
      λ h.
          let all : AreSizes count whole held = subst (AreSizes count whole) same h in
          let none = AreSizes-unspelled count whole held all (λ v front rest s e. cut_has_no_spelling v held front rest cut s e) in
          (none.0, (AreSizes-none count whole held none.0 all).1, none.1),
      λ (no_size, no_byte, none). rw (no_size, no_byte, none) AreSizes-empty,
    )
