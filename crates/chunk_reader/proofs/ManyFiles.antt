-- The first of several files that has a fault.
use Rattle.std.proofs.Common.{◌≡◌, ◌∙◌, ℕ, ◌<◌, ◌≤◌, ◌⊎◌, zero, suc, Bool, Some, List, [], ◌∷◌, take, refl, ap, subst, inl, inr, arith}
use Rattle.std.specs.Prelude.{slice_get}
use Rattle.std.specs.List.{AllByRecursion}
use Rattle.std.proofs.lemmas.Bool.{cases_lt}
use Rattle.record_values.specs.Bytes.{AreBytes}
use Rattle.chunk_reader.specs.Faults.{HasNoFault, IsFault, HaveNoFault, IsFirstFault}
use Rattle.chunk_reader.specs.declared.reasons.Fault.{Fault}
use Rattle.chunk_reader.proofs.FaultsDecided.{file_judged}
use Rattle.chunk_reader.proofs.FileFaults.{fault_is_one, fault_or_none}

-- of files without fault each has none
none_at : (unread_ok : Bool) (files : List (List ℕ)) (place : ℕ) (file : List ℕ) → HaveNoFault unread_ok files
    → slice_get files place ≡ Some file → HasNoFault unread_ok file
none_at unread_ok [] place file h there = absurd cc
none_at unread_ok (f ∷ files) zero file h there = let is : f ≡ file = cc there in subst (HasNoFault unread_ok) is h.0
none_at unread_ok (f ∷ files) (suc place) file h there = none_at unread_ok files place file h.1 there

none_before : (unread_ok : Bool) (files : List (List ℕ)) (count place : ℕ) (file : List ℕ) → HaveNoFault unread_ok (take count files)
    → place < count → slice_get files place ≡ Some file → HasNoFault unread_ok file
none_before unread_ok [] count place file h below there = absurd cc
none_before unread_ok (f ∷ files) zero place file h below there = absurd (omega (arith, below))
none_before unread_ok (f ∷ files) (suc count) zero file h below there = let is : f ≡ file = cc there in subst (HasNoFault unread_ok) is h.0
none_before unread_ok (f ∷ files) (suc count) (suc place) file h below there =
    none_before unread_ok files count place file h.1 (omega (arith, below)) there

-- so none has a fault, or one is the first that has
pub first_or_none : (unread_ok : Bool) (files : List (List ℕ)) (index : ℕ) (fault : Fault) → IsFirstFault unread_ok files index fault
    → ¬ HaveNoFault unread_ok files
first_or_none unread_ok files index fault first none =
    fault_or_none unread_ok first.file fault first.is_fault (none_at unread_ok files index first.file none first.there)

-- behind files without fault the first is not among them
pub first_behind : (unread_ok : Bool) (files : List (List ℕ)) (count index : ℕ) (fault : Fault) → HaveNoFault unread_ok (take count files)
    → IsFirstFault unread_ok files index fault → count ≤ index
first_behind unread_ok files count index fault none first = elim (cases_lt index count) [
  | inl below ↦
      absurd (fault_or_none unread_ok first.file fault first.is_fault (none_before unread_ok files count index first.file none below first.there))
  | inr behind ↦ behind
]

-- and it is one
pub first_is_one : (unread_ok : Bool) (files : List (List ℕ)) (a b : ℕ) (fault other : Fault)
    → IsFirstFault unread_ok files a fault → IsFirstFault unread_ok files b other → (a ≡ b) × (fault ≡ other)
first_is_one unread_ok files a b fault other h g =
    let same : a ≡ b = omega (arith, first_behind unread_ok files a b other h.before g, first_behind unread_ok files b a fault g.before h) in
    let there : slice_get files a ≡ Some g.file = ap (slice_get files) same ∙ g.there in
    let file : h.file ≡ g.file = cc in
    (same, fault_is_one unread_ok g.file fault other (subst (λ (f : List ℕ). IsFault unread_ok f fault) file h.is_fault) g.is_fault)

-- files of bytes are judged: one is the first with a fault, or none has one
pub files_judged : (unread_ok : Bool) (files : List (List ℕ)) → AllByRecursion AreBytes files
    → HaveNoFault unread_ok files ⊎ ((index : ℕ) × (fault : Fault) × IsFirstFault unread_ok files index fault)
files_judged unread_ok [] bytes = inl bytes
files_judged unread_ok (file ∷ files) bytes = elim (file_judged unread_ok file bytes.0) [
  | inl none ↦ elim (files_judged unread_ok files bytes.1) [
    | inl others ↦ inl (none, others)
    | inr first ↦ inr (
      suc first.0,
      first.1,
      record {
        before = (none, first.2.before);
        file = first.2.file;
        there = first.2.there;
        is_fault = first.2.is_fault;
      },
    )
  ]
  | inr fault ↦ inr (0, fault.0, record { before = tt; file = file; there = refl; is_fault = fault.1 })
]

-- of files up to one without fault, the first has none
pub first_without : (unread_ok : Bool) (files : List (List ℕ)) (count : ℕ) (file : List ℕ) → slice_get files count ≡ Some file
    → HasNoFault unread_ok file → HaveNoFault unread_ok (take count files) → HaveNoFault unread_ok (take 1 files)
first_without unread_ok [] count file there none before = absurd cc
first_without unread_ok (f ∷ files) zero file there none before = let is : file ≡ f = cc in (subst (HasNoFault unread_ok) is none, tt)
first_without unread_ok (f ∷ files) (suc count) file there none before = (before.0, tt)
