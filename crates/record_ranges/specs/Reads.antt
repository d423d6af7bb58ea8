-- Inside. What becomes of stores that threads ask, and what they answer. Own.
use Rattle.std.specs.Prelude.{◌≡◌, ℕ, ◌^◌, ◌≤◌, false, All, Option, Some, Result, Err, IfOk, IfSome, List, [], ◌∷◌, ◌++◌, length}
use Rattle.std.specs.List.{AllByRecursion, AllZip}
use Rattle.record_io.specs.Calls.{OnlyAsks}
use Rattle.chunk_reader.specs.Faults.{IsFault}
use Rattle.chunk_reader.specs.declared.reasons.Fault.{Fault}
use Rattle.chunk_reader.specs.declared.reasons.ReadEnd.{ReadEnd}
use Rattle.chunk_reader.specs.declared.reasons.ReadEnd.TheVariants.{Refused, Store}
use Rattle.record_ranges.specs.declared.stretches.Span.{Span}
use Rattle.record_ranges.specs.declared.stretches.Stretch.{Stretch}
use Rattle.record_ranges.specs.Stretches.{IsStretchOf, LiesWithin}

-- P holds of a file, where all stores show its bytes
abbrev pub IfAllTellSame : {S : Type 0} → (S → Option (List ℕ)) → List S → (List ℕ → Type 0) → Type 0
IfAllTellSame bytes stores P = (file : List ℕ) → AllByRecursion (λ s. bytes s ≡ Some file) stores → P file

-- it stands in the list
abbrev pub IsAmong : {X : Type 0} → X → List X → Type 0
IsAmong {X} x xs = (before : List X) × (after : List X) × (xs ≡ before ++ x ∷ after)

-- where an answer gave the chunks of a part, they are chunks of the file
abbrev pub AreReadIn : {K : Type 0} → (List (List ℕ) → K) → List ℕ → List Span → List (Result (Stretch K) ReadEnd) → Type 0
AreReadIn kept_as file spans answers =
    AllZip (λ span answer. IfOk answer (λ s. IsStretchOf kept_as file span s)) spans answers

-- stores that told the size of one file can be read, each for the part of its number, and answered there
pub record CanBeRead {S X : Type 0} (told : S → Option ℕ) (size : ℕ) (spans : List Span) (answers : List X) (stores : List S) : Type 0 where
  pub as_many_spans : length spans ≡ length stores
  pub as_many_answers : length answers ≡ length stores
  pub are_told : All (λ s. told s ≡ Some size) stores
  pub within : All (λ span. LiesWithin size span) spans
  pub in_reach : size ≤ 2 ^ 60

module _ {S L : Type 0} (bytes : S → Option (List ℕ)) (told : S → Option ℕ) (name : S → L) (faults : S → ℕ) where
  -- one store was read strictly: its file is refused only with its fault, and it was only asked, and failed where the answer says so
  pub record ReadsStrictly {X : Type 0} (answer : Result X ReadEnd) (before after : S) : Type 0 where
    pub refused : (fault : Fault) → answer ≡ Err (Refused fault) → IfSome (bytes before) (λ file. IsFault false file fault)
    pub asks : OnlyAsks bytes told name faults (answer ≡ Err Store) before after

module _ {S L K : Type 0} (kept_as : List (List ℕ) → K) (bytes : S → Option (List ℕ)) (told : S
    → Option ℕ) (name : S → L) (faults : S → ℕ) where
  -- one store was asked for a part, and answered so
  pub record IsAnswered (span : Span) (before after : S) (answer : Result (Stretch K) ReadEnd) : Type 0 where
    pub stretch : IfOk answer (λ s. IfSome (bytes before) (λ file. IsStretchOf kept_as file span s))
    pub asks : OnlyAsks bytes told name faults (answer ≡ Err Store) before after

  -- each store was asked for the part of its number, and answered so
  abbrev pub AreAnswered : List Span → List S → List S → List (Result (Stretch K) ReadEnd) → Type 0
  AreAnswered [] [] [] [] = Unit {0}
  AreAnswered [] [] [] (a ∷ answers) = ⊥
  AreAnswered [] [] (t ∷ after) answers = ⊥
  AreAnswered [] (s ∷ before) after answers = ⊥
  AreAnswered (p ∷ spans) [] after answers = ⊥
  AreAnswered (p ∷ spans) (s ∷ before) [] answers = ⊥
  AreAnswered (p ∷ spans) (s ∷ before) (t ∷ after) [] = ⊥
  AreAnswered (p ∷ spans) (s ∷ before) (t ∷ after) (a ∷ answers) = IsAnswered p s t a × AreAnswered spans before after answers
