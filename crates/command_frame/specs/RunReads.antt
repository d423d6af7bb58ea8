-- Promise. What a command reads and asks, where its objects show it. Own.
use Rattle.std.specs.Prelude.{◌≡◌, ℕ, ◌⊎◌, true, Some, None, List, [], ◌∷◌, length, map}
use Rattle.std.specs.List.{AllByRecursion}
use Rattle.record_values.specs.Bytes.{AreBytes}
use Rattle.command_frame.specs.Meanings.{Read, Meaning}
use Rattle.command_frame.specs.RunObjects.{Seen}
use Rattle.command_frame.specs.Answers.{Answer}

-- this is what a command reads, where the objects that it uses show their bytes, and what is supposed of it holds
pub record IsReadBy (m : Meaning) (before : Seen) (r : Read) : Type 0 where
  pub input : m.uses.input ≡ true → before.input.bytes ≡ Some r.input
  pub files : m.uses.files ≡ true → (map (λ file. file.bytes) before.files ≡ map Some r.files) × AllByRecursion AreBytes r.files
  pub grown : m.uses.grown ≡ true → (before.grown.bytes ≡ Some r.grown) × AreBytes r.grown
  pub supposed : m.supposes r

-- P holds of what a command reads, where that shows its bytes; where not, this says nothing
abbrev pub IfRead : Meaning → Seen → (Read → Type 0) → Type 0
IfRead m before P = (r : Read) → IsReadBy m before r → P r

-- there is an answer to the command of which P holds, where what it reads shows its bytes
abbrev pub IfAnswered : Meaning → Seen → (Answer → Type 0) → Type 0
IfAnswered m before P = IfRead m before (λ r. (answer : Answer) × m.answers r answer × P answer)

-- P holds of the sizes of the files that a command reads or grows: those that they told last, in the run or before. Their bytes,
-- where all of them show theirs, are so many. Where it uses no files the sizes are any
pub record OfSizes (m : Meaning) (before after : Seen) (P : List ℕ → Type 0) : Type 0 where
  pub sizes : List ℕ
  pub told : m.uses.files ≡ true → map (λ file. file.told) after.files ≡ map Some sizes
  pub exact : m.uses.files ≡ true
      → (files : List (List ℕ)) → map (λ file. file.bytes) before.files ≡ map Some files → sizes ≡ map length files
  -- the file that is grown tells that size still, or none: its size may have changed, since it was cut or put to
  pub grown_told : m.uses.grown ≡ true
      → (size : ℕ) × (sizes ≡ size ∷ []) × ((after.grown.told ≡ Some size) ⊎ ((after.grown.told ≡ None) × m.may_work sizes))
  pub grown_exact : m.uses.grown ≡ true → (file : List ℕ) → before.grown.bytes ≡ Some file → sizes ≡ length file ∷ []
  pub holds : P sizes

-- P holds of what a command reads and of what the file that it grows holds then, where it grows one and these are shown
abbrev pub IfGrown : Meaning → Seen → Seen → (Read → List ℕ → Type 0) → Type 0
IfGrown m before after P =
    m.uses.grown ≡ true → IfRead m before (λ r. (bytes : List ℕ) × (after.grown.bytes ≡ Some bytes) × P r bytes)
