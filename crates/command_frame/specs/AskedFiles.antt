-- Inside. What becomes of several files that a command asks their sizes before it reads them. Own.
use Rattle.std.specs.Prelude.{◌≡◌, ℕ, ◌+◌, ◌⊎◌, Option, None, Some, Result, Err, List, drop, map, slice_get}
use Rattle.record_io.specs.ManyStores.{AreOnlyAsked}
use Rattle.record_io.specs.declared.cut.Cut.TheVariants as cut
use Rattle.command_frame.specs.Endings.{HaveTold, IsAllowedEndOfMany}
use Rattle.command_frame.specs.Meanings.{Meaning}
use Rattle.command_frame.specs.declared.ending.Ending.{Ending}
use Rattle.command_frame.specs.declared.ending.Ending.TheVariants as end

-- the bytes of files stay, and what they borrow
pub record KeepsFiles {S L : Type 0} (bytes : S → Option (List ℕ)) (name : S → L) (before after : List S) : Type 0 where
  pub same_bytes : map bytes after ≡ map bytes before
  pub same_names : map name after ≡ map name before

-- work on files ended as it may by the sizes that they told, and behind a file that told none no other was asked; only where the
-- sizes let the command work bytes were handed out, and no more than it may take; and whatever sizes are told then, the files
-- stay, and one of them failed where the work says so
pub record AsksFiles {S L X W : Type 0} (bytes : S → Option (List ℕ)) (told : S → Option ℕ) (handed : S → ℕ) (name : S → L) (faults : S → ℕ)
    (m : Meaning) (past : List ℕ → Type 0) (stops : W → List ℕ → Type 0) (result : Result X (Ending W)) (before after : List S) : Type 0 where
  pub allowed : IsAllowedEndOfMany m past stops result (map told after)
  pub in_order : (place : ℕ) (file : S) → slice_get after place ≡ Some file → told file ≡ None → drop (place + 1) after ≡ drop (place + 1) before
  pub handed_out : (map handed after ≡ map handed before)
      ⊎ HaveTold (map told after) (λ sizes. m.may_work sizes × m.may_take sizes (map handed before) (map handed after))
  pub asked : AreOnlyAsked bytes (λ s. None) name faults (result ≡ Err (end.Cut cut.File)) before after
