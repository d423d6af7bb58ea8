-- Promise. What a run takes of what it reads. Own.
use Rattle.std.specs.Prelude.{◌≡◌, ◌≢◌, ℕ, ◌+◌, ◌≤◌, ◌⊎◌, true, Option, Some, None, IfSome, IsSomeAnd, List, length, drop, slice_get}
use Rattle.record_io.specs.Seen.{SeenFile}
use Rattle.command_frame.specs.declared.status.Status.{Status}
use Rattle.command_frame.specs.Meanings.{Meaning}
use Rattle.command_frame.specs.RunObjects.{Seen, handed_by}
use Rattle.command_frame.specs.RunLeaves.{IsCutOff}
use Rattle.command_frame.specs.RunReads.{IfRead, OfSizes}
use Rattle.command_frame.specs.declared.status.Status.TheVariants as status

-- an input that showed its bytes has at most so many fewer left, by their number alone
abbrev pub TakesAtMost : ℕ → (before after : Option (List ℕ)) → Type 0
TakesAtMost most before after = IfSome before (λ left. IsSomeAnd after (λ rest. length left ≤ length rest + most))

-- what a run takes of what it reads
pub record RunTakes (m : Meaning) (before after : Seen) (ended : Status) : Type 0 where
  -- where the work was cut off, unless by a fault of its files, these told sizes by which it goes on to its work
  pub in_reach : IsCutOff ended → ended ≢ status.File → ended ≢ status.Grown → OfSizes m before after m.may_work
  -- by their counts files hand out nothing unless they told such sizes, and then no more than the command may take
  pub handed : (handed_by after.files ≡ handed_by before.files)
      ⊎ ((m.uses.files ≡ true)
      × OfSizes m before after (λ sizes. m.may_work sizes × m.may_take sizes (handed_by before.files) (handed_by after.files)))
  -- nor more than it may take by what it reads, where that is shown
  pub handed_of : IfRead m before (λ r. m.may_take_of r (handed_by before.files) (handed_by after.files))
  pub grown_handed : (after.grown.handed ≡ before.grown.handed) ⊎ ((m.uses.grown ≡ true) × OfSizes m before after m.may_work)
  -- in their order: behind a file that told no size each shows what it did before. Of a single file this says nothing
  pub in_order : (place : ℕ) (file : SeenFile) → slice_get after.files place ≡ Some file → file.told ≡ None
      → drop (place + 1) after.files ≡ drop (place + 1) before.files
  -- of the input no more is taken than the command may take, however it ended
  pub input_taken : TakesAtMost m.most_taken before.input.bytes after.input.bytes
