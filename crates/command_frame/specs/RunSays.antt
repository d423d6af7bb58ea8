-- Promise. What a run says in notes. Own.
use Rattle.std.specs.Prelude.{◌≡◌, ℕ, List}
use Rattle.record_io.specs.Outside.{Takes, TakesShort}
use Rattle.command_frame.specs.declared.status.Status.{Status}
use Rattle.command_frame.specs.Statuses.{fault_text}
use Rattle.command_frame.specs.Meanings.{Meaning}
use Rattle.command_frame.specs.RunObjects.{Seen}
use Rattle.command_frame.specs.RunAnswers.{IsWhole}
use Rattle.command_frame.specs.RunLeaves.{IsCutOff, TakesThen}
use Rattle.command_frame.specs.RunReads.{OfSizes}
use Rattle.command_frame.specs.declared.status.Status.TheVariants as status

-- what a run says in notes, also where nothing shows what was read
pub record RunSays (m : Meaning) (before after : Seen) (ended : Status) : Type 0 where
  -- with a whole answer, a text with which the command may end so by the sizes of its files
  pub end_said : IsWhole ended
      → OfSizes m before after (λ sizes. (text : List ℕ) × m.may_end sizes ended text × Takes before.notes.bytes after.notes.bytes text)
  -- cut off, what it may say before its end, mostly nothing, and then the status's line, or where notes failed too a front of it
  pub cut_off_said : IsCutOff ended → (text : List ℕ) × m.may_say text × TakesThen before.notes after.notes text (fault_text ended)
  -- where notes failed, a front, and not all, of a text with which it may end by these sizes: with the status `wanted`
  pub front_said : ended ≡ status.Notes
      → OfSizes m before after (λ sizes.
      (wanted : Status) × (text : List ℕ) × m.may_end sizes wanted text × TakesShort before.notes.bytes after.notes.bytes text)
