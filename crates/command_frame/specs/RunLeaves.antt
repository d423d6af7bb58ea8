-- Promise. What a run leaves where it was cut off, or where notes failed. Own.
use Rattle.std.specs.Prelude.{◌≡◌, ℕ, ◌⊎◌, true, IfSome, IsSomeAnd, List, ◌++◌, take}
use Rattle.std.specs.List.{flat_map}
use Rattle.record_io.specs.Outside.{Rose, Takes}
use Rattle.record_io.specs.Seen.{SeenStream}
use Rattle.record_io.specs.Puts.{Put, Made, Out, Notes, Taken, GoOut, BreaksOff, bytes_to}
use Rattle.command_frame.specs.declared.status.Status.{Status}
use Rattle.command_frame.specs.Lines.{lines}
use Rattle.command_frame.specs.Answers.{Answer, line}
use Rattle.command_frame.specs.Statuses.{fault_text}
use Rattle.command_frame.specs.RunObjects.{Seen, handed_by, HadNoSinkFault, taken_in}
use Rattle.command_frame.specs.Meanings.{Read, Meaning}
use Rattle.command_frame.specs.RunReads.{IfRead, IfAnswered, IfGrown}
use Rattle.command_frame.specs.declared.status.Status.TheVariants as status

-- the statuses that tell a fault of an object other than notes, or want of memory
abbrev pub IsCutOff : Status → Type 0
IsCutOff status.Input = Unit {0}
IsCutOff status.File = Unit {0}
IsCutOff status.Made = Unit {0}
IsCutOff status.Grown = Unit {0}
IsCutOff status.Out = Unit {0}
IsCutOff status.Memory = Unit {0}
IsCutOff other = ⊥

-- the statuses that tell a fault of what is read, or want of memory
abbrev pub IsReadingCutOff : Status → Type 0
IsReadingCutOff status.Input = Unit {0}
IsReadingCutOff status.File = Unit {0}
IsReadingCutOff status.Grown = Unit {0}
IsReadingCutOff status.Memory = Unit {0}
IsReadingCutOff other = ⊥

-- the first lines of a text
abbrev pub first_lines : ℕ → List ℕ → List ℕ
first_lines count text = flat_map line (take count (lines text))

-- a sink took a text and then a line, or where its count of faults rose a front of that line
abbrev pub TakesThen : SeenStream → SeenStream → List ℕ → List ℕ → Type 0
TakesThen before after text last =
    (part : List ℕ) × Takes before.bytes after.bytes (text ++ part)
    × ((part ≡ last) ⊎ (Rose before.faults after.faults × (n : ℕ) × (part ≡ take n last)))

-- where a front of what is put broke off: before a byte for the sink that failed; where no sink did, anywhere, also at the end
abbrev pub Breaks : Status → (part puts : List Put) → Type 0
Breaks status.Made part puts = BreaksOff Made part puts
Breaks status.Out part puts = BreaksOff Out part puts
Breaks other part puts = (rest : List Put) × (puts ≡ part ++ rest)

-- a part of what is put puts whole lines in notes: the first of all that go there
pub record PutsLines (part puts : List Put) : Type 0 where
  pub count : ℕ
  pub lines : bytes_to Notes part ≡ first_lines count (bytes_to Notes puts)

-- a run was cut off: of what an answer puts a front went out, of lines in notes whole ones, and then the line that tells what
-- cut it off, or where notes failed a front of that line
pub record WasCutOff (ended : Status) (before after : Seen) (answer : Answer) : Type 0 where
  pub part : List Put
  pub broke : Breaks ended part answer.puts
  pub made : Takes before.made.bytes after.made.bytes (bytes_to Made part)
  pub out : Takes before.out.bytes after.out.bytes (bytes_to Out part)
  pub lines : PutsLines part answer.puts
  pub notes : TakesThen before.notes after.notes (bytes_to Notes part) (fault_text ended)

-- what went out is what the command may have put so far, and then the line that tells what cut it off, or a front of it
pub record WentOutSoFar (m : Meaning) (ended : Status) (before after : Seen) (r : Read) : Type 0 where
  pub part : List Put
  pub found : m.may_have_put r (handed_by before.files) (handed_by after.files) part
  pub made : Takes before.made.bytes after.made.bytes (bytes_to Made part)
  pub out : Takes before.out.bytes after.out.bytes (bytes_to Out part)
  pub notes : TakesThen before.notes after.notes (bytes_to Notes part) (fault_text ended)

-- notes failed to take what an answer says: of what it puts a front went out, up to a byte for notes
pub record FailedToSay (before after : Taken) (answer : Answer) : Type 0 where
  pub part : List Put
  pub broke : BreaksOff Notes part answer.puts
  pub went : GoOut before after part

-- what a run leaves where it was cut off or notes failed; and, whatever its status, of a file that grows
pub record RunLeaves (m : Meaning) (before after : Seen) (ended : Status) : Type 0 where
  -- where the work was cut off, or notes failed, a front of what an answer puts went out. Of work that was cut off `so_far` says
  -- further which front, and `cut_off_said` of `RunSays` what notes took before their last line: all hold of one run
  pub cut_off : IsCutOff ended → IfAnswered m before (WasCutOff ended before after)
  pub failed_to_say : ended ≡ status.Notes
      → IfAnswered m before (FailedToSay (taken_in before) (taken_in after))
  pub grown_cut : IsCutOff ended ⊎ (ended ≡ status.Notes) → IfGrown m before after m.may_leave
  pub grown_kept : m.uses.grown ≡ true → IfSome before.grown.bytes (λ held. IsSomeAnd after.grown.bytes (λ holds. m.keeps ended held holds))
  -- where reading was cut off, and neither the made file nor standard output failed too, what went out ends where the command may
  -- break off, as behind a whole chunk; where one did, it is any front, as `cut_off` says
  pub so_far : IsReadingCutOff ended → HadNoSinkFault m.uses before after
      → IfRead m before (WentOutSoFar m ended before after)
