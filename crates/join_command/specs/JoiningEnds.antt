-- Inside. How the work of `join` ends. Own.
use Rattle.std.specs.Prelude.{◌≡◌, ℕ, ◌⊎◌, true, Option, Result, Ok, Err, List, length, map}
use Rattle.record_io.specs.Outside.{Takes, TakesShort}
use Rattle.chunk_header.specs.Chunks.{ChunkValue}
use Rattle.meta_chunk.specs.Files.{totals_of, IsWellFormed}
use Rattle.chunk_reader.specs.Faults.{HaveNoFault}
use Rattle.record_join.specs.Joined.{joined}
use Rattle.record_join.specs.Joins.{AreJoinedUpTo, IsFrontJoined, IsShortJoined}
use Rattle.record_join.specs.declared.joins.JoinEnd.{JoinEnd}
use Rattle.command_frame.specs.Endings.{Endings}
use Rattle.command_frame.specs.FileAnswers.{report}
use Rattle.command_frame.specs.declared.ending.Ending.{Ending}
use Rattle.show_command.specs.Readings.{refused_file_text}
use Rattle.join_command.specs.JoinCommand.{AreTogetherInReach}
use Rattle.join_command.specs.declared.refusals.Refusal.{Refusal}
use Rattle.record_join.specs.declared.joins.JoinEnd.TheVariants as join
use Rattle.record_io.specs.declared.cut.Cut.TheVariants as cut
use Rattle.command_frame.specs.declared.ending.Ending.TheVariants as end
use Rattle.command_frame.specs.declared.status.Status.TheVariants as status

-- the end by which files were not joined
abbrev pub end_of_join : JoinEnd → Ending Refusal
end_of_join (join.Refused index fault) = end.At (record { index = index; fault = fault })
end_of_join join.Store = end.Cut cut.File
end_of_join join.Made = end.Cut cut.Made

-- where it is done nothing is said, and of a file that is refused its number and its fault
abbrev pub joining_ends : {X : Type 0} → Endings X Refusal
joining_ends = record {
  done = λ _. status.Ok;
  text = λ refusal. refused_file_text refusal.index refusal.fault;
  status = λ _. status.Refused;
}

-- all files were joined, and this of the report was printed
abbrev pub AreReported : ((before after : Option (List ℕ)) → List ℕ → Type 0) → List (List ℕ) → (made made_then out out_then : Option (List ℕ)) → Type 0
AreReported Prints files made made_then out out_then =
    HaveNoFault true files × (chunks : List ChunkValue) × IsWellFormed chunks (joined files)
    × Takes made made_then (joined files) × Prints out out_then (report (totals_of chunks))

-- what the made file and standard output took of files, by how it ended: nothing, unless it is said here
abbrev pub TakeJoined : {X : Type 0} → Result X (Ending Refusal) → List (List ℕ) → (made made_then out out_then : Option (List ℕ)) → Type 0
TakeJoined (Ok x) files made made_then out out_then = AreReported Takes files made made_then out out_then
TakeJoined (Err (end.At refusal)) files made made_then out out_then = AreJoinedUpTo files refusal.index refusal.fault made made_then × (out_then ≡ out)
TakeJoined (Err (end.Cut cut.File)) files made made_then out out_then =
    ((made_then ≡ made) ⊎ (AreTogetherInReach (map length files) × IsFrontJoined files made made_then)) × (out_then ≡ out)
TakeJoined (Err (end.Cut cut.Made)) files made made_then out out_then = IsShortJoined files made made_then × (out_then ≡ out)
TakeJoined (Err (end.Cut cut.Out)) files made made_then out out_then = AreReported TakesShort files made made_then out out_then
TakeJoined (Err other) files made made_then out out_then = (made_then ≡ made) × (out_then ≡ out)
