-- Inside. How the work of `collect` ends. Own.
use Rattle.std.specs.Prelude.{◌≡◌, ℕ, ◌⊎◌, false, Option, Result, Ok, Err, List}
use Rattle.record_io.specs.Outside.{Takes, TakesShort}
use Rattle.record_io.specs.Calls.{TakesFront}
use Rattle.chunk_reader.specs.Faults.{IsFirstFault}
use Rattle.record_collect.specs.Gatherings.{AreGatheredOf, IsTooMuch, GatheredValue}
use Rattle.record_collect.specs.declared.gathering.GatherEnd.{GatherEnd}
use Rattle.record_collect.specs.declared.gathering.GatherEnd.TheVariants as gather
use Rattle.command_frame.specs.Endings.{Endings}
use Rattle.command_frame.specs.FileAnswers.{AreWithin, most_file_bytes}
use Rattle.command_frame.specs.declared.ending.Ending.{Ending}
use Rattle.record_io.specs.declared.cut.Cut.{Cut}
use Rattle.record_io.specs.declared.cut.Cut.TheVariants as cut
use Rattle.command_frame.specs.declared.ending.Ending.TheVariants as end
use Rattle.command_frame.specs.declared.status.Status.{Status}
use Rattle.command_frame.specs.declared.status.Status.TheVariants as status
use Rattle.show_command.specs.Readings.{refused_file_text}
use Rattle.join_command.specs.CollectCommand.{collected_file, collected_lines, too_much_text}
use Rattle.join_command.specs.declared.stops.Uncollected.{Uncollected}
use Rattle.join_command.specs.declared.stops.Uncollected.TheVariants as uncollected

-- each of the files has so few bytes that it is read
abbrev pub AreEachInReach : List ℕ → Type 0
AreEachInReach sizes = AreWithin most_file_bytes sizes

-- the end by which the records of files were not gathered
abbrev pub end_of_gather : GatherEnd → Ending Uncollected
end_of_gather (gather.Refused index fault) = end.At (uncollected.Refused index fault)
end_of_gather gather.TooMuch = end.At uncollected.TooMuch
end_of_gather gather.Store = end.Cut cut.File
end_of_gather gather.Memory = end.Cut cut.Memory

-- what is said of what they are not collected past, and the status
abbrev pub uncollected_text : Uncollected → List ℕ
uncollected_text (uncollected.Refused index fault) = refused_file_text index fault
uncollected_text uncollected.TooMuch = too_much_text

abbrev pub uncollected_status : Uncollected → Status
uncollected_status (uncollected.Refused index fault) = status.Refused
uncollected_status uncollected.TooMuch = status.Limit

-- where it is done nothing is said
abbrev pub collecting_ends : {X : Type 0} → Endings X Uncollected
collecting_ends = record { done = λ _. status.Ok; text = uncollected_text; status = uncollected_status }

-- what the made file took of bytes that are written to it, by what cut that off: a front and not all where it failed, and a front
-- where memory was wanting
abbrev pub TakesAllOrFront : {X : Type 0} → Result X Cut → List ℕ
    → (made made_then : Option (List ℕ)) → Type 0
TakesAllOrFront (Ok x) file made made_then = Takes made made_then file
TakesAllOrFront (Err cut.Made) file made made_then = TakesShort made made_then file
TakesAllOrFront (Err cut.Memory) file made made_then = TakesFront made made_then file
TakesAllOrFront (Err other) file made made_then = ⊥

-- what it and standard output took of gathered records: the file, and the lines of where each record stands; where standard output
-- failed, a front of the lines and not all; and else no lines
abbrev pub PutsGathered : {X : Type 0} → Result X Cut → GatheredValue → (made made_then out out_then : Option (List ℕ)) → Type 0
PutsGathered (Ok x) all made made_then out out_then =
    Takes made made_then (collected_file all.records) × Takes out out_then (collected_lines all)
PutsGathered (Err cut.Out) all made made_then out out_then =
    Takes made made_then (collected_file all.records) × TakesShort out out_then (collected_lines all)
PutsGathered {X} (Err cut) all made made_then out out_then =
    TakesAllOrFront {X = X} (Err cut) (collected_file all.records) made made_then × (out_then ≡ out)

-- the records of files were gathered, and this was put of them
abbrev pub AreGatheredAndPut : {X : Type 0} → Result X Cut → List (List ℕ) → (made made_then out out_then : Option (List ℕ)) → Type 0
AreGatheredAndPut result files made made_then out out_then =
    (all : GatheredValue) × AreGatheredOf files all × PutsGathered result all made made_then out out_then

-- what they took of files: where all was judged, that of the gathered records, and else nothing
abbrev pub TakeCollected : {X : Type 0} → Result X (Ending Uncollected) → List (List ℕ) → (made made_then out out_then : Option (List ℕ)) → Type 0
TakeCollected (Ok x) files made made_then out out_then = AreGatheredAndPut (Ok x) files made made_then out out_then
TakeCollected (Err (end.At (uncollected.Refused index fault))) files made made_then out out_then =
    IsFirstFault false files index fault × (made_then ≡ made) × (out_then ≡ out)
TakeCollected (Err (end.At uncollected.TooMuch)) files made made_then out out_then = IsTooMuch files × (made_then ≡ made) × (out_then ≡ out)
TakeCollected {X} (Err (end.Cut cut.Made)) files made made_then out out_then = AreGatheredAndPut {X = X} (Err cut.Made) files made made_then out out_then
TakeCollected {X} (Err (end.Cut cut.Out)) files made made_then out out_then = AreGatheredAndPut {X = X} (Err cut.Out) files made made_then out out_then
TakeCollected {X} (Err (end.Cut cut.Memory)) files made made_then out out_then =
    ((made_then ≡ made) × (out_then ≡ out)) ⊎ AreGatheredAndPut {X = X} (Err cut.Memory) files made made_then out out_then
TakeCollected (Err other) files made made_then out out_then = (made_then ≡ made) × (out_then ≡ out)
