-- Inside. How the work of `ranges` ends. Own.
use Rattle.std.specs.Prelude.{◌≡◌, ℕ, false, Option, Result, Ok, Err, List, Vec, length, map}
use Rattle.std.specs.Global.{Global}
use Rattle.std.specs.List.{flat_map}
use Rattle.record_io.specs.Outside.{Takes, TakesShort}
use Rattle.chunk_reader.specs.Faults.{IsFault}
use Rattle.chunk_reader.specs.declared.reasons.ReadEnd.{ReadEnd}
use Rattle.command_frame.specs.Answers.{line}
use Rattle.command_frame.specs.Endings.{ArePast, Endings, HaveTold}
use Rattle.command_frame.specs.FileAnswers.{AreWithin}
use Rattle.command_frame.specs.declared.ending.Ending.{Ending}
use Rattle.command_frame.specs.declared.status.Status.{Status}
use Rattle.show_command.specs.Readings.{refused_text}
use Rattle.record_ranges.specs.RangesCommand.{AreAlike, Differ, IsTextOfFile, MayBeRead, differ_text, most_range_bytes}
use Rattle.record_ranges.specs.Reads.{IfAllTellSame}
use Rattle.record_ranges.specs.declared.file_sizes.SizesEnd.{SizesEnd}
use Rattle.record_ranges.specs.declared.stretches.Stretch.{Stretch}
use Rattle.record_ranges.specs.declared.range_ends.RangesStop.{RangesStop}
use Rattle.chunk_reader.specs.declared.reasons.ReadEnd.TheVariants as read
use Rattle.record_io.specs.declared.cut.Cut.TheVariants as cut
use Rattle.command_frame.specs.declared.ending.Ending.TheVariants as end
use Rattle.command_frame.specs.declared.status.Status.TheVariants as status
use Rattle.record_ranges.specs.declared.file_sizes.SizesEnd.TheVariants as sizes_end
use Rattle.record_ranges.specs.declared.range_ends.RangesStop.TheVariants as stop

-- the line that tells why the file is not read, and the status
abbrev pub stop_text : RangesStop → List ℕ
stop_text (stop.Refused fault) = refused_text fault
stop_text (stop.Differ first other) = differ_text first other

abbrev pub stop_status : RangesStop → Status
stop_status (stop.Refused fault) = status.Refused
stop_status (stop.Differ first other) = status.Differ

-- where it is done nothing is said
abbrev pub range_ends : {X : Type 0} → Endings X RangesStop
range_ends = record { done = λ _. status.Ok; text = stop_text; status = stop_status }

-- the end by which a file was not read
abbrev pub end_of_read : ReadEnd → Ending RangesStop
end_of_read (read.Refused fault) = end.At (stop.Refused fault)
end_of_read read.Store = end.Cut cut.File
end_of_read read.Memory = end.Cut cut.Memory

-- the size of a file by those that its stores told, or why it isn't read
abbrev pub IsSizeBy : Result ℕ SizesEnd → List ℕ → Type 0
IsSizeBy (Ok size) sizes = AreAlike size sizes
IsSizeBy (Err sizes_end.Limit) sizes = ArePast (AreWithin most_range_bytes) sizes
IsSizeBy (Err (sizes_end.Differ first other)) sizes = AreWithin most_range_bytes sizes × Differ sizes first other

-- the sizes of its stores by which it isn't read: those of a file that is judged, where it is refused, and such as differ
abbrev pub StopsBy : RangesStop → List ℕ → Type 0
StopsBy (stop.Refused fault) sizes = MayBeRead sizes
StopsBy (stop.Differ first other) sizes = AreWithin most_range_bytes sizes × Differ sizes first other

-- the records of parts, one after another, each as a line
abbrev pub part_lines : List (List ℕ) → List ℕ
part_lines records = flat_map line records

-- the texts that stretches keep, one after another
abbrev pub all_texts : List (Stretch (List ℕ)) → List ℕ
all_texts parts = flat_map (λ s. s.kept) parts

-- what a file that was read, by how that ended, is
abbrev pub IsReadIn : Result (Vec (Stretch (List ℕ)) Global) ReadEnd → List ℕ → Type 0
IsReadIn (Ok parts) file = IsTextOfFile file (all_texts parts.items)
IsReadIn (Err (read.Refused fault)) file = IsFault false file fault
IsReadIn (Err other) file = Unit {0}

-- what standard output took of a file by how the work ended, where it is the one that all stores show
abbrev pub PrintsFile : {X : Type 0} → Result X (Ending RangesStop) → List ℕ → (out out_then : Option (List ℕ)) → Type 0
PrintsFile (Ok x) file out out_then = (text : List ℕ) × IsTextOfFile file text × Takes out out_then text
PrintsFile (Err (end.At (stop.Refused fault))) file out out_then = IsFault false file fault
PrintsFile (Err (end.Cut cut.Out)) file out out_then = (text : List ℕ) × IsTextOfFile file text × TakesShort out out_then text
PrintsFile (Err other) file out out_then = Unit {0}

-- nothing is printed of a file that isn't read to its end
abbrev pub PrintsOnlyWhole : {X : Type 0} → Result X (Ending RangesStop) → (out out_then : Option (List ℕ)) → Type 0
PrintsOnlyWhole (Ok x) out out_then = Unit {0}
PrintsOnlyWhole (Err (end.Cut cut.Out)) out out_then = Unit {0}
PrintsOnlyWhole (Err other) out out_then = out_then ≡ out

-- what standard output took of the one file that all stores show, and that it took nothing of one that isn't read to its end
pub record PrintsOne {S X : Type 0} (bytes : S → Option (List ℕ)) (stores : List S) (result : Result X (Ending RangesStop)) (out out_then : Option (List ℕ)) : Type 0 where
  pub of_file : IfAllTellSame bytes stores (λ file. PrintsFile result file out out_then)
  pub only_whole : PrintsOnlyWhole result out out_then

-- stores all told this size, by which their file is read, and it is that of the one file that they show
pub record AreOfOneFile {S : Type 0} (bytes : S → Option (List ℕ)) (told : S → Option ℕ) (size : ℕ) (stores : List S) : Type 0 where
  pub alike : HaveTold (map told stores) (AreAlike size)
  pub exact : IfAllTellSame bytes stores (λ file. size ≡ length file)
