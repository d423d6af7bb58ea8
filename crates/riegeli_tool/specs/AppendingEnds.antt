-- Inside. How the work of `append` ends. Own.
use Rattle.std.specs.Prelude.{◌≡◌, ℕ, ◌<◌, ◌≤◌, ◌⊎◌, true, Bool, Option, Some, None, Result, Ok, Err, IfSome, List, [], ◌∷◌, length}
use Rattle.record_io.specs.Outside.{Takes, TakesShort}
use Rattle.record_writer.specs.Feeds.{Rest}
use Rattle.record_writer.specs.declared.feed.Stop.{Stop}
use Rattle.record_append.specs.Appends.{HoldsAppended, GrowsFrom, HoldsGrown, HoldsGrownInPart, KeepsFront}
use Rattle.record_append.specs.Grown.{IsRefusedToGrow, RefusesFor}
use Rattle.record_append.specs.declared.appends.AppendEnd.{AppendEnd}
use Rattle.command_frame.specs.Endings.{Endings, MayBeCut}
use Rattle.command_frame.specs.FileAnswers.{IsInReach, IsTooLong, most_file_bytes}
use Rattle.command_frame.specs.declared.ending.Ending.{Ending}
use Rattle.command_frame.specs.declared.status.Status.{Status}
use Rattle.show_command.specs.Readings.{refused_text}
use Rattle.write_command.specs.WriteCommand.{stop_status, stop_text}
use Rattle.riegeli_tool.specs.AppendCommand.{append_meaning, grown_text}
use Rattle.riegeli_tool.specs.declared.append.Unappended.{Unappended}
use Rattle.riegeli_tool.specs.declared.append.Unappended.TheVariants.{Refused, Stopped}
use Rattle.riegeli_tool.specs.declared.append_words.AppendWords.{AppendWords}
use Rattle.record_append.specs.declared.appends.AppendEnd.TheVariants as append
use Rattle.record_writer.specs.declared.feed.Stop.TheVariants as stop
use Rattle.record_io.specs.declared.cut.Cut.TheVariants as cut
use Rattle.command_frame.specs.declared.ending.Ending.TheVariants as end
use Rattle.command_frame.specs.declared.status.Status.TheVariants as status

-- the end by which records were not put to a file to the end of their feed
abbrev pub end_of_append : AppendEnd → Ending Unappended
end_of_append (append.Refused fault) = end.At (Refused fault)
end_of_append (append.TooLong count) = end.At (Stopped stop.TooLong count)
end_of_append append.InputTooLong = end.At (Stopped stop.InputTooLong 0)
end_of_append (append.BadLine count) = end.At (Stopped stop.BadLine count)
end_of_append append.Input = end.Cut cut.Input
end_of_append append.Device = end.Cut cut.Grown
end_of_append append.Memory = end.Cut cut.Memory

-- what is said where it goes no further, and the status
abbrev pub unappended_text : Unappended → List ℕ
unappended_text (Refused fault) = refused_text fault
unappended_text (Stopped stop count) = stop_text count (Some stop)

abbrev pub unappended_status : Unappended → Status
unappended_status (Refused fault) = status.Refused
unappended_status (Stopped stop count) = stop_status (Some stop)

-- where it is done nothing is said
abbrev pub appending_ends : {X : Type 0} → Endings X Unappended
appending_ends = record { done = λ _. status.Ok; text = unappended_text; status = unappended_status }

-- the file, whose bytes are these, where it shows them, told a size, of which P holds. It tells that still, or none: its size, which
-- was within the limit, may have changed, since it was cut or put to
abbrev pub HasTold : (bytes : Option (List ℕ)) (told : Option ℕ) → (ℕ → Type 0) → Type 0
HasTold bytes told P =
    (size : ℕ) × P size × IfSome bytes (λ file. size ≡ length file)
    × ((told ≡ Some size) ⊎ ((told ≡ None) × IsInReach (size ∷ [])))

-- the work may end so, by the size that the file told: past the limit, or within it, unless the file failed; it tells that still
-- where it is too long or refused, and is refused only where it has a byte, for a reason for which files are
abbrev pub IsSizedBy : {X : Type 0} → Result X (Ending Unappended) → AppendWords → (bytes : Option (List ℕ)) (told : Option ℕ) → Type 0
IsSizedBy (Ok x) words bytes told = HasTold bytes told (λ size. IsInReach (size ∷ []))
IsSizedBy (Err end.Limit) words bytes told = HasTold bytes told (λ size. IsTooLong (size ∷ []) × (told ≡ Some size))
IsSizedBy (Err (end.At (Refused fault))) words bytes told =
    HasTold bytes told (λ size. IsInReach (size ∷ []) × (told ≡ Some size) × (0 < size) × RefusesFor words.cut fault.why)
IsSizedBy (Err (end.At (Stopped stop count))) words bytes told = HasTold bytes told (λ size. IsInReach (size ∷ []))
IsSizedBy (Err (end.Cut cut.Grown)) words bytes told = (append_meaning words).uses.grown ≡ true
IsSizedBy (Err (end.Cut cut)) words bytes told = MayBeCut (append_meaning words) cut × HasTold bytes told (λ size. IsInReach (size ∷ []))

-- all records were put to the file, and of what became of it was printed what Prints says: all, or a front and not all
abbrev pub IsTold : ((before after : Option (List ℕ)) → List ℕ → Type 0) → AppendWords → Rest → (file : List ℕ) (held out out_then : Option (List ℕ)) → Type 0
IsTold Prints words rest file held out out_then =
    (rest.stop ≡ None) × (place : ℕ) × HoldsGrown words.write.options words.cut file place rest.records held
    × Prints out out_then (grown_text words file place rest.records)

-- those before a stop were put to it
abbrev pub IsStopped : AppendWords → Rest → (file : List ℕ) (held : Option (List ℕ)) → Stop → ℕ → Type 0
IsStopped words rest file held stop count =
    (rest.stop ≡ Some stop) × (stop_text (length rest.records) (Some stop) ≡ stop_text count (Some stop))
    × HoldsAppended words.write.options words.cut file rest.records held

-- what an old file holds of a feed's records and standard output took, by how the work ended
abbrev pub HasAppended : {X : Type 0} → Result X (Ending Unappended) → AppendWords → Rest → (file : List ℕ) (held out out_then : Option (List ℕ)) → Type 0
HasAppended (Ok x) words rest file held out out_then = IsTold Takes words rest file held out out_then
HasAppended (Err end.Limit) words rest file held out out_then = (most_file_bytes < length file) × (held ≡ Some file) × (out_then ≡ out)
HasAppended (Err (end.At (Refused fault))) words rest file held out out_then =
    IsRefusedToGrow words.cut file fault × (held ≡ Some file) × (out_then ≡ out)
HasAppended (Err (end.At (Stopped stop count))) words rest file held out out_then =
    IsStopped words rest file held stop count × (out_then ≡ out)
HasAppended (Err (end.Cut cut.Out)) words rest file held out out_then = IsTold TakesShort words rest file held out out_then
HasAppended (Err (end.Cut other)) words rest file held out out_then =
    ((held ≡ Some file)
    ⊎ ((length file ≤ most_file_bytes) × HoldsGrownInPart words.write.options words.cut file rest.records held))
    × (out_then ≡ out)

-- what the file keeps of what it held, by how the work ended
abbrev pub KeepsOldAtEnd : {X : Type 0} → Result X (Ending Unappended) → Bool → (file held : List ℕ) → Type 0
KeepsOldAtEnd (Ok x) may_cut file held = (place : ℕ) × GrowsFrom may_cut file place held
KeepsOldAtEnd (Err end.Limit) may_cut file held = held ≡ file
KeepsOldAtEnd (Err (end.At (Refused fault))) may_cut file held = held ≡ file
KeepsOldAtEnd (Err (end.At (Stopped stop count))) may_cut file held = (place : ℕ) × GrowsFrom may_cut file place held
KeepsOldAtEnd (Err (end.Cut cut.Out)) may_cut file held = (place : ℕ) × GrowsFrom may_cut file place held
KeepsOldAtEnd (Err (end.Cut other)) may_cut file held = KeepsFront may_cut file held
