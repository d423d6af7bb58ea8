-- Inside. How far `show` has gone on past damage. Own.
use Rattle.std.specs.Prelude.{◌≡◌, ℕ, ◌+◌, ◌^◌, ◌<◌, false, ⊤, None, Result, Ok, Err, List, [], ◌++◌, length, take}
use Rattle.std.specs.List.{enumerate_from, flat_map}
use Rattle.record_io.specs.Calls.{OnlyCounts}
use Rattle.record_io.specs.Puts.{Out, Notes, Taken, GoOut, puts_to}
use Rattle.record_io.specs.Buffers.{GoOutOrAreHeld}
use Rattle.damage_skip.specs.Pieces.{Piece, records_of}
use Rattle.damage_skip.specs.Bounds.{MaySkip}
use Rattle.damage_skip.specs.Regions.{regions_in, IsWalkedTo}
use Rattle.damage_skip.specs.Walks.{piece_of}
use Rattle.recover_command.specs.WalkAnswers.{walk_status}
use Rattle.damage_skip.specs.declared.events.Event.{Event}
use Rattle.damage_skip.specs.declared.events.WalkEnd.{WalkEnd}
use Rattle.recover_command.specs.declared.recover_words.RecoverWords.{RecoverWords}
use Rattle.command_frame.specs.declared.status.Status.{Status}
use Rattle.damage_skip.specs.declared.regions.Region.{Region}
use Rattle.command_frame.specs.declared.ending.Ending.{Ending}
use Rattle.recover_command.specs.RecoverCommand.{event_puts}
use Rattle.show_command.specs.ShowProgress.{record_lines}
use Rattle.damage_skip.specs.declared.events.Event.TheVariants as event
use Rattle.damage_skip.specs.declared.events.WalkEnd.TheVariants as walk
use Rattle.command_frame.specs.declared.status.Status.TheVariants as status
use Rattle.record_io.specs.declared.cut.Cut.TheVariants as cut
use Rattle.command_frame.specs.declared.ending.Ending.TheVariants as end

-- an event that is a chunk which is kept
abbrev pub IsKept : Event → Type 0
IsKept (event.Kept begin chunk unread) = ⊤
IsKept other = ⊥

-- the positions of an event's records are below 2 ^ 64, and a chunk that is kept holds none
pub record IsPrintable (e : Event) : Type 0 where
  pub positions : (piece_of e).begin + length (records_of (piece_of e).what) < 2 ^ 64
  pub kept_none : IsKept e → records_of (piece_of e).what ≡ []

-- the lines of an event's records
abbrev pub event_lines : RecoverWords → Event → List ℕ
event_lines words e = record_lines words.show.form (enumerate_from (piece_of e).begin (records_of (piece_of e).what))

-- the status behind an event
abbrev pub status_after : Status → Event → Status
status_after before (event.Skipped region) = status.Skipped
status_after before other = before

-- the end by which a walk ended
abbrev pub end_of_walk : WalkEnd → Ending Region
end_of_walk (walk.Stopped region) = end.At region
end_of_walk walk.Store = end.Cut cut.File
end_of_walk walk.Memory = end.Cut cut.Memory

-- behind what is held an event puts its lines, and then its line, if it is a region: all of it went out, but for lines that are
-- held; or a front did, up to a byte to the stream that failed
abbrev pub PrintsEvent : {X : Type 0} → Result X (Ending Region) → (lines text : List ℕ) → (before after : Taken) → (held held_then : List ℕ) → Type 0
PrintsEvent (Ok _) lines text before after held held_then =
    GoOutOrAreHeld before after Out (puts_to Out (held ++ lines) ++ puts_to Notes text) held_then
PrintsEvent (Err (end.Cut cut.Out)) lines text before after held held_then =
    (count : ℕ) × (count < length (held ++ lines)) × GoOut before after (puts_to Out (take count (held ++ lines)))
PrintsEvent (Err (end.Cut cut.Notes)) lines text before after held held_then =
    (count : ℕ) × (count < length text) × GoOut before after (puts_to Out (held ++ lines) ++ puts_to Notes (take count text))
PrintsEvent (Err other) lines text before after held held_then = ⊥

-- standard output and notes only count their faults
pub record CountStreams {O E K L X W : Type 0} (out_lent : O → K) (out_faults : O → ℕ) (notes_lent : E → L) (notes_faults : E → ℕ)
    (result : Result X (Ending W)) (out out_then : O) (notes notes_then : E) : Type 0 where
  pub out_counts : OnlyCounts out_lent out_faults (result ≡ Err (end.Cut cut.Out)) out out_then
  pub notes_counts : OnlyCounts notes_lent notes_faults (result ≡ Err (end.Cut cut.Notes)) notes notes_then

-- all that events up to a place put went out, but for lines that are held
pub record HasPrintedTo (words : RecoverWords) (file : List ℕ) (place : ℕ) (before after : Taken) (held : List ℕ) (ended : Status) : Type 0 where
  pub events : List Piece
  pub walked : IsWalkedTo false (MaySkip words.most) file place events
  pub went : GoOutOrAreHeld before after Out (flat_map (event_puts words.show.form) events) held
  pub status : ended ≡ walk_status (regions_in events) None
