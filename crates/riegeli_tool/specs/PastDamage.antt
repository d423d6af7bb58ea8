-- Promise. What `show` and `repair` answer past damage and to the front of a file. Own.
use Rattle.std.specs.Prelude.{◌≡◌, ℕ, ◌^◌, ◌≤◌, ⊤, Bool, true, false, Option, Some, MatchOption, List, [], ◌∷◌, ◌++◌, length, take}
use Rattle.std.specs.List.{AllByRecursion, flat_map}
use Rattle.record_io.specs.Puts.{Notes, puts_to}
use Rattle.chunk_header.specs.Chunks.{ChunkValue}
use Rattle.meta_chunk.specs.Files.{IsWellFormed, AreRecordsOf}
use Rattle.damage_skip.specs.Bounds.{may_skip, MaySkip, walked, refused_in}
use Rattle.damage_skip.specs.Damage.{Intact, IsDamaged, AreReached, AreLostUpToABlock, DamageLeavesEach, untouched}
use Rattle.damage_skip.specs.FrontPieces.{AreFrontPieces}
use Rattle.damage_skip.specs.Pieces.{Piece, Skipped, events_in, records_in}
use Rattle.damage_skip.specs.Regions.{regions_in, stopped_text}
use Rattle.damage_skip.specs.declared.regions.Region.{Region}
use Rattle.repair_copy.specs.RepairPuts.{chunks_in, repair_puts}
use Rattle.repair_copy.specs.CopiedChunks.{copied}
use Rattle.command_frame.specs.Answers.{Answer}
use Rattle.command_frame.specs.Meanings.{Meaning}
use Rattle.recover_command.specs.RecoverCommand.{event_puts}
use Rattle.recover_command.specs.WalkAnswers.{walk_status}
use Rattle.recover_command.specs.declared.recover_words.RecoverWords.{RecoverWords}
use Rattle.riegeli_tool.specs.CommandAnswers.{meaning_of}
use Rattle.riegeli_tool.specs.RepairCommand.{end_puts}
use Rattle.riegeli_tool.specs.declared.command.Command.{Command}
use Rattle.riegeli_tool.specs.declared.command.Command.TheVariants.{Recover, Repair}

-- what a command that goes past damage answers where a walk gave these events, and then stopped at this region, if at one
abbrev pub recovered_as : RecoverWords → List Piece → Option Region → Answer
recovered_as words given stopped = record {
  puts = flat_map (event_puts words.show.form) given ++ puts_to Notes (stopped_text stopped);
  status = walk_status (regions_in given) stopped;
}

abbrev pub repaired_as : List Piece → Option Region → Answer
repaired_as given stopped = record {
  puts = repair_puts given ++ end_puts stopped (chunks_in given);
  status = walk_status (regions_in given) stopped;
}

-- an answer to a damaged file is that of the chunks reached before one, where the walk ends: at the file's end, or at what
-- damage leaves of this chunk where that is a region that may not be skipped. What is given are the records of the untouched
-- ones, and their chunks, where they are copied; and the regions that damage leaves of the others, which may all be skipped.
-- Those that aren't reached are lost up to a block
pub record IsAnswerPastDamage (unread_ok : Bool) (most : Option ℕ)
    (answer_as : List Piece → Option Region → Answer) (ks : List ChunkValue)
    (intact : Intact) (answer : Answer) : Type 0 where
  pub to : ℕ
  pub numbers : List ℕ
  pub reached : AreReached ks intact 0 to numbers
  pub pieces : List Piece
  pub left : DamageLeavesEach unread_ok ks intact 0 to pieces
  pub skips : AllByRecursion (MaySkip most) (regions_in (events_in pieces))
  pub stopped : Option Region
  pub ends : MatchOption stopped (to ≡ length ks)
      (λ region.
      ((next : ℕ)
      × DamageLeavesEach unread_ok ks intact to next
      (record { begin = region.begin; end = region.end; what = Skipped region.why } ∷ []))
      × (may_skip most region ≡ false))
  pub answers : answer ≡ answer_as (events_in pieces) stopped
  pub records : AreRecordsOf (untouched ks intact numbers) (records_in (events_in pieces))
  pub chunks : chunks_in (events_in pieces) ≡ copied unread_ok (untouched ks intact numbers)
  pub lost : AreLostUpToABlock ks intact to numbers

-- an answer to the front of a file of chunks is that of the pieces of the chunks that it has whole, and of the one that is cut,
-- up to the first region that may not be skipped
pub record IsAnswerToFront (unread_ok : Bool) (most : Option ℕ)
    (answer_as : List Piece → Option Region → Answer) (ks : List ChunkValue) (file : List ℕ)
    (m : ℕ) (answer : Answer) : Type 0 where
  pub pieces : List Piece
  pub apart : AreFrontPieces unread_ok ks file m pieces
  pub answers : answer ≡ answer_as (walked most (events_in pieces)) (refused_in most (events_in pieces))

-- the answer to a file is so told where the file is a damaged one, and where it is the front of a file of chunks
pub record IsToldSo (unread_ok : Bool) (most : Option ℕ)
    (answer_as : List Piece → Option Region → Answer) (bytes : List ℕ)
    (answer : Answer) : Type 0 where
  pub damaged : (ks : List ChunkValue) (file : List ℕ) (intact : Intact) → IsDamaged ks file bytes intact
      → IsAnswerPastDamage unread_ok most answer_as ks intact answer
  pub front : (ks : List ChunkValue) (file : List ℕ) (m : ℕ) → IsWellFormed ks file
      → m ≤ length file → bytes ≡ take m file
      → IsAnswerToFront unread_ok most answer_as ks file m answer

-- of the commands that go past damage, in a file that is read
abbrev pub IsToldPastDamage : Option Command → List ℕ → Answer → Type 0
IsToldPastDamage (Some (Recover words)) bytes answer = IsToldSo false words.most (recovered_as words) bytes answer
IsToldPastDamage (Some (Repair words)) bytes answer = IsToldSo true words.most repaired_as bytes answer
IsToldPastDamage other bytes answer = ⊤

-- what a command means, with its answers so told where its file isn't too long
abbrev pub meaning_past_damage : Option Command → Meaning
meaning_past_damage command = record (meaning_of command) {
  answers = λ r answer. (meaning_of command).answers r answer
      × ((bytes : List ℕ) → r.files ≡ bytes ∷ [] → length bytes ≤ 2 ^ 60 → IsToldPastDamage command bytes answer);
}
