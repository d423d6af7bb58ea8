-- Promise. What `repair` makes, prints, says and ends with. Own.
use Rattle.std.specs.Prelude.{◌≡◌, ℕ, ◌-◌, true, Option, Some, None, List, [], ◌∷◌, ◌++◌}
use lib.Chars.{codes}
use Rattle.record_io.specs.Puts.{Put, Out, Notes, puts_to}
use Rattle.chunk_header.specs.Chunks.{ChunkValue}
use Rattle.meta_chunk.specs.Files.{totals_of, signature}
use Rattle.damage_skip.specs.Pieces.{Piece, AreEvents}
use Rattle.damage_skip.specs.Bounds.{MaySkip, walked, refused_in}
use Rattle.damage_skip.specs.Regions.{region_text, regions_in, IsWalkedTo}
use Rattle.damage_skip.specs.Takings.{IsTakenUpTo}
use Rattle.recover_command.specs.WalkAnswers.{walk_status, MayTakeWalk, MaySayWalk, MayEndWalk}
use Rattle.damage_skip.specs.declared.regions.Region.{Region}
use Rattle.repair_copy.specs.RepairPuts.{chunks_in, repair_puts}
use Rattle.riegeli_tool.specs.declared.repair_words.RepairWords.{RepairWords}
use Rattle.command_frame.specs.Answers.{Answer}
use Rattle.command_frame.specs.FileAnswers.{file_meaning, report}
use Rattle.command_frame.specs.Meanings.{Meaning, none_used}

-- what is put last: the report of the file of these chunks, or the line of the region that is refused
abbrev pub end_puts : Option Region → List ChunkValue → List Put
end_puts None ks = puts_to Out (report (totals_of (signature ∷ ks)))
end_puts (Some region) ks = puts_to Notes (region_text (codes "stopped") region)

-- the answer to a file: the file of its events before the first refused region, and the line of each region among these as
-- it is met; then the report of that file, or the line of the refused region, if there is one
pub record IsRepaired (words : RepairWords) (file : List ℕ) (answer : Answer) : Type 0 where
  pub events : List Piece
  pub are : AreEvents true file events
  pub puts : answer.puts ≡ repair_puts (walked words.most events)
      ++ end_puts (refused_in words.most events) (chunks_in (walked words.most events))
  pub status : answer.status ≡ walk_status (regions_in (walked words.most events)) (refused_in words.most events)

-- what is put of the first events: nothing before there is one
abbrev pub first_puts : List Piece → List Put
first_puts [] = []
first_puts (event ∷ events) = repair_puts (event ∷ events)

-- what was put so far: that of the events up to a place. The pieces up to there and the one there account for what was handed out
pub record IsRepairedSoFar (words : RepairWords) (before after : ℕ) (file : List ℕ) (part : List Put) : Type 0 where
  pub place : ℕ
  pub events : List Piece
  pub walked : IsWalkedTo true (MaySkip words.most) file place events
  pub puts : part ≡ first_puts events
  pub taken : IsTakenUpTo true file 0 place (after - before)

-- what `repair` means
abbrev pub repair_meaning : RepairWords → Meaning
repair_meaning words = record (file_meaning (IsRepaired words) (IsRepairedSoFar words)) {
  uses = record none_used { files = true; made = true; out = true; memory = true };
  may_take_of = λ r before after. MayTakeWalk true words.most r.files before after;
  may_end = MayEndWalk words.most;
  may_say = MaySayWalk words.most;
}
