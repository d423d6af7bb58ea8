-- Promise. What `show` prints, says and ends with where it goes on past damage. Own.
use Rattle.std.specs.Prelude.{◌≡◌, ℕ, ◌-◌, false, List, ◌++◌}
use Rattle.std.specs.List.{enumerate_from, flat_map}
use Rattle.record_io.specs.Puts.{Put, Out, Notes, puts_to}
use Rattle.damage_skip.specs.Pieces.{Piece, AreEvents, records_of}
use Rattle.recover_command.specs.declared.recover_words.RecoverWords.{RecoverWords}
use Rattle.command_frame.specs.Answers.{Answer}
use Rattle.command_frame.specs.FileAnswers.{file_meaning}
use Rattle.show_command.specs.declared.show_words.RecordForm.{RecordForm}
use Rattle.show_command.specs.Readings.{record_line}
use Rattle.damage_skip.specs.Bounds.{MaySkip, walked, refused_in}
use Rattle.damage_skip.specs.Regions.{region_of, regions_in, told_text, IsWalkedTo, stopped_text}
use Rattle.damage_skip.specs.Takings.{IsTakenUpTo}
use Rattle.recover_command.specs.WalkAnswers.{walk_status, MayTakeWalk, MaySayWalk, MayEndWalk}
use Rattle.command_frame.specs.Meanings.{Meaning}

-- what is put of an event: the lines of its records, or its line, if it is a region
abbrev pub event_puts : RecordForm → Piece → List Put
event_puts form event =
    puts_to Out (flat_map (record_line form) (enumerate_from event.begin (records_of event.what)))
    ++ puts_to Notes (told_text (region_of event))

-- the answer to a file: its events before the first refused region, each as it is met, and the line of the refused region,
-- if there is one
pub record IsRecovered (words : RecoverWords) (file : List ℕ) (answer : Answer) : Type 0 where
  pub events : List Piece
  pub are : AreEvents false file events
  pub puts : answer.puts ≡ flat_map (event_puts words.show.form) (walked words.most events)
      ++ puts_to Notes (stopped_text (refused_in words.most events))
  pub status : answer.status ≡ walk_status (regions_in (walked words.most events)) (refused_in words.most events)

-- what was put so far: that of the events up to a place. The pieces up to there and the one there account for what was handed out
pub record IsRecoveredSoFar (words : RecoverWords) (before after : ℕ) (file : List ℕ) (part : List Put) : Type 0 where
  pub place : ℕ
  pub events : List Piece
  pub walked : IsWalkedTo false (MaySkip words.most) file place events
  pub puts : part ≡ flat_map (event_puts words.show.form) events
  pub taken : IsTakenUpTo false file 0 place (after - before)

-- what `show` means where it goes on past damage
abbrev pub recover_meaning : RecoverWords → Meaning
recover_meaning words = record (file_meaning (IsRecovered words) (IsRecoveredSoFar words)) {
  may_take_of = λ r before after. MayTakeWalk false words.most r.files before after;
  may_end = MayEndWalk words.most;
  may_say = MaySayWalk words.most;
}
