-- Where `show` goes on past damage it has an answer to each file of bytes, and one at most.
use Rattle.std.proofs.Common.{◌≡◌, ℕ, false, List, ◌++◌, refl, sym, ◌∙◌, ap}
use Rattle.std.specs.List.{flat_map}
use Rattle.record_values.specs.Bytes.{AreBytes}
use Rattle.record_io.specs.Puts.{Notes, puts_to}
use Rattle.damage_skip.specs.Pieces.{Piece}
use Rattle.damage_skip.proofs.Tiles.{events_of, events_one}
use Rattle.recover_command.specs.declared.recover_words.RecoverWords.{RecoverWords}
use Rattle.command_frame.specs.Answers.{Answer}
use Rattle.damage_skip.specs.Bounds.{walked, refused_in}
use Rattle.damage_skip.specs.Regions.{regions_in, stopped_text}
use Rattle.recover_command.specs.WalkAnswers.{walk_status}
use Rattle.recover_command.specs.RecoverCommand.{event_puts, IsRecovered}
use Rattle.command_frame.proofs.OneAnswer.{same_answer}

pub one_recovered : (words : RecoverWords) (file : List ℕ) (a b : Answer) → IsRecovered words file a → IsRecovered words file b → a ≡ b
one_recovered words file a b h g =
    let same : h.events ≡ g.events = events_one false file h.events g.events h.are g.are in
    same_answer a b
    (h.puts
    ∙ ap (λ (es : List Piece). flat_map (event_puts words.show.form) (walked words.most es) ++ puts_to Notes (stopped_text (refused_in words.most es))) same
    ∙ sym g.puts)
    (h.status ∙ ap (λ (es : List Piece). walk_status (regions_in (walked words.most es)) (refused_in words.most es)) same ∙ sym g.status)

pub recovered_exists : (words : RecoverWords) (file : List ℕ) → AreBytes file → (answer : Answer) × IsRecovered words file answer
recovered_exists words file bytes =
    let events = events_of false file in (
      record {
        puts = flat_map (event_puts words.show.form) (walked words.most events.0)
            ++ puts_to Notes (stopped_text (refused_in words.most events.0));
        status = walk_status (regions_in (walked words.most events.0)) (refused_in words.most events.0);
      },
      record { events = events.0; are = events.1; puts = refl; status = refl },
    )
