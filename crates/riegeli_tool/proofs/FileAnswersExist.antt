-- Each file of bytes has an answer of each command that reads one.
use Rattle.std.proofs.Common.{◌≡◌, ◌==◌, ℕ, Bool, true, false, Option, Some, None, List, ◌++◌, length, refl, sym, ap, subst, arith, if◌then◌else◌}
use Rattle.std.specs.List.{AllByRecursion}
use Rattle.std.proofs.lemmas.Bool.{eqb-true}
use Rattle.record_values.specs.Bytes.{AreBytes}
use Rattle.damage_skip.proofs.Tiles.{events_of}
use Rattle.repair_copy.specs.RepairPuts.{chunks_in, repair_puts}
use Rattle.riegeli_tool.specs.declared.command.Command.{Command}
use Rattle.riegeli_tool.specs.declared.command.Command.TheVariants.{Write, Show, Recover, Verify, Seek, Repair, Sample, Join, Ranges, Append, Collect}
use Rattle.riegeli_tool.specs.declared.repair_words.RepairWords.{RepairWords}
use Rattle.command_frame.specs.Answers.{Answer}
use Rattle.riegeli_tool.specs.CommandAnswers.{usage, meaning_of}
use Rattle.write_command.specs.WriteCommand.{write_answer}
use Rattle.show_command.specs.ShowCommand.{IsShown}
use Rattle.damage_skip.specs.Bounds.{walked, refused_in}
use Rattle.damage_skip.specs.Regions.{regions_in}
use Rattle.recover_command.specs.WalkAnswers.{walk_status}
use Rattle.recover_command.specs.RecoverCommand.{IsRecovered}
use Rattle.show_command.specs.VerifyCommand.{IsVerified}
use Rattle.riegeli_tool.specs.RepairCommand.{end_puts, IsRepaired}
use Rattle.sample_command.specs.SampleCommand.{sample_answer}
use Rattle.riegeli_tool.specs.Commands.{stores_of, command_of, accepted}
use Rattle.riegeli_tool.specs.CommandLimits.{IsWithinLimits}
use Rattle.riegeli_tool.specs.AnswersTo.{IsAnswerTo}
use Rattle.command_frame.specs.Meanings.{Read}
use Rattle.command_frame.specs.Options.{◌>>=◌}
use Rattle.command_frame.proofs.OneAnswer.{of_file_exists}
use Rattle.recover_command.proofs.OneRecovery.{recovered_exists}
use Rattle.show_command.proofs.ReadingsExist.{shown_exists, verified_exists}
use Rattle.seek_command.specs.SeekCommand.{IsSeekAnswer}
use Rattle.seek_command.proofs.OneSought.{sought_exists}
use Rattle.join_command.proofs.JoinAnswers.{join_exists}
use Rattle.join_command.proofs.CollectAnswers.{collect_exists}
use Rattle.riegeli_tool.specs.AppendCommand.{lines_taken}
use Rattle.riegeli_tool.proofs.AcceptedLimits.{accepted-within}
use Rattle.record_ranges.proofs.RangesAnswers.{ranges_exists}
use Rattle.riegeli_tool.proofs.AppendAnswers.{grown_exists}

-- `repair` has an answer
pub repaired_exists : (words : RepairWords) (file : List ℕ) → AreBytes file → (answer : Answer) × IsRepaired words file answer
repaired_exists words file bytes =
    let events = events_of true file in (
      record {
        puts = repair_puts (walked words.most events.0)
            ++ end_puts (refused_in words.most events.0) (chunks_in (walked words.most events.0));
        status = walk_status (regions_in (walked words.most events.0)) (refused_in words.most events.0);
      },
      record { events = events.0; are = events.1; puts = refl; status = refl },
    )

-- an accepted command takes as many stores as are handed in
kept : (command : Command) (count : ℕ) (known : Command) (same : Bool) → (stores_of command == count) ≡ same
    → (if same then Some command else None) ≡ Some known → stores_of known ≡ count
kept command count known true same is =
    let one : command ≡ known = cc is in
    subst (λ (c : Command). stores_of c ≡ count) one (eqb-true (stores_of command) count same)
kept command count known false same is = absurd (cc is)

pub accepted-takes : (command : Option Command) (count : ℕ) (known : Command)
    → (command >>= λ c. if stores_of c == count then Some c else None) ≡ Some known → stores_of known ≡ count
accepted-takes None count known is = absurd (cc is)
accepted-takes (Some command) count known is = kept command count known (stores_of command == count) refl is

-- and has an answer
command_answered : (command : Option Command) (r : Read)
    → ((known : Command) → command ≡ Some known → (stores_of known ≡ length r.files) × IsWithinLimits known) → AllByRecursion AreBytes r.files
    → AreBytes r.grown → (meaning_of command).supposes r → (answer : Answer) × IsAnswerTo command r answer
command_answered None r many bytes grown supposed = (usage, refl)
command_answered (Some (Write words)) r many bytes grown supposed = (write_answer words r.input, refl)
command_answered (Some (Show words)) r many bytes grown supposed =
    of_file_exists (IsShown words) (shown_exists words) r.files (sym (many (Show words) refl).0) bytes
command_answered (Some (Recover words)) r many bytes grown supposed =
    of_file_exists (IsRecovered words) (recovered_exists words) r.files (sym (many (Recover words) refl).0) bytes
command_answered (Some (Verify words)) r many bytes grown supposed =
    of_file_exists IsVerified verified_exists r.files (sym (many (Verify words) refl).0) bytes
command_answered (Some (Seek words)) r many bytes grown supposed =
    of_file_exists (IsSeekAnswer words) (sought_exists words) r.files (sym (many (Seek words) refl).0) bytes
command_answered (Some (Repair words)) r many bytes grown supposed =
    of_file_exists (IsRepaired words) (repaired_exists words) r.files (sym (many (Repair words) refl).0) bytes
command_answered (Some (Sample words)) r many bytes grown supposed = (sample_answer words, refl)
command_answered (Some (Join words)) r many bytes grown supposed =
    let count = many (Join words) refl in
    join_exists r.files (λ none. omega (arith, count.0, count.1.0, ap length none)) bytes
command_answered (Some (Ranges words)) r many bytes grown supposed =
    let count = many (Ranges words) refl in
    ranges_exists r.files (λ none. omega (arith, count.0, count.1.0, ap length none)) bytes supposed
command_answered (Some (Append words)) r many bytes grown supposed = grown_exists words (lines_taken words r.input) r.grown grown
command_answered (Some (Collect words)) r many bytes grown supposed = collect_exists r.files bytes

pub answer_exists : (words : List (List ℕ)) (r : Read) → AllByRecursion AreBytes r.files → AreBytes r.grown
    → (meaning_of (accepted words (length r.files))).supposes r → (answer : Answer) × IsAnswerTo (accepted words (length r.files)) r answer
answer_exists words r bytes grown supposed =
    command_answered (accepted words (length r.files)) r
    (λ known is. (accepted-takes (command_of words) (length r.files) known is, accepted-within words (length r.files) known (sym is))) bytes grown
    supposed
