-- What the answers to commands keep, command by command.
use Rattle.std.proofs.Common.{◌≡◌, ℕ, true, false, Option, Some, None, List, [], ◌∷◌, ◌++◌, sym, ◌∙◌, ap}
use Rattle.damage_skip.specs.Pieces.{Piece}
use Rattle.damage_skip.proofs.Tiles.{events_one}
use Rattle.repair_copy.specs.RepairPuts.{chunks_in, repair_puts}
use Rattle.riegeli_tool.specs.declared.command.Command.{Command}
use Rattle.riegeli_tool.specs.declared.command.Command.TheVariants.{Write, Show, Recover, Verify, Seek, Repair, Sample, Join, Ranges, Append, Collect}
use Rattle.riegeli_tool.specs.declared.repair_words.RepairWords.{RepairWords}
use Rattle.command_frame.specs.Answers.{Answer}
use Rattle.show_command.specs.ShowCommand.{IsShown}
use Rattle.damage_skip.specs.Bounds.{walked, refused_in}
use Rattle.damage_skip.specs.Regions.{regions_in}
use Rattle.recover_command.specs.WalkAnswers.{walk_status}
use Rattle.recover_command.specs.RecoverCommand.{IsRecovered}
use Rattle.show_command.specs.VerifyCommand.{IsVerified}
use Rattle.riegeli_tool.specs.RepairCommand.{end_puts, IsRepaired}
use Rattle.riegeli_tool.specs.CommandAnswers.{meaning_of}
use Rattle.riegeli_tool.specs.AnswersTo.{IsAnswerTo, answers_once}
use Rattle.command_frame.specs.Meanings.{Read}
use Rattle.command_frame.proofs.OneAnswer.{one_of_file, same_answer}
use Rattle.recover_command.proofs.OneRecovery.{one_recovered}
use Rattle.seek_command.specs.SeekCommand.{IsSeekAnswer}
use Rattle.seek_command.proofs.OneSought.{one_sought}
use Rattle.show_command.proofs.OneReading.{one_shown, one_verified}
use Rattle.join_command.proofs.JoinAnswers.{join_is_one}
use Rattle.record_ranges.proofs.RangesAnswers.{ranges_is_one}
use Rattle.riegeli_tool.specs.AppendCommand.{IsAppended, lines_taken}
use Rattle.riegeli_tool.proofs.AppendAnswers.{one_appended}

-- `repair` has one answer to a file
pub one_repaired : (words : RepairWords) (file : List ℕ) (a b : Answer) → IsRepaired words file a → IsRepaired words file b → a ≡ b
one_repaired words file a b h g =
    let same : h.events ≡ g.events = events_one true file h.events g.events h.are g.are in
    same_answer a b
    (h.puts
    ∙ ap (λ (es : List Piece). repair_puts (walked words.most es) ++ end_puts (refused_in words.most es) (chunks_in (walked words.most es))) same
    ∙ sym g.puts)
    (h.status ∙ ap (λ (es : List Piece). walk_status (regions_in (walked words.most es)) (refused_in words.most es)) same ∙ sym g.status)

-- there is one answer at most, unless the command may have several
pub one_answer : (command : Option Command) (r : Read) (a b : Answer) → answers_once command ≡ true → IsAnswerTo command r a → IsAnswerTo command r b → a ≡ b
one_answer None r a b one first second = first ∙ sym second
one_answer (Some (Write words)) r a b one first second = first ∙ sym second
one_answer (Some (Show words)) r a b one first second = one_of_file (IsShown words) (one_shown words) r.files a b first second
one_answer (Some (Recover words)) r a b one first second = one_of_file (IsRecovered words) (one_recovered words) r.files a b first second
one_answer (Some (Verify words)) r a b one first second = one_of_file IsVerified one_verified r.files a b first second
one_answer (Some (Seek words)) r a b one first second =
    one_of_file (IsSeekAnswer words) (λ file x y. one_sought words file x y one) r.files a b first second
one_answer (Some (Repair words)) r a b one first second = one_of_file (IsRepaired words) (one_repaired words) r.files a b first second
one_answer (Some (Sample words)) r a b one first second = first ∙ sym second
one_answer (Some (Join words)) r a b one first second = join_is_one r.files a b first second
one_answer (Some (Ranges words)) r a b one first second = ranges_is_one r.files a b first second
one_answer (Some (Append words)) r a b one first second =
    one_of_file (IsAppended words (lines_taken words r.input)) (one_appended words (lines_taken words r.input)) (r.grown ∷ []) a b first second
one_answer (Some (Collect words)) r a b one first second = absurd (cc one)

-- an input that isn't used may be any
pub any_input : (command : Option Command) (r : Read) (other : List ℕ) (a : Answer)
    → (meaning_of command).uses.input ≡ false → IsAnswerTo command r a → IsAnswerTo command (record r { input = other }) a
any_input None r other a unused is = is
any_input (Some (Write words)) r other a unused is = absurd (cc unused)
any_input (Some (Show words)) r other a unused is = is
any_input (Some (Recover words)) r other a unused is = is
any_input (Some (Verify words)) r other a unused is = is
any_input (Some (Seek words)) r other a unused is = is
any_input (Some (Repair words)) r other a unused is = is
any_input (Some (Sample words)) r other a unused is = is
any_input (Some (Join words)) r other a unused is = is
any_input (Some (Ranges words)) r other a unused is = is
any_input (Some (Append words)) r other a unused is = absurd (cc unused)
any_input (Some (Collect words)) r other a unused is = is

-- so may files
pub any_files : (command : Option Command) (r : Read) (others : List (List ℕ)) (a : Answer)
    → (meaning_of command).uses.files ≡ false → IsAnswerTo command r a → IsAnswerTo command (record r { files = others }) a
any_files None r others a unused is = is
any_files (Some (Write words)) r others a unused is = is
any_files (Some (Show words)) r others a unused is = absurd (cc unused)
any_files (Some (Recover words)) r others a unused is = absurd (cc unused)
any_files (Some (Verify words)) r others a unused is = absurd (cc unused)
any_files (Some (Seek words)) r others a unused is = absurd (cc unused)
any_files (Some (Repair words)) r others a unused is = absurd (cc unused)
any_files (Some (Sample words)) r others a unused is = is
any_files (Some (Join words)) r others a unused is = absurd (cc unused)
any_files (Some (Ranges words)) r others a unused is = absurd (cc unused)
any_files (Some (Append words)) r others a unused is = is
any_files (Some (Collect words)) r others a unused is = absurd (cc unused)

-- and a file that is grown
pub any_grown : (command : Option Command) (r : Read) (other : List ℕ) (a : Answer)
    → (meaning_of command).uses.grown ≡ false → IsAnswerTo command r a → IsAnswerTo command (record r { grown = other }) a
any_grown None r other a unused is = is
any_grown (Some (Write words)) r other a unused is = is
any_grown (Some (Show words)) r other a unused is = is
any_grown (Some (Recover words)) r other a unused is = is
any_grown (Some (Verify words)) r other a unused is = is
any_grown (Some (Seek words)) r other a unused is = is
any_grown (Some (Repair words)) r other a unused is = is
any_grown (Some (Sample words)) r other a unused is = is
any_grown (Some (Join words)) r other a unused is = is
any_grown (Some (Ranges words)) r other a unused is = is
any_grown (Some (Append words)) r other a unused is = absurd (cc unused)
any_grown (Some (Collect words)) r other a unused is = is
