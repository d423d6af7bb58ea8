-- Promise. What each command means: one line a command, and one for words that are none. Own.
use Rattle.std.specs.Prelude.{◌≡◌, ℕ, false, Option, Some, None, List, ◌++◌}
use lib.Chars.{codes}
use Rattle.riegeli_tool.specs.declared.command.Command.{Command}
use Rattle.riegeli_tool.specs.declared.command.Command.TheVariants.{Write, Show, Recover, Verify, Seek, Repair, Sample, Join, Ranges, Append, Collect}
use Rattle.command_frame.specs.Answers.{Answer, line, noted}
use Rattle.command_frame.specs.Meanings.{Meaning, meaning, none_used}
use Rattle.write_command.specs.WriteCommand.{write_meaning}
use Rattle.show_command.specs.ShowCommand.{show_meaning}
use Rattle.recover_command.specs.RecoverCommand.{recover_meaning}
use Rattle.show_command.specs.VerifyCommand.{verify_meaning}
use Rattle.seek_command.specs.SeekCommand.{seek_meaning}
use Rattle.record_ranges.specs.RangesCommand.{ranges_meaning}
use Rattle.riegeli_tool.specs.RepairCommand.{repair_meaning}
use Rattle.sample_command.specs.SampleCommand.{sample_meaning}
use Rattle.join_command.specs.JoinCommand.{join_meaning}
use Rattle.join_command.specs.CollectCommand.{collect_meaning}
use Rattle.riegeli_tool.specs.AppendCommand.{append_meaning}
use Rattle.command_frame.specs.declared.status.Status.TheVariants as status

-- the commands, as they are told where the words are none
abbrev pub usage_text : List ℕ
usage_text =
    line (codes "usage:")
    ++ line (codes "write [--chunk=N] [--every=N] [--workers=N] [--pad=start|end|both] [--hex] FILE")
    ++ line (codes "show [--recover] [--most=N] [--hex] [--positions] FILE")
    ++ line (codes "verify FILE")
    ++ line (codes "seek (--at=N | --key=TEXT) [--hex] FILE")
    ++ line (codes "repair [--most=N] FROM TO")
    ++ line (codes "sample --seed=N --records=N [--chunk=N] [--workers=N] FILE")
    ++ line (codes "join FROM... TO")
    ++ line (codes "ranges --parts=N FILE")
    ++ line (codes "append [--chunk=N] [--every=N] [--workers=N] [--pad=start|end|both] [--hex] [--cut] FILE")
    ++ line (codes "collect FROM... TO")

-- the answer to words that are no command
abbrev pub usage : Answer
usage = noted status.Usage usage_text

-- what words mean that are no command
abbrev pub usage_meaning : Meaning
usage_meaning = record (meaning none_used (λ r answer. answer ≡ usage)) {
  is_command = false;
  may_end = λ sizes ended text. (ended ≡ status.Usage) × (text ≡ usage_text);
}

abbrev pub meaning_of : Option Command → Meaning
meaning_of None = usage_meaning
meaning_of (Some (Write words)) = write_meaning words
meaning_of (Some (Show words)) = show_meaning words
meaning_of (Some (Recover words)) = recover_meaning words
meaning_of (Some (Verify words)) = verify_meaning
meaning_of (Some (Seek words)) = seek_meaning words
meaning_of (Some (Repair words)) = repair_meaning words
meaning_of (Some (Sample words)) = sample_meaning words
meaning_of (Some (Join words)) = join_meaning
meaning_of (Some (Ranges words)) = ranges_meaning
meaning_of (Some (Append words)) = append_meaning words
meaning_of (Some (Collect words)) = collect_meaning
