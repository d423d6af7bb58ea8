use Rattle.std.proofs.Common.{◌≡◌, ◌++◌, take}
use Rattle.record_collect.specs.Batches.{numbers_in}
use Rattle.join_command.specs.CollectCommand.{file_lines}
use Rattle.join_command.proofs.place_lines.push_file.Given as goal

abbrev pub invariant-loop-i : goal.invariant-loop-i
invariant-loop-i l = l.text.items ≡ l.fn.text.items ++ file_lines l.places (l.fn.file, numbers_in (take l.i l.spans))
