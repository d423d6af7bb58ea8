use Rattle.std.proofs.Common.{◌≡◌, take}
use Rattle.std.specs.List.{enumerate_from, flat_map}
use Rattle.join_command.specs.CollectCommand.{file_lines}
use Rattle.join_command.proofs.place_lines.lines_at.Given as goal

abbrev pub invariant-loop-file : goal.invariant-loop-file
invariant-loop-file l = l.text.items ≡ flat_map (file_lines l.places) (take l.file (enumerate_from 0 l.gathered.numbers))
