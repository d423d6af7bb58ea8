use Rattle.std.proofs.Common.{◌≡◌, ◌≤◌, ◌++◌, length, take}
use Rattle.show_command.specs.ShowProgress.{plain_lines}
use Rattle.show_command.proofs.plain_lines.lay_lines.Given as goal

abbrev pub invariant-loop-number : goal.invariant-loop-number
invariant-loop-number l = record {
  size : length l.page ≡ length l.fn.page;
  fits : l.count ≤ length l.page;
  laid : plain_lines (take l.fn.from l.records) ++ take l.count l.page ≡ plain_lines (take l.number l.records);
}
