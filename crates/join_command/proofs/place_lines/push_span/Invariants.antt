use Rattle.std.proofs.Common.{◌≡◌, ℕ, ◌++◌, ◌-◌}
use Rattle.std.specs.Prelude.{decimal}
use Rattle.std.specs.List.{range_with_len}
use Rattle.join_command.specs.CollectCommand.{file_lines}
use Rattle.join_command.proofs.place_lines.push_span.Given as goal

abbrev pub invariant-loop-number : goal.invariant-loop-number
invariant-loop-number l =
    (file : ℕ) → l.file ≡ decimal file → l.text.items ≡ l.fn.text.items ++ file_lines l.places (file, range_with_len l.fn.span.first (l.number - l.fn.span.first))
