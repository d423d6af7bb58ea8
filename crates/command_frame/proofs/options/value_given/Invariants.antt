use Rattle.std.proofs.Common.{◌≡◌, map, drop}
use Rattle.std.specs.String.{string_bytes}
use Rattle.command_frame.specs.Options.{value_given}
use Rattle.command_frame.proofs.options.value_given.Given as goal

abbrev pub invariant-loop-word : goal.invariant-loop-word
invariant-loop-word l = value_given l.option (map string_bytes (drop l.word-index l.words)) ≡ value_given l.option (map string_bytes l.words)
