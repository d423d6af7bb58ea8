-- Inside. Bytes that end no line. Own.
use Rattle.std.specs.Prelude.{◌≡◌, ℕ, ◌<◌, true, List, length, slice_index}
use Rattle.command_frame.specs.Lines.{ends_line}

-- no byte ends a line
abbrev pub NoneEnds : List ℕ → Type 0
NoneEnds bytes = (k : ℕ) → k < length bytes → ¬ (ends_line (slice_index bytes k) ≡ true)
