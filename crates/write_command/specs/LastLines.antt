-- Inside. An input whose last line ends too. Own.
use Rattle.std.specs.Prelude.{ℕ, List, [], ◌∷◌, ◌++◌, length, slice_index, if◌then◌else◌}
use Rattle.command_frame.specs.Lines.{ends_line}

-- an input with a byte 10 behind its last line too
abbrev pub with_last_end : List ℕ → List ℕ
with_last_end [] = []
with_last_end (b ∷ bs) = if ends_line (slice_index (b ∷ bs) (length bs)) then b ∷ bs else (b ∷ bs) ++ 10 ∷ []
