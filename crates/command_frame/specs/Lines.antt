-- Promise. Lines of bytes, which end by a byte 10. Own.
use Rattle.std.specs.Prelude.{ℕ, Bool, List, [], ◌∷◌, ◌==◌, if◌then◌else◌}
use Rattle.std.specs.List.{onto_first}

-- whether a byte ends a line
abbrev pub ends_line : ℕ → Bool
ends_line b = b == 10

-- the lines: the bytes before each byte 10, and the bytes after the last one if there are any
abbrev pub lines : List ℕ → List (List ℕ)
lines [] = []
lines (b ∷ bs) = if ends_line b then [] ∷ lines bs else onto_first b (lines bs)
