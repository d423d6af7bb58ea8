-- Values counted by hand, computed from the definitions.
use Rattle.std.proofs.Common.{◌≡◌, [], ◌∷◌, refl}
use Rattle.command_frame.specs.Lines.{lines}

-- `a`, `bc` and an empty line
lines_of_three : lines (0x61 ∷ 10 ∷ 0x62 ∷ 0x63 ∷ 10 ∷ 10 ∷ []) ≡ (0x61 ∷ []) ∷ (0x62 ∷ 0x63 ∷ []) ∷ [] ∷ []
lines_of_three = refl

-- a last line without a byte 10 counts, and one with it is the same line
lines_without_end : lines (0x61 ∷ 10 ∷ 0x62 ∷ []) ≡ (0x61 ∷ []) ∷ (0x62 ∷ []) ∷ []
lines_without_end = refl

lines_with_end : lines (0x61 ∷ 10 ∷ 0x62 ∷ 10 ∷ []) ≡ (0x61 ∷ []) ∷ (0x62 ∷ []) ∷ []
lines_with_end = refl

-- no bytes, no line
lines_of_nothing : lines [] ≡ []
lines_of_nothing = refl

-- each byte 10 alone is an empty line
lines_of_ends : lines (10 ∷ 10 ∷ 10 ∷ []) ≡ [] ∷ [] ∷ [] ∷ []
lines_of_ends = refl

-- an empty line before, and a byte 13 kept
lines_with_return : lines (10 ∷ 0x61 ∷ 13 ∷ 10 ∷ []) ≡ [] ∷ (0x61 ∷ 13 ∷ []) ∷ []
lines_with_return = refl
