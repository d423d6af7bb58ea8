-- Inside. The bytes that a feed holds, by what it keeps of them. Own.
use Rattle.std.specs.Prelude.{ℕ, zero, suc, ◌+◌, ◌/◌, ◌%◌, List, [], ◌∷◌}

-- one byte for each group of seven bits, the lowest group first; each is at least 128, as another follows
unfoldable pub held_bytes : ℕ → ℕ → List ℕ
held_bytes zero groups = []
held_bytes (suc more) groups = (groups % 128 + 128) ∷ held_bytes more (groups / 128)
