-- Chunk headers at places of a file.
use Rattle.std.proofs.Common.{ℕ, ◌^◌, ◌<◌, ◌≤◌, Option, Some, None, refl, arith}
use Rattle.std.specs.Prelude.{IsSome, IfNone}
use Rattle.block_layout.specs.Layout.{end_of}
use Rattle.block_layout.proofs.Ends.{end_of-some}

-- a header's end is within reach
pub header_end-small : (at : ℕ) → at ≤ 2 ^ 60 → end_of at 40 ≤ 2 ^ 63
header_end-small at h = omega (arith, end_of-some at 40 (omega arith))

pub header_end-is_some : (at : ℕ) (answer : Option ℕ) → at ≤ 2 ^ 60 → IfNone answer (2 ^ 63 < end_of at 40) → IsSome answer
header_end-is_some at (Some e) h none = refl
header_end-is_some at None h none = absurd (omega (arith, none, header_end-small at h))
