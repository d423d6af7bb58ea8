-- Inside. The least padding up to a block. Own.
use Rattle.std.specs.Prelude.{ℕ, ◌≤◌}
use Rattle.block_layout.specs.Layout.{IsBlock}
use Rattle.meta_chunk.specs.Laid.{end_of_chunk}
use Rattle.meta_chunk.specs.PaddingSizes.{padding}

-- of the sizes at which a padding chunk from a position ends at a block, the least
pub record IsPaddingSize (place size : ℕ) : Type 0 where
  pub ends : IsBlock (end_of_chunk place (padding size))
  pub least : (n : ℕ) → IsBlock (end_of_chunk place (padding n)) → size ≤ n
