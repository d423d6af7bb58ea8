-- Inside. Usable bytes of a file that are taken at once. Own.
use Rattle.std.specs.Prelude.{◌≡◌, ℕ, ◌+◌, ◌<◌, ◌≤◌}
use Rattle.block_layout.specs.Layout.{block_of, block_size, end_of}

-- of as many as are wanted so many are taken from a place on: one or more, and none behind the place's block
pub record TakesRun (place wanted count place_then : ℕ) : Type 0 where
  pub some : 0 < count
  pub fits : count ≤ wanted
  pub moved : place_then ≡ end_of place count
  pub in_block : place_then ≤ block_of place + block_size
