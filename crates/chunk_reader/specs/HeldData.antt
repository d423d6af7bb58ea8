-- Inside. The data of a chunk that is held while it comes. Own.
use Rattle.std.specs.Prelude.{ℕ, List}
use Rattle.chunk_header.specs.declared.Header.{Header}

-- the header of a chunk, and the bytes of its data that were taken
pub record HeldData : Type 0 where
  pub header : Header
  pub bytes : List ℕ
