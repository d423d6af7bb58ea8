-- Inside. Sizes of records that come in pieces. Own.
use Rattle.std.specs.Prelude.{ℕ, List, ◌++◌}
use Rattle.simple_chunk.specs.Sizes.{AreSizes}

-- what is still to come: so many sizes, which make so many bytes together, and the bytes of a size that has begun
pub record SizesValue : Type 0 where
  pub count : ℕ
  pub whole : ℕ
  pub held : List ℕ

-- the bytes are those that are still to come
abbrev pub AreLeft : SizesValue → List ℕ → Type 0
AreLeft s bytes = AreSizes s.count s.whole (s.held ++ bytes)
