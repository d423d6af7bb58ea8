-- Promise. The bytes of padding up to a block. Own.
use Rattle.std.specs.Prelude.{ℕ, List}
use Rattle.meta_chunk.specs.Files.{laid_each}
use Rattle.meta_chunk.specs.PaddingSizes.{padding_at}

-- the bytes of the padding from a position to a block
abbrev pub padding_bytes : ℕ → List ℕ
padding_bytes place = laid_each place (padding_at place)
