-- Promise. Files laid one after another. Own.
use Rattle.std.specs.Prelude.{ℕ, ◌+◌, ◌-◌, ◌*◌, List, [], ◌∷◌, ◌++◌, length, sum}
use Rattle.block_layout.specs.Layout.{block_size}
use Rattle.ordered_writer.specs.Padding.{padding_bytes}

-- files one after another: behind each but the last the padding from its end to a block, where the next one begins
abbrev pub joined : List (List ℕ) → List ℕ
joined [] = []
joined (file ∷ []) = file
joined (file ∷ next ∷ files) = file ++ padding_bytes (length file) ++ joined (next ∷ files)

-- how many bytes files of these sizes have one after another at most: behind each but the last less than two blocks of padding
abbrev pub joined_at_most : List ℕ → ℕ
joined_at_most sizes = sum sizes + 2 * block_size * (length sizes - 1)
