-- Promise. Where records stand in the file of them. Own.
use Rattle.std.specs.Prelude.{ℕ, None, List, map}
use Rattle.chunk_header.specs.SimpleChunks.{simple_chunk}
use Rattle.meta_chunk.specs.Files.{placed_from, signature}
use Rattle.meta_chunk.specs.Laid.{end_of_chunk}
use Rattle.record_group.specs.Groups.{groups}

-- the records of the file of records, each with its position: behind the signature each group stands in a chunk of its own, and
-- a record at its chunk's begin and its number there
abbrev pub placed_in_file : List (List ℕ) → ℕ → List (ℕ × List ℕ)
placed_in_file records size = placed_from (end_of_chunk 0 signature) (map simple_chunk (groups records size None)) (groups records size None)

-- the positions alone
abbrev pub places_in_file : List (List ℕ) → ℕ → List ℕ
places_in_file records size = map (λ (placed : ℕ × List ℕ). placed.0) (placed_in_file records size)
