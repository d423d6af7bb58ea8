-- Promise. The file of the pieces of a damaged one. Own.
use Rattle.std.specs.Prelude.{ℕ, List, ◌∷◌}
use Rattle.meta_chunk.specs.Files.{signature, laid_each}
use Rattle.damage_skip.specs.Pieces.{Piece}
use Rattle.repair_copy.specs.RepairPuts.{chunks_in}

-- the file of pieces: the signature, and then their chunks, each laid with zero padding where the one before ends
abbrev pub relaid : List Piece → List ℕ
relaid pieces = laid_each 0 (signature ∷ chunks_in pieces)
