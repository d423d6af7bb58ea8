-- Promise. What a repair puts, in its order: chunks to the made file, and lines to notes. Own.
use Rattle.std.specs.Prelude.{ℕ, List, [], ◌∷◌, ◌++◌}
use Rattle.std.specs.List.{flat_map}
use Rattle.record_io.specs.Puts.{Put, Made, Notes, puts_to}
use Rattle.chunk_header.specs.Chunks.{ChunkValue}
use Rattle.meta_chunk.specs.Files.{signature, end_of_chunks, laid_each}
use Rattle.damage_skip.specs.Pieces.{PieceKind, Piece, Records, Kept}
use Rattle.damage_skip.specs.Regions.{region_of, told_text}

-- the chunk of a piece that gives records or is kept; other pieces have none
abbrev pub chunk_in : PieceKind → List ChunkValue
chunk_in (Records records chunk) = chunk ∷ []
chunk_in (Kept chunk) = chunk ∷ []
chunk_in other = []

-- of pieces whose chunks are laid from a place on: of each its chunk, if it has one, and its line, if it is skipped
unfoldable pub puts_from : ℕ → List Piece → List Put
puts_from place [] = []
puts_from place (piece ∷ pieces) =
    puts_to Made (laid_each place (chunk_in piece.what))
    ++ (puts_to Notes (told_text (region_of piece)) ++ puts_from (end_of_chunks place (chunk_in piece.what)) pieces)

-- of a whole file: the signature first
abbrev pub repair_puts : List Piece → List Put
repair_puts pieces =
    puts_to Made (laid_each 0 (signature ∷ [])) ++ puts_from (end_of_chunks 0 (signature ∷ [])) pieces

-- the chunks of pieces, in order
abbrev pub chunks_in : List Piece → List ChunkValue
chunks_in pieces = flat_map (λ piece. chunk_in piece.what) pieces
