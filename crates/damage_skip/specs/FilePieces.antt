-- Inside. The pieces of a whole file, and such as stay whatever follows. Own.
use Rattle.std.specs.Prelude.{◌≡◌, ℕ, ◌<◌, Bool, ⊤, List, [], ◌∷◌, length}
use Rattle.std.specs.List.{enumerate_from, flat_map}
use Rattle.chunk_header.specs.Chunks.{ChunkValue}
use Rattle.meta_chunk.specs.Laid.{end_of_chunk}
use Rattle.damage_skip.specs.Pieces.{PieceKind, Piece, Skipped, AreTiles, records_of, IsFoundAs}
use Rattle.chunk_reader.specs.declared.reasons.Why.TheVariants as why

-- the pieces of a file
abbrev pub ArePieces : (unread_ok : Bool) → List ℕ → List Piece → Type 0
ArePieces unread_ok file pieces = AreTiles unread_ok file 0 (length file) pieces

-- the records that pieces give, each with its position: its chunk's begin, and its number in the chunk
abbrev pub placed_in : List Piece → List (ℕ × List ℕ)
placed_in pieces = flat_map (λ piece. enumerate_from piece.begin (records_of piece.what)) pieces

-- the pieces are these chunks, laid one after another from a place on, and each was found intact
abbrev pub AreFound : (unread_ok : Bool) → ℕ → List ChunkValue → List Piece → Type 0
AreFound unread_ok place [] pieces = pieces ≡ []
AreFound unread_ok place (k ∷ ks) [] = ⊥
AreFound unread_ok place (k ∷ ks) (piece ∷ pieces) =
    (piece.begin ≡ place) × (piece.end ≡ end_of_chunk place k) × IsFoundAs unread_ok k piece.what
    × AreFound unread_ok (end_of_chunk place k) ks pieces

-- a piece that ends here stays one whatever stands behind so many bytes of the file: it isn't cut off, and where a block header
-- leads to its end, that lies before theirs
abbrev pub IsSettled : (size end : ℕ) → PieceKind → Type 0
IsSettled size end (Skipped why.Short) = ⊥
IsSettled size end (Skipped why.Truncated) = ⊥
IsSettled size end (Skipped why.HeaderHash) = end < size
IsSettled size end (Skipped why.Contradicted) = end < size
IsSettled size end other = ⊤
