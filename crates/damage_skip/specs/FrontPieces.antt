-- Promise. The pieces that the front of a file of chunks comes apart in. Own.
use Rattle.std.specs.Prelude.{◌≡◌, ℕ, ◌+◌, ◌<◌, ◌⊎◌, Bool, List, [], ◌∷◌, ◌++◌, length}
use Rattle.chunk_header.specs.Chunks.{ChunkValue}
use Rattle.meta_chunk.specs.Files.{begin_of}
use Rattle.chunk_reader.specs.declared.reasons.Why.{Why}
use Rattle.chunk_reader.specs.declared.reasons.Why.TheVariants as why
use Rattle.damage_skip.specs.Pieces.{Piece, Skipped, AreTiles}

-- what is left of a chunk that is cut at a place: nothing where it begins there, and else a region up to there
abbrev pub IsCutAt : List ChunkValue → (count m : ℕ) → List Piece → Type 0
IsCutAt ks count m cut =
    ((m ≡ begin_of ks count) × (cut ≡ []))
    ⊎ ((count < length ks) × (begin_of ks count < m) × (m < begin_of ks (count + 1))
    × (reason : Why) × ((reason ≡ why.Short) ⊎ (reason ≡ why.Truncated))
    × (cut ≡ record { begin = begin_of ks count; end = m; what = Skipped reason } ∷ []))

-- the pieces of the front of a file of chunks up to a place: those of the chunks that it has whole, and of the one that is cut
pub record AreFrontPieces (unread_ok : Bool) (ks : List ChunkValue) (file : List ℕ)
    (m : ℕ) (pieces : List Piece) : Type 0 where
  pub count : ℕ
  pub front : List Piece
  pub whole : AreTiles unread_ok file 0 (begin_of ks count) front
  pub cut : List Piece
  pub cut_there : IsCutAt ks count m cut
  pub are : pieces ≡ front ++ cut
