-- Inside. The parts of a file that is read by many. Own.
use Rattle.std.specs.Prelude.{◌≡◌, ℕ, List, [], ◌∷◌}
use Rattle.std.specs.List.{enumerate_from, flat_map}
use Rattle.chunk_header.specs.Chunks.{ChunkValue}
use Rattle.chunk_reader.specs.Places.{end_at}
use Rattle.riegeli_c.specs.Chunks.{HasChunkWith}
use Rattle.riegeli_c.specs.Splits.{IsFirstBegin}

-- the chunks that are read one after another from one place of a file up to another: the records of each, with their positions
abbrev pub AreReadBetween : List ℕ → (from to : ℕ) → List (List (ℕ × List ℕ)) → Type 0
AreReadBetween file from to [] = from ≡ to
AreReadBetween file from to (placed ∷ others) =
    (records : List (List ℕ)) × HasChunkWith file from records × (placed ≡ enumerate_from from records)
    × AreReadBetween file (end_at file from) to others

-- the records, with their positions, that are read of a file of chunks in the part from one position up to another: from where it
-- is split at the one up to where it is split at the other
pub record IsPart (ks : List ChunkValue) (file : List ℕ) (from to : ℕ) (part : List (ℕ × List ℕ)) : Type 0 where
  pub begin : ℕ
  pub end : ℕ
  pub begins : IsFirstBegin ks from begin
  pub ends : IsFirstBegin ks to end
  pub chunks : List (List (ℕ × List ℕ))
  pub read : AreReadBetween file begin end chunks
  pub records : part ≡ flat_map (λ placed. placed) chunks

-- parts from a position on, each up to the next of the others
abbrev pub ArePartsFrom : List ChunkValue → List ℕ → (from : ℕ) → (cuts : List ℕ) → List (List (ℕ × List ℕ)) → Type 0
ArePartsFrom ks file from [] parts = parts ≡ []
ArePartsFrom ks file from (to ∷ cuts) [] = ⊥
ArePartsFrom ks file from (to ∷ cuts) (part ∷ parts) = IsPart ks file from to part × ArePartsFrom ks file to cuts parts
