-- Promise. What a search takes of a file of chunks at most, and how far a file may have been read. Own.
use Rattle.std.specs.Prelude.{ℕ, ◌+◌, ◌-◌, ◌*◌, ◌≤◌, ◌⊎◌, ◌==◌, max, List, [], ◌∷◌, length, count_by}
use Rattle.std.specs.Int.Digits.{digits_of}
use Rattle.block_layout.specs.Layout.{blocks_below}
use Rattle.chunk_header.specs.Chunks.{ChunkValue}
use Rattle.meta_chunk.specs.Files.{begin_of}
use Rattle.meta_chunk.specs.Laid.{end_of_chunk}
use Rattle.chunk_reader.specs.Places.{end_at}
use Rattle.chunk_reader.specs.Reasons.{Applies, NoneOf, unpassed_reasons}

-- how many bytes the chunk of this number takes, and none past the last one
abbrev pub length_of_chunk : List ChunkValue → ℕ → ℕ
length_of_chunk ks j = begin_of ks (j + 1) - begin_of ks j

-- how many chunks stand between those of two numbers
abbrev pub chunks_between : (i j : ℕ) → ℕ
chunks_between i j = j - (i + 1)

-- how many chunks have no records
abbrev pub chunks_without_records : List ChunkValue → ℕ
chunks_without_records ks = count_by (λ k. k.num_records == 0) ks

-- how many bytes the longest takes of chunks laid one after another from a place on
abbrev pub greatest_length_from : ℕ → List ChunkValue → ℕ
greatest_length_from place [] = 0
greatest_length_from place (k ∷ ks) = max (end_of_chunk place k - place) (greatest_length_from (end_of_chunk place k) ks)

-- how many binary digits the number of blocks of so many bytes has
abbrev pub digit_count_of_blocks : ℕ → ℕ
digit_count_of_blocks size = length (digits_of 2 (blocks_below size))

-- for a position: by the number of the chunk that holds it, and of the one that answers, or of all chunks where none does
abbrev pub position_bound : List ChunkValue → (holder answering : ℕ) → ℕ
position_bound ks holder answering = 104984 + 64 * chunks_between holder answering + length_of_chunk ks answering

-- for a key
abbrev pub key_bound : List ChunkValue → ℕ
key_bound ks =
    (digit_count_of_blocks (begin_of ks (length ks)) + 2) * (200000 + 64 * chunks_without_records ks + 2 * greatest_length_from 0 ks)

-- where all before a place was read, it may be read up to here: past a chunk header there and the header of a block within it, or
-- where the file has a whole chunk there, to its end
abbrev pub MayBeReadTo : List ℕ → (place to : ℕ) → Type 0
MayBeReadTo file place to = (to ≤ place + 64) ⊎ (NoneOf (Applies file place) unpassed_reasons × (to ≤ end_at file place))
