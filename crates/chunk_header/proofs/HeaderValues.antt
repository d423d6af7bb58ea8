-- What the bytes of headers say.
use Rattle.std.proofs.Common.{◌≡◌, ℕ, ◌/◌, ◌%◌, ◌^◌, ◌<◌, List, length, take, arith}
use Rattle.std.specs.Int.{w64, to_le_bytes, from_le_bytes}
use Rattle.std.proofs.lemmas.Nat.{from_le_bytes-to_le_bytes_8}
use Rattle.highway_hash.specs.Riegeli.{riegeli_hash, with_hash}
use Rattle.highway_hash.specs.HighwayHash.{hash_of, finished}
use Rattle.chunk_header.specs.Chunks.{ChunkValue, IsChunk, HeaderValue, header_fields, header_bytes, header_in}
use Rattle.chunk_header.specs.declared.Header.{Header}
use Rattle.chunk_header.specs.Views.{IsHeader, bytes_of_header, value_of_header}

-- a hash fits a word
pub riegeli_hash-lt : (bytes : List ℕ) → riegeli_hash bytes < 2 ^ 64
unfolding hash_of finished
riegeli_hash-lt bytes = omega arith

-- seven bytes say a number below 2^56
from_le_bytes-seven : (n : ℕ) → n < 2 ^ 56 → from_le_bytes w64 (take 7 (to_le_bytes w64 n)) ≡ n
from_le_bytes-seven n small =
    let top : n / 72057594037927936 % 256 ≡ 0 = omega arith in
    omega (arith, from_le_bytes-to_le_bytes_8 n (omega arith))

-- values of the same fields are one
same_value : (a b k n d a' b' n' d' : ℕ) → a ≡ a' → b ≡ b' → n ≡ n' → d ≡ d'
    → let v : HeaderValue = record { data_size = a; data_hash = b; kind = k; num_records = n; decoded_size = d } in
    v ≡ record { data_size = a'; data_hash = b'; kind = k; num_records = n'; decoded_size = d' }
same_value a b k n d a' b' n' d' p q r s = rw (p, q, r, s)

-- the bytes of fields say these
pub header_in-fields : (size hash kind records decoded : ℕ) → size < 2 ^ 64 → hash < 2 ^ 64 → records < 2 ^ 56 → decoded < 2 ^ 64
    → header_in (with_hash (header_fields size hash kind records decoded))
    ≡ record { data_size = size; data_hash = hash; kind = kind; num_records = records; decoded_size = decoded }
header_in-fields size hash kind records decoded s h r d =
    same_value _ _ kind _ _ size hash records decoded
    (from_le_bytes-to_le_bytes_8 size s)
    (from_le_bytes-to_le_bytes_8 hash h)
    (from_le_bytes-seven records r)
    (from_le_bytes-to_le_bytes_8 decoded d)

-- so do a header's bytes
pub header_in-header : (h : Header) → IsHeader h → header_in (bytes_of_header h) ≡ value_of_header h
header_in-header h sound =
    header_in-fields h.data_size h.data_hash h.kind h.num_records h.decoded_size sound.data_size sound.data_hash h.few_records sound.decoded_size

-- and those of a chunk's header
pub header_in-chunk : (k : ChunkValue) → IsChunk k
    → header_in (header_bytes k)
    ≡ record { data_size = length k.«data»; data_hash = riegeli_hash k.«data»; kind = k.kind; num_records = k.num_records; decoded_size = k.decoded_size }
header_in-chunk k h =
    header_in-fields (length k.«data») (riegeli_hash k.«data») k.kind k.num_records k.decoded_size h.size (riegeli_hash-lt k.«data») h.num_records h.decoded_size
