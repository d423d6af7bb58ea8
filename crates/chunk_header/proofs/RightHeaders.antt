-- Bytes that are a right chunk header are those of a header.
use Rattle.std.proofs.Common.{◌≡◌, ◌∙◌, ℕ, zero, suc, ◌+◌, ◌/◌, ◌^◌, ◌<◌, List, [], ◌∷◌, get_or, sym, ap, arith}
use Rattle.std.specs.Prelude.{slice_range}
use Rattle.std.proofs.lemmas.Grind.{common_steps}
use Rattle.highway_hash.specs.Riegeli.{with_hash}
use Rattle.highway_hash.proofs.ByteWords.{word}
use Rattle.record_values.specs.Bytes.{AreBytes}
use Rattle.chunk_header.specs.Chunks.{IsRightChunkHeader}
use Rattle.chunk_header.specs.declared.Header.{Header}
use Rattle.chunk_header.specs.Views.{IsHeader, bytes_of_header}
use Rattle.chunk_header.proofs.Fields.{header_fields-words}

-- each element of a list of bytes is one
get_or-AreBytes : (bytes : List ℕ) (i : ℕ) → AreBytes bytes → get_or bytes i 0 < 256
get_or-AreBytes [] i h = omega arith
get_or-AreBytes (b ∷ bytes) zero h = h.0
get_or-AreBytes (b ∷ bytes) (suc i) h = get_or-AreBytes bytes i h.1

-- eight bytes make a word
word-lt : (bytes : List ℕ) (at : ℕ) → ((i : ℕ) → get_or bytes i 0 < 256) → word bytes at < 2 ^ 64
word-lt bytes at small =
    let each : (i : ℕ) → get_or (slice_range bytes at (at + 8)) i 0 < 256 = λ i. grind (arith, common_steps, small (at + i)) in
    omega (arith, each 0, each 1, each 2, each 3, each 4, each 5, each 6, each 7)

-- the header whose bytes these are
pub header_of_right : (bytes : List ℕ) → AreBytes bytes → IsRightChunkHeader bytes
    → (h : Header) × IsHeader h × (bytes ≡ bytes_of_header h)
header_of_right bytes are_bytes (size, begins) =
    let small : (i : ℕ) → get_or bytes i 0 < 256 = λ i. get_or-AreBytes bytes i are_bytes in
    let seven : word bytes 24 / 256 < 2 ^ 56 = omega (arith, word-lt bytes 24 small) in
    let h : Header = record {
      data_size = word bytes 8;
      data_hash = word bytes 16;
      kind = get_or bytes 24 0;
      num_records = word bytes 24 / 256;
      decoded_size = word bytes 32;
      few_records = seven;
    } in (
      h,
      record {
        data_size = word-lt bytes 8 small;
        data_hash = word-lt bytes 16 small;
        kind = small 24;
        decoded_size = word-lt bytes 32 small;
      },
      begins ∙ ap with_hash (sym (header_fields-words bytes size small)),
    )
