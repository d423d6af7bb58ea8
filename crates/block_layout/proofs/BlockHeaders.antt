-- Lemmas on 24 bytes read as three words, and on the bytes of block headers.
use Rattle.std.proofs.Common.{◌≡◌, ℕ, ◌^◌, ◌<◌, List, ◌++◌, length, get_or, drop, refl, sym, ◌∙◌, ap, arith, rules}
use Rattle.std.specs.Prelude.{slice_range}
use Rattle.std.specs.List.{AllByRecursion}
use Rattle.std.specs.Int.{w64, to_le_bytes}
use Rattle.std.proofs.lemmas.Nat.{from_le_bytes-to_le_bytes_8}
use Rattle.std.proofs.lemmas.List.{take-append-drop, drop-drop, take_all, length-drop}
use Rattle.highway_hash.specs.Riegeli.{with_hash, BeginsWithHash}
use Rattle.highway_hash.proofs.ByteWords.{word, to_le_bytes-word}
use Rattle.highway_hash.proofs.FrontHash.{BeginsWithHash-with_hash}
use Rattle.block_layout.specs.BlockHeaders.{block_header, IsRightBlockHeader}
use Rattle.block_layout.specs.declared.block_header.BlockHeader.{BlockHeader}

-- 24 bytes
pub record IsHeaderSized (bytes : List ℕ) : Type 0 where
  pub size : length bytes ≡ 24
  pub below_256 : (i : ℕ) → get_or bytes i 0 < 256

-- the last 16 bytes are those of two words
pub fields_of : (bytes : List ℕ) → IsHeaderSized bytes
    → drop 8 bytes ≡ to_le_bytes w64 (word bytes 8) ++ to_le_bytes w64 (word bytes 16)
fields_of bytes h =
    let first : to_le_bytes w64 (word bytes 8) ≡ slice_range bytes 8 16 = to_le_bytes-word bytes 8 (omega (arith, h.size)) h.below_256 in
    let second : to_le_bytes w64 (word bytes 16) ≡ slice_range bytes 16 24 = to_le_bytes-word bytes 16 (omega (arith, h.size)) h.below_256 in
    let split : drop 8 bytes ≡ slice_range bytes 8 16 ++ slice_range bytes 16 24 =
    sym (take-append-drop 8 (drop 8 bytes))
    ∙ ap (λ xs. slice_range bytes 8 16 ++ xs) (drop-drop 8 8 bytes ∙ sym (take_all 8 (drop 16 bytes) (omega (arith, length-drop 16 bytes)))) in
    split ∙ sym (ap (λ xs. xs ++ slice_range bytes 16 24) first) ∙ sym (ap (λ xs. to_le_bytes w64 (word bytes 8) ++ xs) second)

-- bytes that begin with the hash of the others are the block header of their other two words
pub is_header : (bytes : List ℕ) (previous next : ℕ) → IsHeaderSized bytes → BeginsWithHash bytes
    → previous ≡ word bytes 8 → next ≡ word bytes 16 → bytes ≡ block_header previous next
is_header bytes previous next h begins p n = begins ∙ ap with_hash (fields_of bytes h ∙ cc)

-- its words are the two numbers
pub header_previous : (bytes : List ℕ) (previous next : ℕ) → previous < 2 ^ 64 → bytes ≡ block_header previous next → word bytes 8 ≡ previous
header_previous bytes previous next h g = ap (λ xs. word xs 8) g ∙ from_le_bytes-to_le_bytes_8 previous h

pub header_next : (bytes : List ℕ) (previous next : ℕ) → next < 2 ^ 64 → bytes ≡ block_header previous next → word bytes 16 ≡ next
header_next bytes previous next h g = ap (λ xs. word xs 16) g ∙ from_le_bytes-to_le_bytes_8 next h

-- so the block header of bytes is one
pub header_same : (bytes : List ℕ) (h : BlockHeader) (previous next : ℕ) → h.previous < 2 ^ 64 → h.next < 2 ^ 64
    → bytes ≡ block_header h.previous h.next → previous ≡ word bytes 8 → next ≡ word bytes 16
    → let made : BlockHeader = record { previous = previous; next = next } in made ≡ h
header_same bytes h previous next small small' is p n =
    rw (p, n, header_previous bytes h.previous h.next small is, header_next bytes h.previous h.next small' is) refl

-- a block header is right
pub IsRightBlockHeader-block_header : (bytes : List ℕ) (previous next : ℕ) → bytes ≡ block_header previous next → IsRightBlockHeader bytes
IsRightBlockHeader-block_header bytes previous next h = (ap length h, BeginsWithHash-with_hash bytes _ h)

-- its bytes are below 256
pub block_header_is_bytes : (previous next : ℕ) → AllByRecursion (λ b. b < 256) (block_header previous next)
block_header_is_bytes previous next = search rules
