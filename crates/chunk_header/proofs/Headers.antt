-- Headers and their bytes.
use Rattle.std.proofs.Common.{◌≡◌, ℕ, ◌/◌, ◌%◌, ◌^◌, ◌<◌, List, length, get_or, take, drop, sym, ap, ◌∙◌, subst, arith}
use Rattle.std.specs.Coded.{le_prop}
use Rattle.std.specs.Int.{w64, to_le_bytes, from_le_bytes}
use Rattle.std.proofs.lemmas.Nat.{from_le_bytes-to_le_bytes_8}
use Rattle.highway_hash.proofs.FrontHash.{BeginsWithHash-with_hash}
use Rattle.chunk_header.specs.Chunks.{IsRightChunkHeader}
use Rattle.chunk_header.specs.declared.Header.{Header}
use Rattle.chunk_header.specs.Views.{IsHeader, fields_of_header, bytes_of_header}

-- a header of these fields
made : (data_size data_hash kind num_records decoded_size : ℕ) → num_records < 2 ^ 56 → Header
made data_size data_hash kind num_records decoded_size few = record {
  data_size = data_size;
  data_hash = data_hash;
  kind = kind;
  num_records = num_records;
  decoded_size = decoded_size;
  few_records = few;
}

-- two headers of the same fields are one
made-same : {a b k n s a' b' k' n' s' : ℕ} (few : n < 2 ^ 56) (few' : n' < 2 ^ 56)
    → a ≡ a' → b ≡ b' → k ≡ k' → n ≡ n' → s ≡ s'
    → made a b k n s few ≡ made a' b' k' n' s' few'
made-same {a} {b} {k} {n} {s} few few' ea eb ek en es =
    rw (← ea, ← eb, ← ek, ← es)
    (subst (λ m. (q : m < 2 ^ 56) → made a b k n s few ≡ made a b k m s q) en
    (λ q. ap (made a b k n s) (le_prop few q)) few')

-- a word is known by its bytes
word-inj : (x y : ℕ) → x < 2 ^ 64 → y < 2 ^ 64 → to_le_bytes w64 x ≡ to_le_bytes w64 y → x ≡ y
word-inj x y small small' e =
    sym (from_le_bytes-to_le_bytes_8 x small) ∙ ap (from_le_bytes w64) e ∙ from_le_bytes-to_le_bytes_8 y small'

-- a header is known by its fields' bytes
pub header-inj : (g h : Header) → IsHeader g → IsHeader h → fields_of_header g ≡ fields_of_header h → g ≡ h
unfolding made
header-inj g h sound sound' e =
    let few : g.num_records < 2 ^ 56 = g.few_records in
    let few' : h.num_records < 2 ^ 56 = h.few_records in
    let size : g.data_size ≡ h.data_size =
    word-inj g.data_size h.data_size sound.data_size sound'.data_size (ap (take 8) e) in
    let data_hash : g.data_hash ≡ h.data_hash =
    word-inj g.data_hash h.data_hash sound.data_hash sound'.data_hash (ap (λ xs. take 8 (drop 8 xs)) e) in
    let kind : g.kind ≡ h.kind = ap (λ xs. get_or xs 16 0) e in
    let seven : take 7 (to_le_bytes w64 g.num_records) ≡ take 7 (to_le_bytes w64 h.num_records) = ap (λ xs. take 7 (drop 17 xs)) e in
    let top : g.num_records / 2 ^ 56 % 256 ≡ h.num_records / 2 ^ 56 % 256 = omega arith in
    let records : g.num_records ≡ h.num_records = word-inj g.num_records h.num_records (omega arith) (omega arith) (cc (seven, top)) in
    let decoded : g.decoded_size ≡ h.decoded_size =
    word-inj g.decoded_size h.decoded_size sound.decoded_size sound'.decoded_size (ap (drop 24) e) in
    made-same few few' size data_hash kind records decoded

-- a header's bytes are right
pub IsRightChunkHeader-header : (bytes : List ℕ) (h : Header) → bytes ≡ bytes_of_header h → IsRightChunkHeader bytes
IsRightChunkHeader-header bytes h e = (ap length e, BeginsWithHash-with_hash bytes (fields_of_header h) e)
