-- The fields of a chunk header, read from its bytes.
use Rattle.std.proofs.Common.{◌≡◌, ℕ, ◌/◌, ◌%◌, ◌<◌, List, ◌∷◌, ◌++◌, length, get_or, take, drop, sym, ap, ◌∙◌, arith, rules, get_or-take, get_or-drop}
use Rattle.std.specs.Int.{w64, to_le_bytes}
use Rattle.std.proofs.lemmas.Grind.{common_steps}
use Rattle.highway_hash.proofs.ByteWords.{word, to_le_bytes-word}
use Rattle.chunk_header.specs.Chunks.{header_fields}

-- eight bytes are the lowest one and seven bytes of what is above it
lowest_first : (n : ℕ) → to_le_bytes w64 n ≡ (n % 256) ∷ take 7 (to_le_bytes w64 (n / 256))
lowest_first n = search rules

-- behind the first eight of forty bytes stand four words
four_words : (bytes : List ℕ) → length bytes ≡ 40
    → drop 8 bytes ≡ take 8 (drop 8 bytes) ++ take 8 (drop 16 bytes) ++ take 8 (drop 24 bytes) ++ take 8 (drop 32 bytes)
four_words bytes size = grind (arith, common_steps)

-- four lists joined, each equal to another
joined : {a b c d e f g h : List ℕ} → a ≡ e → b ≡ f → c ≡ g → d ≡ h → a ++ b ++ c ++ d ≡ e ++ f ++ g ++ h
joined p q r s = cc

-- the fields behind the hash of forty bytes
pub header_fields-words : (bytes : List ℕ) → length bytes ≡ 40 → ((i : ℕ) → get_or bytes i 0 < 256)
    → header_fields (word bytes 8) (word bytes 16) (get_or bytes 24 0) (word bytes 24 / 256) (word bytes 32) ≡ drop 8 bytes
header_fields-words bytes size below_256 =
    let third = to_le_bytes-word bytes 24 (omega arith) below_256 in
    let kind : word bytes 24 % 256 ≡ get_or bytes 24 0 =
    ap (λ xs. get_or xs 0 0) third ∙ get_or-take 8 (drop 24 bytes) 0 0 (omega arith) ∙ get_or-drop 24 bytes 0 0 in
    let kind_and_records : (get_or bytes 24 0 ∷ take 7 (to_le_bytes w64 (word bytes 24 / 256))) ≡ take 8 (drop 24 bytes) =
    rw (← kind) (sym (lowest_first (word bytes 24)) ∙ third) in
    joined (to_le_bytes-word bytes 8 (omega arith) below_256) (to_le_bytes-word bytes 16 (omega arith) below_256)
    kind_and_records (to_le_bytes-word bytes 32 (omega arith) below_256)
    ∙ sym (four_words bytes size)
