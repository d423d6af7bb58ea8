-- A chunk that holds no more records than bytes has no padding, so its bytes are one list.
use Rattle.std.proofs.Common.{◌≡◌, ◌∙◌, ℕ, ◌+◌, ◌-◌, ◌%◌, ◌<◌, ◌≤◌, List, [], ◌∷◌, ◌++◌, length, get_or, take, drop, refl, sym, ap, subst, inl, inr, arith}
use Rattle.std.specs.Prelude.{map}
use Rattle.std.specs.List.{AllByRecursion, concat}
use Rattle.varint_wire.specs.Varint.{SpellsEach}
use Rattle.std.proofs.lemmas.Bool.{cases_lt}
use Rattle.std.proofs.lemmas.List.{ext_get_or, get_or-take, get_or-drop, take_all, length-map, length-append}
use Rattle.block_layout.specs.Layout.{IsBlock, IsUsable, IsBoundary, room, end_of}
use Rattle.block_layout.specs.BlockHeaders.{block_header}
use Rattle.block_layout.proofs.Room.{room_below}
use Rattle.block_layout.proofs.Ends.{end_of_is_end}
use Rattle.block_layout.proofs.ChunkEnds.{chunk_end_of_boundary, chunk_end_of-few_records}
use Rattle.chunk_header.specs.Chunks.{ChunkValue, chunk_bytes}
use Rattle.chunk_header.proofs.Lengths.{length-chunk_bytes}
use Rattle.meta_chunk.specs.Laid.{IsLaid, end_of_chunk, laid}
use Rattle.meta_chunk.specs.Files.{IsPlain, IsReadable, AreLaid, laid_each}
use Rattle.meta_chunk.proofs.LaidChunks.{end-IsLaid, IsLaid-usable, end-laid, laid-usable, laid-header}

-- a chunk that has no padding
abbrev pub HasFewRecords : ChunkValue → Type 0
HasFewRecords k = k.num_records ≤ 40 + length k.«data»

-- without padding each usable position has one of the chunk's bytes
room-few_records : (begin : ℕ) (k : ChunkValue) (p : ℕ) → HasFewRecords k → begin ≤ p → p < end_of_chunk begin k → IsUsable p
    → room begin p < length (chunk_bytes k)
room-few_records begin k p few low high usable =
    let size : ℕ = 40 + length k.«data» in
    let last : end_of_chunk begin k ≡ end_of begin size = chunk_end_of-few_records begin size k.num_records (omega arith) few in
    omega (arith, room_below begin p (end_of begin size) low usable (omega arith), (end_of_is_end begin size).holds, length-chunk_bytes k)

-- the byte at a usable position
at_usable : (begin : ℕ) (k : ChunkValue) (bytes : List ℕ) (p : ℕ)
    → HasFewRecords k → IsLaid begin k bytes → begin ≤ p → p < end_of_chunk begin k → IsUsable p
    → get_or bytes (p - begin) 0 ≡ get_or (chunk_bytes k) (room begin p) 0
at_usable begin k bytes p few h low high usable =
    let last : begin + length bytes ≡ end_of_chunk begin k = end-IsLaid begin k bytes h in
    IsLaid-usable begin k bytes p h low (omega arith) usable (room-few_records begin k p few low high usable)

-- the byte in a block's header
at_header : (begin : ℕ) (k : ChunkValue) (bytes : List ℕ) (b i : ℕ) → IsLaid begin k bytes → IsBlock b → begin ≤ b → i < 24 → b + i < end_of_chunk begin k
    → get_or bytes (b + i - begin) 0 ≡ get_or (block_header (b - begin) (end_of_chunk begin k - b)) i 0
at_header begin k bytes b i h block low small high =
    let last : begin + length bytes ≡ end_of_chunk begin k = end-IsLaid begin k bytes h in
    let place : b + i - begin ≡ b - begin + i = omega arith in
    ap (λ (n : ℕ). get_or bytes n 0) place
    ∙ sym (get_or-drop (b - begin) bytes i 0)
    ∙ sym (get_or-take (b - begin + 24 - (b - begin)) (drop (b - begin) bytes) i 0 (omega arith))
    ∙ ap (λ (xs : List ℕ). get_or xs i 0) (h.headers b block low (omega arith))
    ∙ ap (λ (e : ℕ). get_or (block_header (b - begin) (e - b)) i 0) last

-- so each byte is the one of the laying with zero padding
at_each : (begin : ℕ) (k : ChunkValue) (bytes : List ℕ) (p : ℕ)
    → IsBoundary begin → HasFewRecords k → IsLaid begin k bytes → begin ≤ p → p < end_of_chunk begin k
    → get_or bytes (p - begin) 0 ≡ get_or (laid begin k) (p - begin) 0
at_each begin k bytes p boundary few h low high =
    elim (cases_lt (p % 65536) 24) [
      | inl inside ↦
          let b : ℕ = p - p % 65536 in
          let block : b % 65536 ≡ 0 = omega arith in
          let after : begin ≤ b = omega arith in
          let place : b + p % 65536 ≡ p = omega arith in
          ap (λ (n : ℕ). get_or bytes (n - begin) 0) (sym place)
          ∙ at_header begin k bytes b (p % 65536) h block after inside (omega arith)
          ∙ sym (laid-header begin k b (p % 65536) block after inside (omega arith))
          ∙ ap (λ (n : ℕ). get_or (laid begin k) (n - begin) 0) place
      | inr usable ↦ at_usable begin k bytes p few h low high usable ∙ sym (laid-usable begin k p low high usable)
    ]

-- where a chunk has no padding its bytes are those of the laying with zero padding
pub IsLaid-is : (begin : ℕ) (k : ChunkValue) (bytes : List ℕ) → IsBoundary begin → HasFewRecords k → IsLaid begin k bytes → bytes ≡ laid begin k
IsLaid-is begin k bytes boundary few h =
    let last : begin + length bytes ≡ end_of_chunk begin k = end-IsLaid begin k bytes h in
    ext_get_or 0 bytes (laid begin k) (omega (arith, end-laid begin k)) (λ i small.
    let place : i ≡ begin + i - begin = omega arith in
    ap (λ (n : ℕ). get_or bytes n 0) place
    ∙ at_each begin k bytes (begin + i) boundary few h (omega arith) (omega arith)
    ∙ ap (λ (n : ℕ). get_or (laid begin k) n 0) (sym place))

-- and so it is with chunks one after another
pub AreLaid-is : (begin : ℕ) (ks : List ChunkValue) (bytes : List ℕ) → IsBoundary begin → AllByRecursion HasFewRecords ks → AreLaid begin ks bytes
    → bytes ≡ laid_each begin ks
unfolding laid_each
AreLaid-is begin [] bytes boundary few h = h
AreLaid-is begin (k ∷ ks) bytes boundary few h =
    let front : List ℕ = h.0 in
    let last : begin + length front ≡ end_of_chunk begin k = end-IsLaid begin k front h.3 in
    let next : IsBoundary (begin + length front) =
    subst (λ (e : ℕ). IsBoundary e) (sym last) (chunk_end_of_boundary begin (40 + length k.«data») k.num_records) in
    h.2
    ∙ ap (λ (xs : List ℕ). xs ++ h.1) (IsLaid-is begin k front boundary few.0 h.3)
    ∙ ap (λ (xs : List ℕ). laid begin k ++ xs) (AreLaid-is (begin + length front) ks h.1 next few.1 h.4)
    ∙ ap (λ (e : ℕ). laid begin k ++ laid_each e ks) last

-- spelled numbers are at most as many as bytes
length-SpellsEach : (values bytes : List ℕ) → SpellsEach values bytes → length values ≤ length bytes
length-SpellsEach [] bytes h = omega arith
length-SpellsEach (value ∷ values) bytes (front, rest, same, spells, others) =
    omega (arith, ap length same, length-append front rest, spells.some, length-SpellsEach values rest others)

-- a chunk that is read has no padding: each record of a simple chunk has at least one byte, and others have none
pub IsPlain-few : (k : ChunkValue) → IsPlain k → HasFewRecords k
IsPlain-few k (small, inl (records, simple)) =
    let lengths : List ℕ = map length records in
    let front : List ℕ = 0 ∷ simple.spelled_size in
    omega (
      arith,
      simple.num_records,
      length-map records (length {A = ℕ}),
      length-SpellsEach lengths simple.sizes simple.spells_each,
      ap length simple.«data»,
      length-append (front ++ simple.sizes) (concat records),
      length-append front simple.sizes,
    )
IsPlain-few k (small, inr (inl (is, rule))) = omega (arith, (rule.signature refl).1)
IsPlain-few k (small, inr (inr (inl (is, rule)))) = omega (arith, rule.metadata refl)
IsPlain-few k (small, inr (inr (inr (is, rule)))) = omega (arith, (rule.padding refl).0)

pub plain_are_few : (ks : List ChunkValue) → AllByRecursion IsPlain ks → AllByRecursion HasFewRecords ks
plain_are_few [] h = tt
plain_are_few (k ∷ ks) h = (IsPlain-few k h.0, plain_are_few ks h.1)

-- so of such chunks there is one file, that of the laying with zero padding
pub IsReadable-plain : (ks : List ChunkValue) (file : List ℕ) → IsReadable ks file → file ≡ laid_each 0 ks
IsReadable-plain ks file h =
    sym (take_all (length file) file (omega arith))
    ∙ AreLaid-is 0 ks (take (length file) file) (inl refl) (plain_are_few ks h.1.each) h.1.laid
