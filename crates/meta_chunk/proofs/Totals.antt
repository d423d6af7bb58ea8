-- What is counted over chunks that are read or left unread.
use Rattle.std.proofs.Common.{◌≡◌, ◌≢◌, ◌∙◌, ◌↔◌, ◌⊎◌, ℕ, ◌+◌, ◌<◌, List, [], ◌∷◌, length, true, false, sym, ap, inl, inr, arith}
use Rattle.std.specs.Prelude.{IsTrue, not, ◌==◌, ◌&&◌, ◌||◌, slice_index, if◌then◌else◌}
use Rattle.std.specs.List.{AllByRecursion, flat_map, sum_by}
use Rattle.std.proofs.lemmas.Bool.{cases_Bool, cases_eq, or_cases, and_parts, and_from, both_ways, not-true, eqb-true, eqb-false, eq-eqb, ne_eqb, cond-true, cond-false}
use Rattle.std.proofs.lemmas.List.{length-append, get_or_past}
use Rattle.std.proofs.lemmas.List.Sums.{sum_by-cons}
use Rattle.chunk_header.specs.Chunks.{ChunkValue}
use Rattle.chunk_header.specs.SimpleChunks.{IsCompressed}
use Rattle.meta_chunk.specs.Files.{IsPlain, IsTransposed, IsUnread, IsWellFormedChunk, Holds, HoldEach, AreRecordsOf, is_unread, totals_of}
use Rattle.meta_chunk.proofs.Held.{plain_or_unread, Holds-counted, unread_records}

-- what the test says of a chunk
tested : (k : ChunkValue) → is_unread k ≡ true → IsTransposed k ⊎ IsCompressed k
tested k h =
    elim (or_cases (k.kind == 0x74) ((k.kind == 0x72) && not (slice_index k.«data» 0 == 0)) h) [
      | inl transposed ↦ inl (eqb-true _ _ transposed)
      | inr compressed ↦
          let parts = and_parts (k.kind == 0x72) (not (slice_index k.«data» 0 == 0)) compressed in
          let other : slice_index k.«data» 0 ≢ 0 = eqb-false _ _ (not-true _ parts.1) in
          let some : 0 < length k.«data» = elim (cases_eq (length k.«data») 0) [
            | inl empty ↦ absurd (other (get_or_past k.«data» 0 0 (omega arith)))
            | inr some ↦ omega arith
          ] in
          inr (eqb-true _ _ parts.0, some, other)
    ]

-- it holds of transposed and of compressed chunks
passes : (k : ChunkValue) → IsTransposed k ⊎ IsCompressed k → is_unread k ≡ true
passes k (inl transposed) = ap (λ b. b || ((k.kind == 0x72) && not (slice_index k.«data» 0 == 0))) (eq-eqb _ _ transposed)
passes k (inr (simple, some, other)) =
    ap (λ b. b || ((k.kind == 0x72) && not (slice_index k.«data» 0 == 0))) (ne_eqb k.kind 0x74 (λ transposed. omega arith))
    ∙ and_from _ _ (eq-eqb _ _ simple) (ap not (ne_eqb _ _ other))

-- so it tells plain chunks from unread ones
plain_tested : (k : ChunkValue) → IsPlain k → is_unread k ≡ false
plain_tested k plain =
    elim (cases_Bool (is_unread k)) [
      | inl passed ↦ absurd (plain_or_unread k plain (plain.0, tested k passed))
      | inr failed ↦ failed
    ]

pub is_unread-iff : (k : ChunkValue) → IsWellFormedChunk k → IsTrue (is_unread k) ↔ IsUnread k
is_unread-iff k (inl plain) =
    (λ passed. absurd (both_ways (is_unread k) (plain_tested k plain) passed), λ unread. absurd (plain_or_unread k plain unread))
is_unread-iff k (inr unread) = (λ passed. unread, λ unread. passes k unread.1)

-- a chunk holds as many records as are counted of it
Holds-counted_of : (k : ChunkValue) (records : List (List ℕ)) → IsWellFormedChunk k → Holds k records
    → (if is_unread k then 0 else k.num_records) ≡ length records
Holds-counted_of k records (inl plain) held =
    cond-false (is_unread k) 0 k.num_records (plain_tested k plain) ∙ sym (Holds-counted k records plain held)
Holds-counted_of k records (inr unread) (inl simple) = absurd (unread_records k unread (records, simple))
Holds-counted_of k records (inr unread) (inr (none, nothing)) =
    cond-true (is_unread k) 0 k.num_records (passes k unread.1) ∙ sym (ap length nothing)

-- so chunks do
HoldEach-counted : (ks : List ChunkValue) (lists : List (List (List ℕ))) → AllByRecursion IsWellFormedChunk ks → HoldEach ks lists
    → (totals_of ks).records ≡ length (flat_map (λ held. held) lists)
HoldEach-counted [] lists h g = ap (λ (xs : List (List (List ℕ))). length (flat_map (λ held. held) xs)) (sym g)
HoldEach-counted (k ∷ ks) [] h g = elim g [ ]
HoldEach-counted (k ∷ ks) (records ∷ lists) h g =
    let counted = λ (x : ChunkValue). if is_unread x then 0 else x.num_records in
    sum_by-cons counted k ks
    ∙ ap (λ (n : ℕ). n + sum_by counted ks) (Holds-counted_of k records h.0 g.0)
    ∙ ap (λ (n : ℕ). length records + n) (HoldEach-counted ks lists h.1 g.1)
    ∙ sym (length-append records (flat_map (λ (held : List (List ℕ)). held) lists))

pub AreRecordsOf-counted : (ks : List ChunkValue) (records : List (List ℕ)) → AllByRecursion IsWellFormedChunk ks → AreRecordsOf ks records
    → (totals_of ks).records ≡ length records
AreRecordsOf-counted ks records h (lists, g, joined) = HoldEach-counted ks lists h g ∙ ap length (sym joined)
