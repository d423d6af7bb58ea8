-- A chunk at a place to which no reason applies is laid there and allowed.
use Rattle.std.proofs.Common.{◌≡◌, ◌≢◌, ◌∙◌, ◌⊎◌, ℕ, ◌+◌, ◌-◌, ◌<◌, ◌≤◌, Bool, true, false, List, Some, length, drop, get_or, sym, ap, subst, inl, inr, arith}
use Rattle.std.specs.Prelude.{slice_range}
use Rattle.std.proofs.lemmas.Bool.{cases_eq}
use Rattle.std.proofs.lemmas.List.{nil_from_length}
use Rattle.std.proofs.lemmas.Option.{slice_get-get_or}
use Rattle.highway_hash.specs.Riegeli.{riegeli_hash, with_hash}
use Rattle.record_values.specs.Bytes.{AreBytes}
use Rattle.block_layout.specs.BlockHeaders.{block_header}
use Rattle.chunk_header.specs.Chunks.{ChunkValue, IsRightChunkHeader}
use Rattle.chunk_header.specs.Kinds.{signature_kind, metadata_kind, padding_kind, simple_kind, transposed_kind, IsOfNoName}
use Rattle.chunk_header.specs.SimpleChunks.{IsSimpleChunk, IsCompressed}
use Rattle.chunk_header.proofs.RightHeaders.{header_of_right}
use Rattle.chunk_header.proofs.Decided.{lists_decided, equal_decided, true_where_not_false}
use Rattle.chunk_header.proofs.DecidedRecords.{records_decided}
use Rattle.meta_chunk.specs.Kinds.{KeepsRule}
use Rattle.meta_chunk.specs.Laid.{IsLaid}
use Rattle.meta_chunk.specs.Files.{max_data_size}
use Rattle.chunk_reader.specs.Places.{header_bytes_at, header_at, end_at, chunk_at}
use Rattle.chunk_reader.specs.PlaceChecks.{HaveHeadersOf}
use Rattle.chunk_reader.specs.Reasons.{HasBadContents, Applies, NoneOf, content_reasons, strict_reasons}
use Rattle.chunk_reader.specs.Faults.{IsAllowed}
use Rattle.chunk_reader.specs.declared.reasons.Why.TheVariants as why
use Rattle.chunk_reader.proofs.PassedChunks.{AreBytes-usable_bytes_at, AreBytes-data_at, IsLaid-right, length-data}
use Rattle.chunk_reader.proofs.AllowedChunks.{IsPassed, IsAllowed-passed}

-- what isn't false of equal lists or numbers is true
lists_equal : (xs ys : List ℕ) → ¬ (xs ≢ ys) → xs ≡ ys
lists_equal xs ys = true_where_not_false (xs ≡ ys) (lists_decided xs ys)

numbers_equal : (a b : ℕ) → ¬ (a ≢ b) → a ≡ b
numbers_equal a b = true_where_not_false (a ≡ b) (equal_decided a b)

-- a header that isn't wrong is right
right_header : (bytes : List ℕ) → ¬ ¬ IsRightChunkHeader bytes → IsRightChunkHeader bytes
right_header bytes not = (
  numbers_equal (length bytes) 40 (λ differ. not (λ right. differ right.0)),
  lists_equal bytes (with_hash (drop 8 bytes)) (λ differ. not (λ right. differ right.1)),
)

-- where no block is wrong, each has its header
headers_right : (file : List ℕ) (place : ℕ) → ¬ Applies file place why.BlockHeader
    → HaveHeadersOf file place (end_at file place) place (end_at file place)
headers_right file place none block is_block from below =
    lists_equal (slice_range file block (block + 24)) (block_header (block - place) (end_at file place - block)) (λ differ.
    none (block, record { is_block = is_block; from = from; below = below; differs = differ }))

-- each list of reasons has that of the data's hash
hash_right : (unread_ok : Bool) (file : List ℕ) (place : ℕ) → NoneOf (Applies file place) (content_reasons unread_ok)
    → riegeli_hash (chunk_at file place).«data» ≡ (header_at file place).data_hash
hash_right false file place none = numbers_equal (riegeli_hash (chunk_at file place).«data») (header_at file place).data_hash none.0
hash_right true file place none = numbers_equal (riegeli_hash (chunk_at file place).«data») (header_at file place).data_hash none.0

-- a place that isn't past a limit is at most the limit
at_most : (a b : ℕ) → ¬ (a < b) → b ≤ a
at_most a b not = omega arith

-- so a chunk that no reason refuses is laid
pub laid_where_none : (unread_ok : Bool) (file : List ℕ) (place : ℕ) → AreBytes file → NoneOf (Applies file place) (strict_reasons unread_ok)
    → IsLaid place (chunk_at file place) (slice_range file place (end_at file place))
laid_where_none unread_ok file place bytes (short, (header, (cut, (large, (blocks, content))))) =
    let h = header_of_right (header_bytes_at file place) (AreBytes-usable_bytes_at file place 40 bytes)
    (right_header (header_bytes_at file place) header) in
    IsLaid-right file place h.0 (record {
      sound = h.1;
      header = h.2;
      whole = at_most (length file) (end_at file place) cut;
      bytes = AreBytes-data_at file place (header_at file place).data_size bytes;
      hash = hash_right unread_ok file place content;
      blocks = headers_right file place blocks;
    })

-- a chunk that isn't of no name is of one of five kinds
one_kind : (kind : ℕ) → ¬ IsOfNoName kind
    → (kind ≡ signature_kind) ⊎ (kind ≡ metadata_kind) ⊎ (kind ≡ padding_kind) ⊎ (kind ≡ simple_kind) ⊎ (kind ≡ transposed_kind)
one_kind kind named =
    elim (cases_eq kind signature_kind) [
      | inl s ↦ inl s
      | inr not_s ↦ elim (cases_eq kind metadata_kind) [
        | inl m ↦ inr (inl m)
        | inr not_m ↦ elim (cases_eq kind padding_kind) [
          | inl p ↦ inr (inr (inl p))
          | inr not_p ↦ elim (cases_eq kind simple_kind) [
            | inl r ↦ inr (inr (inr (inl r)))
            | inr not_r ↦ elim (cases_eq kind transposed_kind) [
              | inl t ↦ inr (inr (inr (inr t)))
              | inr not_t ↦ absurd (named (record {
                signature = not_s;
                metadata = not_m;
                padding = not_p;
                simple = not_r;
                transposed = not_t;
              }))
            ]
          ]
        ]
      ]
    ]

-- a kind's rule that isn't broken is kept
rule_kept : (kind a b c : ℕ) → ¬ ¬ KeepsRule kind a b c → KeepsRule kind a b c
rule_kept kind a b c not = record {
  signature = λ is. (
    numbers_equal a 0 (λ differ. not (λ rule. differ (rule.signature is).0)),
    numbers_equal b 0 (λ differ. not (λ rule. differ (rule.signature is).1)),
    numbers_equal c 0 (λ differ. not (λ rule. differ (rule.signature is).2)),
  );
  metadata = λ is. numbers_equal b 0 (λ differ. not (λ rule. differ (rule.metadata is)));
  padding = λ is. (
    numbers_equal b 0 (λ differ. not (λ rule. differ (rule.padding is).0)),
    numbers_equal c 0 (λ differ. not (λ rule. differ (rule.padding is).1)),
  );
}

-- so is the rule of a chunk that has no bad contents
rule_of : (k : ChunkValue) (kind : ℕ) → ¬ HasBadContents k → k.kind ≡ kind → KeepsRule kind (length k.«data») k.num_records k.decoded_size
rule_of k kind good is =
    subst (λ (n : ℕ). KeepsRule n (length k.«data») k.num_records k.decoded_size) is
    (rule_kept k.kind (length k.«data») k.num_records k.decoded_size (λ broken. good (inl broken)))

-- a simple chunk without bad contents holds records or is compressed
simple_content : (k : ChunkValue) → ¬ HasBadContents k → k.kind ≡ simple_kind → IsSimpleChunk k ⊎ IsCompressed k
simple_content k good is =
    elim (records_decided k) [
      | inl has ↦ inl has
      | inr none ↦ elim (cases_eq (length k.«data») 0) [
        | inl empty ↦ absurd (good (inr (is, inl (nil_from_length k.«data» empty))))
        | inr some ↦ elim (cases_eq (get_or k.«data» 0 0) 0) [
          | inl nothing ↦ absurd (good (inr (is, inr (slice_get-get_or k.«data» 0 0 (omega arith) ∙ ap Some nothing, none))))
          | inr other ↦ inr (is, omega arith, other)
        ]
      ]
    ]

-- a chunk of a kind with a name, without bad contents
content_of : (k : ChunkValue) → ¬ HasBadContents k → ¬ IsOfNoName k.kind → IsPassed true k
content_of k good named =
    elim (one_kind k.kind named) [
      | inl s ↦ inl (inr (inl (s, rule_of k signature_kind good s)))
      | inr (inl m) ↦ inl (inr (inr (inl (m, rule_of k metadata_kind good m))))
      | inr (inr (inl p)) ↦ inl (inr (inr (inr (p, rule_of k padding_kind good p))))
      | inr (inr (inr (inl r))) ↦ elim (simple_content k good r) [
        | inl has ↦ inl (inl has)
        | inr compressed ↦ inr (inr compressed)
      ]
      | inr (inr (inr (inr t))) ↦ inr (inl t)
    ]

-- and it is allowed
pub content_where_none : (unread_ok : Bool) (file : List ℕ) (place : ℕ) → NoneOf (Applies file place) (content_reasons unread_ok) → IsPassed unread_ok (chunk_at file place)
content_where_none false file place (hash, (contents, (compressed, (transposed, (named, end))))) =
    elim (content_of (chunk_at file place) contents named) [
      | inl plain ↦ plain
      | inr (inl t) ↦ absurd (transposed t)
      | inr (inr c) ↦ absurd (compressed c)
    ]
content_where_none true file place (hash, (contents, (named, end))) =
    content_of (chunk_at file place) contents named

pub allowed_where_none : (unread_ok : Bool) (file : List ℕ) (place : ℕ) → NoneOf (Applies file place) (strict_reasons unread_ok) → IsAllowed unread_ok (chunk_at file place)
allowed_where_none unread_ok file place (short, (header, (cut, (large, (blocks, content))))) =
    let whole : end_at file place ≤ length file = at_most (length file) (end_at file place) cut in
    let small : (header_at file place).data_size ≤ max_data_size = at_most max_data_size (header_at file place).data_size large in
    IsAllowed-passed unread_ok (chunk_at file place)
    (subst (λ (n : ℕ). n ≤ max_data_size) (sym (length-data file place whole)) small)
    (content_where_none unread_ok file place content)
