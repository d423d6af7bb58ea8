-- Chunks that reading passes, and the reasons that speak of their content.
use Rattle.std.proofs.Common.{◌≡◌, ◌≢◌, ◌∙◌, ◌⊎◌, ℕ, ◌≤◌, Bool, true, false, length, sym, ap, subst, inl, inr, arith}
use Rattle.std.proofs.lemmas.Option.{get_or_from_slice_get}
use Rattle.chunk_header.specs.Chunks.{ChunkValue}
use Rattle.chunk_header.specs.Kinds.{signature_kind, metadata_kind, padding_kind, simple_kind, transposed_kind, IsOfNoName}
use Rattle.chunk_header.specs.SimpleChunks.{IsSimpleChunk, IsCompressed}
use Rattle.meta_chunk.specs.Kinds.{KeepsRule, IsOfKind, IsSignature, IsMetadata, IsPadding}
use Rattle.meta_chunk.specs.Files.{max_data_size, IsPlain, IsTransposed}
use Rattle.meta_chunk.proofs.Held.{plain_or_unread}
use Rattle.chunk_reader.specs.Reasons.{HasBadContents}
use Rattle.chunk_reader.specs.Faults.{IsAllowed}

-- what reading passes, by its content
abbrev pub IsPassed : Bool → ChunkValue → Type 0
IsPassed false k = IsSimpleChunk k ⊎ IsSignature k ⊎ IsMetadata k ⊎ IsPadding k
IsPassed true k = (IsSimpleChunk k ⊎ IsSignature k ⊎ IsMetadata k ⊎ IsPadding k) ⊎ (IsTransposed k ⊎ IsCompressed k)

-- with little enough data it is allowed
pub IsAllowed-passed : (unread_ok : Bool) (k : ChunkValue) → length k.«data» ≤ max_data_size → IsPassed unread_ok k → IsAllowed unread_ok k
IsAllowed-passed false k small passed = (small, passed)
IsAllowed-passed true k small (inl plain) = inl (small, plain)
IsAllowed-passed true k small (inr unread) = inr (small, unread)

-- what strict reading passes, reading that lets unread chunks through passes too
pub IsAllowed-unread_too : (k : ChunkValue) → IsAllowed false k → IsAllowed true k
IsAllowed-unread_too k plain = inl plain

-- an allowed chunk has little enough data
pub allowed_small : (unread_ok : Bool) (k : ChunkValue) → IsAllowed unread_ok k → length k.«data» ≤ max_data_size
allowed_small false k plain = plain.0
allowed_small true k (inl plain) = plain.0
allowed_small true k (inr unread) = unread.0

-- a kind without a rule keeps it
pub KeepsRule-other : (kind a b c : ℕ) → kind ≢ signature_kind → kind ≢ metadata_kind → kind ≢ padding_kind → KeepsRule kind a b c
KeepsRule-other kind a b c s m p = record {
  signature = λ is. absurd (s is);
  metadata = λ is. absurd (m is);
  padding = λ is. absurd (p is);
}

-- kinds of different numbers are different
other_kind : (kind a b : ℕ) → kind ≡ a → (a ≡ b → ⊥) → kind ≢ b
other_kind kind a b is differ same = differ (sym is ∙ same)

-- a chunk of no rule keeps it
KeepsRule-of : (k : ChunkValue) (kind : ℕ) → k.kind ≡ kind → kind ≢ signature_kind → kind ≢ metadata_kind → kind ≢ padding_kind
    → KeepsRule k.kind (length k.«data») k.num_records k.decoded_size
KeepsRule-of k kind is s m p =
    KeepsRule-other k.kind (length k.«data») k.num_records k.decoded_size
    (other_kind k.kind kind signature_kind is s) (other_kind k.kind kind metadata_kind is m) (other_kind k.kind kind padding_kind is p)

-- a chunk whose rule is kept and that isn't simple has no bad contents
pub good_rule : (k : ChunkValue) → KeepsRule k.kind (length k.«data») k.num_records k.decoded_size → k.kind ≢ simple_kind → ¬ HasBadContents k
good_rule k rule other (inl broken) = broken rule
good_rule k rule other (inr (simple, bad)) = other simple

good_kind : (k : ChunkValue) (kind : ℕ) → IsOfKind kind k → kind ≢ simple_kind → ¬ HasBadContents k
good_kind k kind (is, rule) other =
    good_rule k (subst (λ (n : ℕ). KeepsRule n (length k.«data») k.num_records k.decoded_size) (sym is) rule)
    (other_kind k.kind kind simple_kind is other)

-- nor has a simple one that holds records
good_records : (k : ChunkValue) → IsSimpleChunk k → ¬ HasBadContents k
good_records k (records, simple) (inl broken) =
    broken (KeepsRule-of k simple_kind simple.kind (λ same. omega arith) (λ same. omega arith) (λ same. omega arith))
good_records k (records, simple) (inr (kind, inl none)) = omega (arith, ap length (sym simple.«data» ∙ none))
good_records k (records, simple) (inr (kind, inr (zero_first, no_records))) = no_records (records, simple)

-- nor a transposed or a compressed one
good_transposed : (k : ChunkValue) → IsTransposed k → ¬ HasBadContents k
good_transposed k is =
    good_rule k (KeepsRule-of k transposed_kind is (λ same. omega arith) (λ same. omega arith) (λ same. omega arith))
    (other_kind k.kind transposed_kind simple_kind is (λ same. omega arith))

good_compressed : (k : ChunkValue) → IsCompressed k → ¬ HasBadContents k
good_compressed k (simple, some, other) (inl broken) =
    broken (KeepsRule-of k simple_kind simple (λ same. omega arith) (λ same. omega arith) (λ same. omega arith))
good_compressed k (simple, some, other) (inr (kind, inl none)) = omega (arith, ap length none)
good_compressed k (simple, some, other) (inr (kind, inr (zero_first, no_records))) =
    other (get_or_from_slice_get k.«data» 0 0 0 zero_first)

good_plain : (k : ChunkValue) → IsPlain k → ¬ HasBadContents k
good_plain k (small, inl has) = good_records k has
good_plain k (small, inr (inl is)) = good_kind k signature_kind is (λ same. omega arith)
good_plain k (small, inr (inr (inl is))) = good_kind k metadata_kind is (λ same. omega arith)
good_plain k (small, inr (inr (inr is))) = good_kind k padding_kind is (λ same. omega arith)

-- so no allowed chunk has bad contents
pub allowed_good : (unread_ok : Bool) (k : ChunkValue) → IsAllowed unread_ok k → ¬ HasBadContents k
allowed_good false k plain = good_plain k plain
allowed_good true k (inl plain) = good_plain k plain
allowed_good true k (inr (small, inl transposed)) = good_transposed k transposed
allowed_good true k (inr (small, inr compressed)) = good_compressed k compressed

-- and each is of a kind with a name
named_plain : (k : ChunkValue) → IsPlain k → ¬ IsOfNoName k.kind
named_plain k (small, inl (records, simple)) no_name = no_name.simple simple.kind
named_plain k (small, inr (inl is)) no_name = no_name.signature is.0
named_plain k (small, inr (inr (inl is))) no_name = no_name.metadata is.0
named_plain k (small, inr (inr (inr is))) no_name = no_name.padding is.0

pub allowed_named : (unread_ok : Bool) (k : ChunkValue) → IsAllowed unread_ok k → ¬ IsOfNoName k.kind
allowed_named false k plain = named_plain k plain
allowed_named true k (inl plain) = named_plain k plain
allowed_named true k (inr (small, inl transposed)) = λ no_name. no_name.transposed transposed
allowed_named true k (inr (small, inr compressed)) = λ no_name. no_name.simple compressed.0

-- a chunk that strict reading passes is neither compressed nor transposed
pub plain_read : (k : ChunkValue) → IsPlain k → ¬ (IsTransposed k ⊎ IsCompressed k)
plain_read k plain unread = plain_or_unread k plain (plain.0, unread)
