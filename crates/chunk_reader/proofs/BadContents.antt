-- Simple chunks in which no records stand.
use Rattle.std.proofs.Common.{◌≡◌, ◌≢◌, ℕ, ◌<◌, ◌⊎◌, inl, inr, Some, List, [], ◌∷◌, length, refl, ap, arith}
use Rattle.std.specs.Prelude.{slice_get, slice_index}
use Rattle.std.proofs.lemmas.Bool.{cases_eq}
use Rattle.chunk_header.specs.Chunks.{ChunkValue}
use Rattle.chunk_header.specs.Kinds.{simple_kind}
use Rattle.chunk_header.specs.SimpleChunks.{IsSimpleChunk, IsCompressed}
use Rattle.chunk_reader.specs.Reasons.{HasBadContents}

-- data that isn't compressed is none, or begins with 0
begins_plain : (bytes : List ℕ) → ((0 < length bytes) → slice_index bytes 0 ≢ 0 → ⊥)
    → (bytes ≡ []) ⊎ (slice_get bytes 0 ≡ Some 0)
begins_plain [] plain = inl refl
begins_plain (b ∷ bs) plain =
    elim (cases_eq b 0) [ inl zero ↦ inr (ap Some zero) | inr more ↦ absurd (plain (omega arith) more) ]

-- a simple chunk that isn't compressed and holds no records has bad contents
pub bad_simple : (k : ChunkValue) → k.kind ≡ simple_kind → ¬ IsCompressed k → ¬ IsSimpleChunk k → HasBadContents k
bad_simple k kind plain none =
    elim (begins_plain k.«data» (λ some other. plain (kind, some, other))) [
      | inl empty ↦ inr (kind, inl empty)
      | inr zero ↦ inr (kind, inr (zero, none))
    ]
