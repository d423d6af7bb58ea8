-- Padding chunks that end at a block.
use Rattle.std.proofs.Common.{◌≡◌, ◌∙◌, ℕ, ◌+◌, ◌-◌, ◌%◌, ◌^◌, ◌<◌, ◌≤◌, List, [], ◌∷◌, replicate, lit<, refl, sym, ap, subst, inl, inr, arith}
use Rattle.std.specs.Prelude.{nat_le, ◌==◌}
use Rattle.std.specs.List.{AllByRecursion}
use Rattle.std.proofs.lemmas.Bool.{cases_lt, cond-true, cond-false, le-leb, lt-leb, eq-eqb, ne_eqb}
use Rattle.std.proofs.lemmas.List.{length-replicate}
use Rattle.std.proofs.lemmas.List.Elements.{recursion_from_All, All-replicate}
use Rattle.block_layout.specs.Layout.{IsBlock, IsBoundary, chunk_end_of, usable_at, usable_below}
use Rattle.block_layout.proofs.Ends.{end_of-some}
use Rattle.block_layout.proofs.ChunkEnds.{chunk_end_of-few_records}
use Rattle.chunk_header.specs.Chunks.{ChunkValue, IsChunk}
use Rattle.meta_chunk.specs.Kinds.{IsPadding}
use Rattle.meta_chunk.specs.Laid.{end_of_chunk}
use Rattle.meta_chunk.specs.Files.{IsPlain, end_of_chunks}
use Rattle.meta_chunk.specs.PaddingSizes.{padding, to_block, padding_size_of, padding_at}
use Rattle.meta_chunk.specs.LeastPadding.{IsPaddingSize}

-- where a padding chunk ends
end_of_chunk-padding : (at size : ℕ)
    → end_of_chunk at (padding size) ≡ usable_at (usable_below at + (40 + size) - 1) + 1
end_of_chunk-padding at size =
    ap (λ n. chunk_end_of at (40 + n) 0) (length-replicate {A = ℕ} size 0)
    ∙ chunk_end_of-few_records at (40 + size) 0 (omega arith) (omega arith)
    ∙ end_of-some at (40 + size) (omega arith)

-- where a chunk's header fits before the next block
pub IsPaddingSize-near : (at size : ℕ) → 25 ≤ at % 65536 → size + 40 ≡ to_block at → IsPaddingSize at size
IsPaddingSize-near at size inside fits = record {
  ends = omega (arith, end_of_chunk-padding at size);
  least = λ n ends. omega (arith, end_of_chunk-padding at n);
}

-- and where not, at the block after it
pub IsPaddingSize-far : (at size : ℕ) → 25 ≤ at % 65536 → to_block at < 40 → size ≡ to_block at + 65472
    → IsPaddingSize at size
IsPaddingSize-far at size inside short fits = record {
  ends = omega (arith, end_of_chunk-padding at size);
  least = λ n ends. omega (arith, end_of_chunk-padding at n);
}

-- the size as a number, where a header fits before the next block and where not
size-near : (place : ℕ) → 40 ≤ to_block place → padding_size_of place + 40 ≡ to_block place
size-near place fits =
    omega (arith, cond-true (nat_le 40 (to_block place)) (to_block place - 40) (to_block place + 65472) (le-leb _ _ fits))

size-far : (place : ℕ) → to_block place < 40 → padding_size_of place ≡ to_block place + 65472
size-far place short = cond-false (nat_le 40 (to_block place)) _ _ (lt-leb _ _ short)

-- that number is the size
pub IsPaddingSize-number : (place : ℕ) → 25 ≤ place % 65536 → IsPaddingSize place (padding_size_of place)
IsPaddingSize-number place inside =
    elim (cases_lt (to_block place) 40) [
      | inl short ↦ IsPaddingSize-far place (padding_size_of place) inside short (size-far place short)
      | inr fits ↦ IsPaddingSize-near place (padding_size_of place) inside (size-near place fits)
    ]

-- it is below the room of a block
padding_size_of_small : (place : ℕ) → padding_size_of place < 65536
padding_size_of_small place =
    elim (cases_lt (to_block place) 40) [
      | inl short ↦ omega (arith, size-far place short)
      | inr fits ↦ omega (arith, size-near place fits)
    ]

-- so the padding ends less than two blocks on
end_of_chunk-padding_near : (place : ℕ) → 25 ≤ place % 65536 → end_of_chunk place (padding (padding_size_of place)) < place + 131072
end_of_chunk-padding_near place inside =
    omega (arith, end_of_chunk-padding place (padding_size_of place), padding_size_of_small place)

-- at a block there is no padding
pub padding_at-block : (place : ℕ) → IsBlock place → padding_at place ≡ []
unfolding padding_at
padding_at-block place block = cond-true (place % 65536 == 0) _ _ (eq-eqb _ _ block)

-- within one there is one chunk of it
pub padding_at-inside : (place : ℕ) → 25 ≤ place % 65536 → padding_at place ≡ padding (padding_size_of place) ∷ []
unfolding padding_at
padding_at-inside place inside = cond-false (place % 65536 == 0) _ _ (ne_eqb _ _ (omega arith))

-- a padding chunk is a chunk, is of its kind and keeps the kind's rule, and is read
IsChunk-padding : (size : ℕ) → size < 2 ^ 26 → IsChunk (padding size)
IsChunk-padding size small = record {
  kind = lit< tt;
  num_records = lit< tt;
  decoded_size = lit< tt;
  size = omega (arith, length-replicate {A = ℕ} size 0);
  bytes = recursion_from_All (λ (b : ℕ). b < 256) (replicate size 0) (All-replicate (λ (b : ℕ). b < 256) size 0 (lit< tt));
}

IsPadding-padding : (size : ℕ) → IsPadding (padding size)
IsPadding-padding size = (
  refl,
  record {
    signature = λ other. absurd (omega arith);
    metadata = λ other. refl;
    padding = λ is. (refl, refl);
  },
)

IsPlain-padding : (size : ℕ) → size ≤ 2 ^ 26 → IsPlain (padding size)
IsPlain-padding size small = (omega (arith, length-replicate {A = ℕ} size 0), inr (inr (inr (IsPadding-padding size))))

-- a fact of padding up to a block, from what it says of none and of one chunk
at_boundary : (P : List ChunkValue → Type 0) (place : ℕ) → IsBoundary place → (IsBlock place → P [])
    → (25 ≤ place % 65536 → P (padding (padding_size_of place) ∷ [])) → P (padding_at place)
at_boundary P place (inl block) none one = subst P (sym (padding_at-block place block)) (none block)
at_boundary P place (inr inside) none one = subst P (sym (padding_at-inside place inside)) (one inside)

-- it ends at a block
pub IsBlock-padding_at : (place : ℕ) → IsBoundary place → IsBlock (end_of_chunks place (padding_at place))
IsBlock-padding_at place boundary =
    at_boundary (λ (ks : List ChunkValue). IsBlock (end_of_chunks place ks)) place boundary
    (λ block. block)
    (λ inside. (IsPaddingSize-number place inside).ends)

-- which is less than two blocks on
pub padding_at_near : (place : ℕ) → IsBoundary place → end_of_chunks place (padding_at place) < place + 131072
padding_at_near place boundary =
    at_boundary (λ (ks : List ChunkValue). end_of_chunks place ks < place + 131072) place boundary
    (λ block. omega arith)
    (λ inside. end_of_chunk-padding_near place inside)

-- it is padding, and is read
pub padding_at_are_padding : (place : ℕ) → IsBoundary place → AllByRecursion IsPadding (padding_at place)
padding_at_are_padding place boundary =
    at_boundary (AllByRecursion IsPadding) place boundary (λ block. tt) (λ inside. (IsPadding-padding (padding_size_of place), tt))

pub padding_at_are_plain : (place : ℕ) → IsBoundary place → AllByRecursion IsPlain (padding_at place)
padding_at_are_plain place boundary =
    at_boundary (AllByRecursion IsPlain) place boundary
    (λ block. tt)
    (λ inside. (IsPlain-padding (padding_size_of place) (omega (arith, padding_size_of_small place)), tt))

pub padding_at_are_chunks : (place : ℕ) → IsBoundary place → AllByRecursion IsChunk (padding_at place)
padding_at_are_chunks place boundary =
    at_boundary (AllByRecursion IsChunk) place boundary
    (λ block. tt)
    (λ inside. (IsChunk-padding (padding_size_of place) (omega (arith, padding_size_of_small place)), tt))
