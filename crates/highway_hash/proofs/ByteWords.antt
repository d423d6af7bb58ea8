-- The words that stand in a list of bytes.
use Rattle.std.proofs.Common.{◌≡◌, ℕ, ◌+◌, ◌-◌, ◌*◌, ◌<◌, ◌≤◌, List, [], length, get_or, take, drop, refl, ap, ◌∙◌, arith}
use Rattle.std.specs.Prelude.{slice_range}
use Rattle.std.specs.Int.{w64, to_le_bytes, from_le_bytes}
use Rattle.std.specs.Simd.{first_chunks}
use Rattle.std.proofs.lemmas.Nat.{le_bytes_8}
use Rattle.std.proofs.lemmas.Grind.{common_steps}
use Rattle.highway_hash.proofs.Words.{chunk_at}

-- the word at a place of the bytes
abbrev pub word : List ℕ → ℕ → ℕ
word bytes at = from_le_bytes w64 (slice_range bytes at (at + 8))

-- a word that was read from the bytes in eights
pub word_of_eights : (bytes : List ℕ) (eights : List (List ℕ)) (n i read : ℕ) → eights ≡ first_chunks 8 n bytes → i < n
    → read ≡ from_le_bytes w64 (get_or eights i []) → read ≡ word bytes (8 * i)
word_of_eights bytes eights n i read cut inside is =
    let eight : 8 ≡ 8 * i + 8 - 8 * i = omega arith in
    is
    ∙ ap (λ (xs : List (List ℕ)). from_le_bytes w64 (get_or xs i [])) cut
    ∙ ap (from_le_bytes w64) (chunk_at 8 n i bytes [] inside ∙ ap (λ k. take k (drop (8 * i) bytes)) eight)

-- the bytes of a word are those that stand at its place
pub to_le_bytes-word : (bytes : List ℕ) (at : ℕ) → at + 8 ≤ length bytes → ((i : ℕ) → get_or bytes i 0 < 256)
    → to_le_bytes w64 (word bytes at) ≡ slice_range bytes at (at + 8)
to_le_bytes-word bytes at inside below_256 =
    let each : (i : ℕ) → get_or (slice_range bytes at (at + 8)) i 0 < 256 = λ i. grind (arith, common_steps, below_256 (at + i)) in
    le_bytes_8 (slice_range bytes at (at + 8)) (word bytes at) (grind (arith, common_steps)) (λ i. each i) refl
