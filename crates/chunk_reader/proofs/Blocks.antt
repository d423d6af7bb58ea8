-- What stands at a block of a file is one, and is decided.
use Rattle.std.proofs.Common.{◌≡◌, ◌∙◌, ℕ, ◌+◌, ◌-◌, ◌%◌, ◌^◌, ◌<◌, ◌≤◌, List, length, drop, sym, ap, inl, inr, arith}
use Rattle.std.specs.Prelude.{slice_range}
use Rattle.std.proofs.lemmas.List.{length-take, length-drop}
use Rattle.highway_hash.proofs.ByteWords.{word}
use Rattle.block_layout.specs.Layout.{IsBlock, IsBoundary}
use Rattle.block_layout.specs.BlockHeaders.{block_header, IsSane, StandsAt}
use Rattle.block_layout.proofs.BlockHeaders.{header_previous, header_next}
use Rattle.chunk_header.proofs.Decided.{IsDecided, both, same_decided, less_decided, at_most_decided, equal_decided, lists_decided}
use Rattle.chunk_reader.proofs.FaultsDecided.{either_decided}

-- the 24 bytes at a block
abbrev block_bytes : List ℕ → ℕ → List ℕ
block_bytes file block = slice_range file block (block + 24)

-- whether a position is a boundary
boundary_decided : (p : ℕ) → IsDecided (IsBoundary p)
boundary_decided p = either_decided _ _ (equal_decided (p % 65536) 0) (less_decided 24 (p % 65536))

-- whether a header is sane
sane_decided : (block previous next : ℕ) → IsDecided (IsSane block previous next)
sane_decided block previous next =
    same_decided ((previous ≤ block) × ((24 < next) × ((block + next ≤ 2 ^ 63) × (IsBoundary (block - previous) × IsBoundary (block + next))))) _
    (λ h. record { back = h.0; past_itself = h.1.0; in_reach = h.1.1.0; from_boundary = h.1.1.1.0; to_boundary = h.1.1.1.1 })
    (λ h. (h.back, (h.past_itself, (h.in_reach, (h.from_boundary, h.to_boundary)))))
    (both _ _ (at_most_decided previous block)
    (both _ _ (less_decided 24 next)
    (both _ _ (at_most_decided (block + next) (2 ^ 63))
    (both _ _ (boundary_decided (block - previous)) (boundary_decided (block + next))))))

stands_as_decided : (file : List ℕ) (block previous next : ℕ) → IsDecided (StandsAt file block previous next)
stands_as_decided file block previous next =
    same_decided (IsBlock block × ((block_bytes file block ≡ block_header previous next) × IsSane block previous next)) _
    (λ h. record { is_block = h.0; bytes = h.1.0; sane = h.1.1 })
    (λ h. (h.is_block, (h.bytes, h.sane)))
    (both _ _ (equal_decided (block % 65536) 0)
    (both _ _ (lists_decided (block_bytes file block) (block_header previous next)) (sane_decided block previous next)))

-- a header that is right and sane says what its words are
pub stands_previous : (file : List ℕ) (block previous next : ℕ) → StandsAt file block previous next
    → previous ≡ word (slice_range file block (block + 24)) 8
stands_previous file block previous next h =
    sym (header_previous (block_bytes file block) previous next (omega (arith, h.sane.back, h.sane.in_reach)) h.bytes)

pub stands_next : (file : List ℕ) (block previous next : ℕ) → StandsAt file block previous next
    → next ≡ word (slice_range file block (block + 24)) 16
stands_next file block previous next h =
    sym (header_next (block_bytes file block) previous next (omega (arith, h.sane.in_reach)) h.bytes)

-- so at a block one stands at most
pub stands_one : (file : List ℕ) (block p n q m : ℕ) → StandsAt file block p n → StandsAt file block q m → (p ≡ q) × (n ≡ m)
stands_one file block p n q m h g = (
  stands_previous file block p n h ∙ sym (stands_previous file block q m g),
  stands_next file block p n h ∙ sym (stands_next file block q m g),
)

-- whether one does
pub stands_decided : (file : List ℕ) (block : ℕ) → IsDecided ((previous next : ℕ) × StandsAt file block previous next)
stands_decided file block =
    let p : ℕ = word (block_bytes file block) 8 in
    let n : ℕ = word (block_bytes file block) 16 in
    elim (stands_as_decided file block p n) [
      | inl here ↦ inl (p, n, here)
      | inr never ↦ inr (λ some. never (
          let previous : some.0 ≡ p = stands_previous file block some.0 some.1 some.2 in
          let next : some.1 ≡ n = stands_next file block some.0 some.1 some.2 in
          rw (← previous, ← next) some.2
          ))
    ]

-- it lies in the file
pub stands_within : (file : List ℕ) (block previous next : ℕ) → StandsAt file block previous next → block + 24 ≤ length file
stands_within file block previous next h =
    omega (arith, ap length h.bytes, length-take (block + 24 - block) (drop block file), length-drop block file)
