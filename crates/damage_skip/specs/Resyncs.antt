-- Promise. Where reading goes on past damage: where block headers lead that are right and sane. Source: the
-- Riegeli/records file format specification, "Block header". Own: which of them leads, and where to.
use Rattle.std.specs.Prelude.{◌≡◌, ◌≢◌, ℕ, ◌+◌, ◌-◌, ◌<◌, ◌≤◌, ◌⊎◌, min, nat_lt, if◌then◌else◌, List, length}
use Rattle.block_layout.specs.BlockHeaders.{StandsAt}

-- a block, and what its header says, of which P holds, where P holds of no block before it
pub record IsFirstBlock (P : (block previous next : ℕ) → Type 0) (block previous next : ℕ) : Type 0 where
  pub holds : P block previous next
  pub first : (b p n : ℕ) → P b p n → block ≤ b

-- at a block at or past a place stands a header that is right and sane, and says this
pub record StandsFrom (file : List ℕ) (place block previous next : ℕ) : Type 0 where
  pub stands : StandsAt file block previous next
  pub from : place ≤ block

-- where a block leads that is met from a place of a file of so many bytes: to the begin of the chunk that it interrupts
-- where that is past the place, and else to the end of that chunk, or of the file if that comes first
abbrev pub landing : (size place block previous next : ℕ) → ℕ
landing size place block previous next =
    if nat_lt place (block - previous) then block - previous else min (block + next) size

-- where reading goes on from a place where no chunk header can be read: where the first block from there on leads whose
-- header is right and sane, or at the file's end where there is none
abbrev pub IsResync : List ℕ → (place to : ℕ) → Type 0
IsResync file place to =
    ((block previous next : ℕ) × IsFirstBlock (StandsFrom file place) block previous next
    × (to ≡ landing (length file) place block previous next))
    ⊎ (((block previous next : ℕ) → ¬ StandsFrom file place block previous next) × (to ≡ length file))

-- at a block within a chunk stands a right and sane header that says another begin or another end
pub record Contradicts (file : List ℕ) (begin end block previous next : ℕ) : Type 0 where
  pub stands : StandsAt file block previous next
  pub from : begin ≤ block
  pub below : block < end
  pub differs : (block - previous ≢ begin) ⊎ (block + next ≢ end)
