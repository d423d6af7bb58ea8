-- The search for the block that leads reading on past damage.
use Rattle.std.proofs.Common.{◌≡◌, ℕ, ◌+◌, ◌<◌, ◌≤◌, Option, Some, None, IfSome, List, inl, inr, ap, subst, arith}
use Rattle.std.proofs.lemmas.Bool.{cases_lt}
use Rattle.block_layout.specs.Layout.{IsBlock}
use Rattle.block_layout.specs.BlockHeaders.{StandsAt}
use Rattle.block_layout.specs.declared.block_header.BlockHeader.{BlockHeader}
use Rattle.chunk_reader.specs.Holders.{IsSaneHeaderAt}
use Rattle.chunk_reader.proofs.Blocks.{stands_within}
use Rattle.chunk_reader.proofs.Rooms.{IsSized}
use Rattle.damage_skip.specs.Resyncs.{StandsFrom, IsResync, landing}

-- no header stands from a place on below a block
abbrev pub StandNotBelow : List ℕ → (place block : ℕ) → Type 0
StandNotBelow file place block = (b previous next : ℕ) → StandsFrom file place b previous next → block ≤ b

-- at first
pub stand-none : (bytes : Option (List ℕ)) (place block : ℕ) → IsBlock block → block < place + 65536
    → IfSome bytes (λ file. StandNotBelow file place block)
stand-none None place block at near = tt
stand-none (Some file) place block at near = λ b p n h. omega (arith, at, h.stands.is_block, h.from)

-- behind a block where none does
pub stand-more : (bytes now : Option (List ℕ)) (place block : ℕ) (found : Option BlockHeader) → now ≡ bytes → IsBlock block → found ≡ None
    → IfSome bytes (λ file. StandNotBelow file place block) → IfSome now (λ file. IsSaneHeaderAt file block found)
    → IfSome bytes (λ file. StandNotBelow file place (block + 65536))
stand-more None now place block found same at none before here = tt
stand-more (Some file) None place block found same at none before here = cc
stand-more (Some file) (Some other) place block found same at none before here =
    let is : other ≡ file = cc in
    let unread : IsSaneHeaderAt file block None = subst (IsSaneHeaderAt file block) none (subst (λ (f : List ℕ). IsSaneHeaderAt f block found) is here) in
    λ b p n h.
    elim (cases_lt block b) [
      | inl past ↦ omega (arith, at, h.stands.is_block, past)
      | inr not ↦
          absurd (unread p n (subst (λ (x : ℕ). StandsAt file x p n) (omega (arith, not, before b p n h)) h.stands))
    ]

-- the first one leads on
pub resync-found : (bytes now : Option (List ℕ)) (size place block : ℕ) (found : Option BlockHeader) (h : BlockHeader) → now ≡ bytes
    → IsSized bytes (Some size) → place ≤ block → found ≡ Some h → IfSome bytes (λ file. StandNotBelow file place block)
    → IfSome now (λ file. IsSaneHeaderAt file block found)
    → IfSome bytes (λ file. IsResync file place (landing size place block h.previous h.next))
resync-found None now size place block found h same sized from is before here = tt
resync-found (Some file) None size place block found h same sized from is before here = cc
resync-found (Some file) (Some other) size place block found h same sized from is before here =
    let is_file : other ≡ file = cc in
    let stands : StandsAt file block h.previous h.next =
    subst (IsSaneHeaderAt file block) is (subst (λ (f : List ℕ). IsSaneHeaderAt f block found) is_file here) in
    inl (
      block,
      h.previous,
      h.next,
      record { holds = record { stands = stands; from = from }; first = before },
      ap (λ (n : ℕ). landing n place block h.previous h.next) sized,
    )

-- and where there is none it is the file's end
pub resync-none : (bytes : Option (List ℕ)) (size place block : ℕ) → IsSized bytes (Some size) → size ≤ block
    → IfSome bytes (λ file. StandNotBelow file place block) → IfSome bytes (λ file. IsResync file place size)
resync-none None size place block sized past before = tt
resync-none (Some file) size place block sized past before =
    inr ((λ b p n h. absurd (omega (arith, sized, past, before b p n h, stands_within file b p n h.stands))), sized)
