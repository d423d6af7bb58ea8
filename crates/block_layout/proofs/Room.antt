-- Lemmas on `room`, how many usable positions lie between two, and on the boundaries and blocks between.
use Rattle.std.proofs.Common.{◌≡◌, ℕ, zero, suc, ◌+◌, ◌-◌, ◌*◌, ◌/◌, ◌%◌, ◌<◌, ◌≤◌, inl, inr, arith}
use Rattle.block_layout.specs.Layout.{IsBlock, IsUsable, IsBoundary, room, usable_below}

-- room is the difference of what lies below each; none is left where the second position is not above the first
pub room-closed : (a b : ℕ) → room a b ≡ usable_below b - usable_below a
unfolding room
room-closed a zero = omega arith
room-closed a (suc b) = let before : room a b ≡ usable_below b - usable_below a = room-closed a b in grind arith

-- what lies below the first position and the room between are what lies below the second
pub usable_below-room : (a b : ℕ) → a ≤ b → usable_below a + room a b ≡ usable_below b
usable_below-room a b h = omega (arith, room-closed a b)

-- no room where the second position is not above the first
pub room_none : (a b : ℕ) → b ≤ a → room a b ≡ 0
room_none a b h = omega (arith, room-closed a b)

-- room adds up over a position between
pub room_split : (a b c : ℕ) → a ≤ b → b ≤ c → room a c ≡ room a b + room b c
room_split a b c h g = omega (arith, room-closed a b, room-closed b c, room-closed a c)

-- a usable position adds one
pub room_usable : (a p : ℕ) → a ≤ p → IsUsable p → room a (p + 1) ≡ room a p + 1
room_usable a p h u = omega (arith, room-closed a p, room-closed a (p + 1))

-- a position of a block header adds none
pub room_header : (a p : ℕ) → p % 65536 < 24 → room a (p + 1) ≡ room a p
room_header a p h = omega (arith, room-closed a p, room-closed a (p + 1))

-- room grows with the second position
pub room_mono : (a b c : ℕ) → b ≤ c → room a b ≤ room a c
room_mono a b c h = omega (arith, room-closed a b, room-closed a c)

-- a usable position has less room before it than any above
pub room_below : (a p b : ℕ) → a ≤ p → IsUsable p → p < b → room a p < room a b
room_below a p b h u g = omega (arith, room-closed a p, room-closed a b)

-- there is no more room than positions
pub room-le : (a b : ℕ) → room a b ≤ b - a
room-le a b = omega (arith, room-closed a b)

-- a block's header has no room
pub room_of_header : (b : ℕ) → IsBlock b → room b (b + 24) ≡ 0
room_of_header b h = omega (arith, room-closed b (b + 24))

-- past its header every position of a block has room
pub room_in_block : (b a e : ℕ) → IsBlock b → b + 24 ≤ a → a ≤ e → e ≤ b + 65536 → room a e ≡ e - a
room_in_block b a e h g k l = omega (arith, room-closed a e)

-- from a block on, all but its header have room
pub room_from_block : (b e : ℕ) → IsBlock b → b + 24 ≤ e → e ≤ b + 65536 → room b e ≡ e - (b + 24)
room_from_block b e h g l = omega (arith, room-closed b e)

-- room stays the same where both positions move by whole blocks
pub room_shift : (a b k : ℕ) → room (a + k * 65536) (b + k * 65536) ≡ room a b
room_shift a b k = omega (arith, room-closed a b, room-closed (a + k * 65536) (b + k * 65536))

-- boundaries stay such where they move by whole blocks
pub boundary_shift : (p k : ℕ) → IsBoundary p → IsBoundary (p + k * 65536)
boundary_shift p k h = elim h [ inl e ↦ inl (omega arith) | inr g ↦ inr (omega arith) ]

-- and were such before
pub boundary_unshift : (p k : ℕ) → IsBoundary (p + k * 65536) → IsBoundary p
boundary_unshift p k h = elim h [ inl e ↦ inl (omega arith) | inr g ↦ inr (omega arith) ]

-- how many blocks lie at or past the first position and below the second
abbrev pub blocks_between : ℕ → ℕ → ℕ
blocks_between a b = (b + 65535) / 65536 - (a + 65535) / 65536

-- between boundaries every position has room but the 24 of each block's header
pub room_and_blocks : (a b : ℕ) → IsBoundary a → IsBoundary b → a ≤ b → a + room a b + 24 * blocks_between a b ≡ b
room_and_blocks a b h g k = omega (arith, room-closed a b)

-- a block between two positions is one of those counted, from the first at or past the first position
pub block_between : (a b p : ℕ) → IsBlock p → a ≤ p → p < b
    → (p ≡ ((a + 65535) / 65536 + blocks_between a p) * 65536) × (blocks_between a p < blocks_between a b)
block_between a b p h g k = (omega arith, omega arith)

-- and each of those counted is such a block
pub block_at : (a b k : ℕ) → k < blocks_between a b
    → IsBlock (((a + 65535) / 65536 + k) * 65536)
    × (a ≤ ((a + 65535) / 65536 + k) * 65536)
    × (((a + 65535) / 65536 + k) * 65536 < b)
block_at a b k h = (omega arith, omega arith, omega arith)

-- no block lies between two positions of one block, the first of which is past its begin
pub no_block_between : (b a e p : ℕ) → IsBlock b → b < a → e ≤ b + 65536 → IsBlock p → a ≤ p → p < e → ⊥
no_block_between b a e p h g k l m n = omega arith

-- a boundary above a block is past the block's header and one more
pub boundary_past_block : (b e : ℕ) → IsBlock b → IsBoundary e → b < e → b + 25 ≤ e
boundary_past_block b e h g k = omega arith
