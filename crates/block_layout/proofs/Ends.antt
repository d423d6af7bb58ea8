-- Lemmas on the ends of bytes, and on the boundary at or past a position.
use Rattle.std.proofs.Common.{◌≡◌, ℕ, zero, suc, ◌+◌, ◌-◌, ◌*◌, ◌%◌, ◌<◌, ◌≤◌, refl, sym, subst, arith}
use Rattle.block_layout.specs.Layout.{IsBlock, IsUsable, IsBoundary, IsEnd, room, usable_below, usable_at, end_of, boundary_from}
use Rattle.block_layout.proofs.Room.{room-closed}

-- the end of no bytes
pub end_of-zero : (begin : ℕ) → end_of begin 0 ≡ begin
unfolding end_of
end_of-zero begin = refl

-- the end of one byte or more is right behind the last of them
pub end_of-some : (begin size : ℕ) → 1 ≤ size → end_of begin size ≡ usable_at (usable_below begin + size - 1) + 1
unfolding end_of
end_of-some begin size h = grind arith

-- what a number needs to be the end: so many usable positions below it, and the last of them right below it
end_of-is : (begin size : ℕ)
    → (begin ≤ end_of begin size) × (usable_below (end_of begin size) ≡ usable_below begin + size)
    × ((e : ℕ) → begin ≤ e → usable_below begin + size ≤ usable_below e → end_of begin size ≤ e)
end_of-is begin zero = let z = end_of-zero begin in
    (omega arith, omega arith, λ e h g. omega arith)
end_of-is begin (suc n) =
    let s : end_of begin (suc n) ≡ usable_at (usable_below begin + suc n - 1) + 1 = end_of-some begin (suc n) (omega arith) in
    (omega arith, omega arith, λ e h g. omega arith)

-- it is at or past the begin
pub end_of_after : (begin size : ℕ) → begin ≤ end_of begin size
end_of_after begin size = (end_of-is begin size).0

-- so many more usable positions lie below it
pub usable_below-end_of : (begin size : ℕ) → usable_below (end_of begin size) ≡ usable_below begin + size
usable_below-end_of begin size = (end_of-is begin size).1

-- a position with so much room before it is at or past it
pub end_of_least : (begin size e : ℕ) → begin ≤ e → size ≤ room begin e → end_of begin size ≤ e
end_of_least begin size e h g =
    (end_of-is begin size).2 e h (omega (arith, room-closed begin e))

-- the number is the end
pub end_of_is_end : (begin size : ℕ) → IsEnd begin size (end_of begin size)
end_of_is_end begin size = record {
  after = end_of_after begin size;
  holds = omega (arith, room-closed begin (end_of begin size), usable_below-end_of begin size);
  least = λ e h g. end_of_least begin size e h (omega arith);
}

-- there is one end
pub end_unique : (begin size e f : ℕ) → IsEnd begin size e → IsEnd begin size f → e ≡ f
end_unique begin size e f h g =
    omega (arith, h.least f g.after g.holds, g.least e h.after h.holds)

-- so it is the number
pub end_is_end_of : (begin size e : ℕ) → IsEnd begin size e → e ≡ end_of begin size
end_is_end_of begin size e h = end_unique begin size e (end_of begin size) h (end_of_is_end begin size)

-- a number that is it is the end
pub end_from_number : (begin size e : ℕ) → e ≡ end_of begin size → IsEnd begin size e
end_from_number begin size e h = let P : ℕ → Type 0 = IsEnd begin size in subst P (sym h) (end_of_is_end begin size)

-- one byte or more end past the begin
pub end_of_above : (begin size : ℕ) → 1 ≤ size → begin < end_of begin size
end_of_above begin size h = omega (arith, end_of-some begin size h)

-- the bytes are within
pub end_of_room : (begin size : ℕ) → begin + size ≤ end_of begin size
end_of_room begin zero = omega (arith, end_of-zero begin)
end_of_room begin (suc n) = omega (arith, end_of-some begin (suc n) (omega arith))

-- a position right behind a usable one is a boundary
behind_usable : (n : ℕ) → IsBoundary (usable_at n + 1)
behind_usable n = grind arith

-- the position before the end of one byte or more is usable
pub end_of_last_usable : (begin size : ℕ) → 1 ≤ size → IsUsable (end_of begin size - 1)
end_of_last_usable begin size h = omega (arith, end_of-some begin size h)

-- one byte or more end at a boundary, wherever they begin
pub end_of_boundary : (begin size : ℕ) → 1 ≤ size → IsBoundary (end_of begin size)
end_of_boundary begin size h =
    rw (end_of-some begin size h) (behind_usable (usable_below begin + size - 1))

-- and so do any bytes that begin at one
pub end_of_from_boundary : (begin size : ℕ) → IsBoundary begin → IsBoundary (end_of begin size)
end_of_from_boundary begin zero h = rw end_of-zero h
end_of_from_boundary begin (suc n) h = end_of_boundary begin (suc n) (omega arith)

-- more bytes end later or at the same place
pub end_of_mono : (begin size more : ℕ) → size ≤ more → end_of begin size ≤ end_of begin more
end_of_mono begin size more h =
    end_of_least begin size (end_of begin more) (end_of_after begin more)
    (omega (arith, room-closed begin (end_of begin more), usable_below-end_of begin more))

-- bytes that follow others end where all of them end
pub end_of-more : (begin size more : ℕ) → end_of (end_of begin size) more ≡ end_of begin (size + more)
end_of-more begin size more =
    let middle = end_of begin size in
    let first = usable_below-end_of begin size in
    let low : end_of middle more ≤ end_of begin (size + more) =
    end_of_least middle more (end_of begin (size + more)) (end_of_mono begin size (size + more) (omega arith))
    (omega (arith, room-closed middle (end_of begin (size + more)), usable_below-end_of begin (size + more))) in
    let high : end_of begin (size + more) ≤ end_of middle more =
    end_of_least begin (size + more) (end_of middle more) (omega (arith, end_of_after begin size, end_of_after middle more))
    (omega (arith, room-closed begin (end_of middle more), usable_below-end_of middle more)) in
    omega (arith, low, high)

-- ends move by whole blocks with their begins
pub end_of_shift : (begin size k : ℕ) → end_of (begin + k * 65536) size ≡ end_of begin size + k * 65536
end_of_shift begin zero k = omega (arith, end_of-zero begin, end_of-zero (begin + k * 65536))
end_of_shift begin (suc n) k =
    omega (arith, end_of-some begin (suc n) (omega arith), end_of-some (begin + k * 65536) (suc n) (omega arith))

-- within a block, past its header, bytes end right behind as many positions
pub end_of_in_block : (begin size : ℕ) → 24 ≤ begin % 65536 → begin % 65536 + size ≤ 65536 → end_of begin size ≡ begin + size
end_of_in_block begin zero h g = omega (arith, end_of-zero begin)
end_of_in_block begin (suc n) h g = omega (arith, end_of-some begin (suc n) (omega arith))

-- bytes that begin at a block come behind its header
pub end_of_from_block : (begin size : ℕ) → IsBlock begin → 1 ≤ size → size ≤ 65512 → end_of begin size ≡ begin + 24 + size
end_of_from_block begin size h g k = omega (arith, end_of-some begin size g)

-- a position right behind a usable one, with so much room before it, is the end
pub end_of_at : (begin size e : ℕ) → begin ≤ e → 1 ≤ size → room begin e ≡ size → IsUsable (e - 1) → e ≡ end_of begin size
end_of_at begin size e h g k u =
    omega (arith, end_of-some begin size g, room-closed begin e)

-- the boundary at or past a position is there
pub boundary_from_after : (p : ℕ) → p ≤ boundary_from p
boundary_from_after p = grind arith

-- it is a boundary
pub boundary_from_boundary : (p : ℕ) → IsBoundary (boundary_from p)
boundary_from_boundary p = grind arith

-- none lies before it
pub boundary_from_least : (p e : ℕ) → IsBoundary e → p ≤ e → boundary_from p ≤ e
boundary_from_least p e h g = grind arith

-- a boundary is its own
pub boundary_from_is : (p : ℕ) → IsBoundary p → boundary_from p ≡ p
boundary_from_is p h = grind arith

-- it lies less than 25 positions on
pub boundary_from_near : (p : ℕ) → boundary_from p ≤ p + 24
boundary_from_near p = grind arith

-- it moves by whole blocks with the position
pub boundary_from_shift : (p k : ℕ) → boundary_from (p + k * 65536) ≡ boundary_from p + k * 65536
boundary_from_shift p k = grind arith

-- what a function that finds the end asks for
pub ruleset end_steps = (end_of-zero, end_of-some, end_of_room)
