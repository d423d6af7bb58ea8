-- Inside. What contracts see of draws and of their seats. Own.
use Rattle.std.specs.Prelude.{◌≡◌, ℕ, ◌<◌, nat_lt, if◌then◌else◌, Option, Some, None, List, map}
use Rattle.std.specs.List.{AllByRecursion, flat_map}
use Rattle.atomic_table.specs.Seated.{TableId}
use Rattle.number_shares.specs.declared.table.Bounds.{Bounds}
use Rattle.number_shares.specs.declared.table.Piece.{Piece}
use Rattle.number_shares.specs.Machine.{Hand, taken}

-- a draw takes one number, and those below n are drawn
abbrev pub ones : ℕ → Bounds
ones n = record { limit = n; least = 1; most = 1 }

-- the piece that has one number
abbrev pub one : ℕ → Piece
one number = record { at = number; cost = 1 }

-- the numbers of pieces that have one each
abbrev pub numbers_at : List Piece → List ℕ
numbers_at xs = map (λ x. x.at) xs

-- what is answered to a seat that drew a number: that number, where it is below n
abbrev pub answer_for : ℕ → ℕ → Option ℕ
answer_for n number = if nat_lt number n then Some number else None

-- which table numbers are drawn from, how many there are, and how many workers draw
pub record DrawsValue : Type 0 where
  pub table : TableId
  pub n : ℕ
  pub workers : ℕ

-- which table the seat draws from, how many numbers there are, and what it drew: `mine` has those below n, `past` the others
pub record SeatValue : Type 0 where
  pub table : TableId
  pub n : ℕ
  pub hand : Hand

-- the seat belongs to these draws: it draws from their table, and knows their n
pub record BelongsTo (draws : DrawsValue) (seat : SeatValue) : Type 0 where
  pub table : seat.table ≡ draws.table
  pub n : seat.n ≡ draws.n

-- what a draw does where the seat hasn't ended: it is the machine's event for this seat, with some number above all that
-- the seat drew before, and that event's answer
pub record IsSeatDraw (old : SeatValue) (answer : Option ℕ) (new : SeatValue) : Type 0 where
  pub number : ℕ
  pub above : AllByRecursion (λ p. p < number) (numbers_at old.hand.mine)
  pub seat : new ≡ record old { hand = taken old.n (one number) old.hand }
  pub answers : answer ≡ answer_for old.n number

-- the numbers below n that seats drew, in the order of the seats
abbrev pub drawn_by : List SeatValue → List ℕ
drawn_by seats = flat_map (λ seat. numbers_at seat.hand.mine) seats
