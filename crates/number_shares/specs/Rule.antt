-- Inside. What holds of the table that numbers are taken from, between any two steps. Own.
use Rattle.std.specs.Prelude.{◌≡◌, ℕ, ◌+◌, ◌*◌, ◌-◌, ◌^◌, ◌≤◌, List, [], ◌++◌, length, map, slice_index}
use Rattle.std.specs.List.{AllByRecursion}
use Rattle.atomic_table.specs.Table.{State, Me, Step}
use Rattle.number_shares.specs.Shared.{ViewKind, IsShared}
use Rattle.number_shares.specs.declared.table.Piece.{Piece}
use Rattle.number_shares.specs.declared.table.Bounds.{Bounds}
use Rattle.number_shares.specs.declared.table.SeatView.{SeatView}
use Rattle.number_shares.specs.declared.table.Terms.{Terms}
use Rattle.number_shares.specs.Machine.{Hand, Machine, IsHand, numbers_taken, taken}

-- what is asked of terms: each piece has some number, the word stays small, and there are 1 to 16 seats
pub record AreTerms (terms : Terms) : Type 0 where
  pub some : 1 ≤ terms.bounds.least
  pub few : terms.bounds.most ≤ 2 ^ 32
  pub limit : terms.bounds.limit ≤ 2 ^ 32
  pub some_seat : 1 ≤ terms.seats
  pub seats_at_most : terms.seats ≤ 16

-- how far the word comes at most: no seat takes a piece once it has one that ends above the limit
abbrev pub word_limit : Bounds → ℕ
word_limit b = b.limit + 16 * b.most

-- the view of the first seat
abbrev pub first_view : Terms → SeatView
first_view terms = record { mine = []; past = []; weight = terms.seats; bounds = terms.bounds }

-- what a seat's view keeps where a seat that stands for itself alone is split from it
abbrev pub view_less_one : SeatView → SeatView
view_less_one v = record v { weight = v.weight - 1 }

-- what that seat knows
abbrev pub view_of_one : SeatView → SeatView
view_of_one v = record { mine = []; past = []; weight = 1; bounds = v.bounds }

-- what a seat's view is where it takes in that of another, and has these pieces then
abbrev pub joined_view : List Piece → SeatView → SeatView → SeatView
joined_view mine v w = record { mine = mine; past = w.past ++ v.past; weight = v.weight + w.weight; bounds = v.bounds }

-- the other's pieces before its own, and behind them
abbrev pub joined_before : SeatView → SeatView → SeatView
joined_before v w = joined_view (w.mine ++ v.mine) v w

abbrev pub joined_behind : SeatView → SeatView → SeatView
joined_behind v w = joined_view (v.mine ++ w.mine) v w

-- what the other is left with
abbrev pub spent_view : SeatView
spent_view = record { mine = []; past = []; weight = 0; bounds = record { limit = 0; least = 0; most = 0 } }

-- what the seat has in the machine
abbrev pub hand_of : SeatView → Hand
hand_of v = record { mine = v.mine; past = v.past }

-- the view of a seat that has this in the machine
abbrev pub with_hand : SeatView → Hand → SeatView
with_hand v hand = record v { mine = hand.mine; past = hand.past }

-- a view, and one more piece, which goes where it ends
abbrev pub with_piece : Piece → SeatView → SeatView
with_piece x v = with_hand v (taken v.bounds.limit x (hand_of v))

-- what a step tells: the view has the piece at the number found, which is past all that it had before
pub record TellsTake (step : Step (Unit {0})) (old : Me (Unit {0}) SeatView) (found : ℕ) (new : Me (Unit {0}) SeatView) : Type 0 where
  pub small : found ≤ word_limit old.0.bounds
  pub above : AllByRecursion (λ x. x.at + x.cost ≤ found) old.0.mine
  pub view : new.0 ≡ with_piece (record { at = found; cost = step.first }) old.0
  pub slots : new.1 ≡ old.1

-- a view that is not spent: it has the table's bounds, stands for some seat, and has ended no more often than for each once
pub record IsAtWork (b : Bounds) (v : SeatView) : Type 0 where
  pub hand : IsHand b (hand_of v)
  pub bounds : v.bounds ≡ b
  pub weight : 1 ≤ v.weight
  pub ends : length v.past ≤ v.weight

-- what the views share out: the numbers that their pieces hold
abbrev pub sharing : Bounds → ViewKind SeatView
sharing b = record { spent = spent_view; Works = IsAtWork b; weight = λ v. v.weight; numbers = λ v. numbers_taken (hand_of v) }

-- the machine's state: the word, and what the views have
abbrev pub machine_of : State (Unit {0}) SeatView → Machine
machine_of s = record { word = slice_index s.words 0; hands = map hand_of s.views }

-- what holds between any two steps: the pieces of all views hold each number below the word once, and no other, and together
-- the views stand for all seats
pub record IsKept (terms : Terms) (s : State (Unit {0}) SeatView) : Type 0 where
  pub one_word : length s.words ≡ 1
  pub shared : IsShared (sharing terms.bounds) (slice_index s.words 0) terms.seats s.views
  pub fit : AreTerms terms
