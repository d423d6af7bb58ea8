-- Inside. The machine that seats take numbers from. Own.
use Rattle.std.specs.Prelude.{◌≡◌, ℕ, ◌+◌, ◌<◌, ◌≤◌, nat_le, if◌then◌else◌, Some, List, [], ◌∷◌, ◌++◌, replicate, slice_get, slice_set}
use Rattle.std.specs.List.{AllByRecursion, flat_map, range_with_len}
use Rattle.number_shares.specs.Once.{HasEachBelow}
use Rattle.number_shares.specs.declared.table.Piece.{Piece}
use Rattle.number_shares.specs.declared.table.Bounds.{Bounds}

-- the numbers that a piece holds
abbrev pub piece_numbers : Piece → List ℕ
piece_numbers x = range_with_len x.at x.cost

-- the numbers that pieces hold
abbrev pub numbers_in : List Piece → List ℕ
numbers_in xs = flat_map piece_numbers xs

-- a piece within the bounds that ends at or below the limit
pub record IsMine (b : Bounds) (x : Piece) : Type 0 where
  pub some : b.least ≤ x.cost
  pub few : x.cost ≤ b.most
  pub ends : x.at + x.cost ≤ b.limit

-- and one that ends above it
pub record IsPast (b : Bounds) (x : Piece) : Type 0 where
  pub some : b.least ≤ x.cost
  pub few : x.cost ≤ b.most
  pub ends : b.limit < x.at + x.cost

-- what a seat took, in order: the pieces that end at or below the limit, and those that end above it
pub record Hand : Type 0 where
  pub mine : List Piece
  pub past : List Piece

-- what a seat has before it takes any
abbrev pub empty_hand : Hand
empty_hand = record { mine = []; past = [] }

-- a state: the number that comes next, and what each seat took
pub record Machine : Type 0 where
  pub word : ℕ
  pub hands : List Hand

-- the state before any event, for so many seats
abbrev pub start_of : ℕ → Machine
start_of seats = record { word = 0; hands = replicate seats empty_hand }

-- a hand, and one more piece that ends at or below the limit
abbrev pub with_mine : Piece → Hand → Hand
with_mine x hand = record hand { mine = hand.mine ++ x ∷ [] }

-- a hand, and one more piece that ends above it
abbrev pub with_past : Piece → Hand → Hand
with_past x hand = record hand { past = hand.past ++ x ∷ [] }

-- what a seat has after it took a piece
abbrev pub taken : ℕ → Piece → Hand → Hand
taken limit x hand = if nat_le (x.at + x.cost) limit then with_mine x hand else with_past x hand

-- the event "this seat takes so many numbers": it is possible where the seat has taken no piece that ends above the limit; the
-- seat takes the piece at the number that comes next, and the number past it comes next then
pub record IsTake (b : Bounds) (old : Machine) (seat cost : ℕ) (new : Machine) : Type 0 where
  pub hand : Hand
  pub sits : slice_get old.hands seat ≡ Some hand
  pub possible : hand.past ≡ []
  pub some : b.least ≤ cost
  pub few : cost ≤ b.most
  pub word : new.word ≡ old.word + cost
  pub hands : new.hands ≡ slice_set old.hands seat (taken b.limit (record { at = old.word; cost = cost }) hand)

-- a run: events one after another, each of the seat and the cost that the list names
abbrev pub AreTakes : Bounds → Machine → List (ℕ × ℕ) → Machine → Type 0
AreTakes b old [] new = new ≡ old
AreTakes b old (take ∷ takes) new = (between : Machine) × IsTake b old take.0 take.1 between × AreTakes b between takes new

-- all pieces that a seat took
abbrev pub pieces_of : Hand → List Piece
pieces_of hand = hand.mine ++ hand.past

-- all numbers that it took
abbrev pub numbers_taken : Hand → List ℕ
numbers_taken hand = numbers_in (pieces_of hand)

-- each piece of a hand stands in its own list
pub record IsHand (b : Bounds) (hand : Hand) : Type 0 where
  pub mine : AllByRecursion (IsMine b) hand.mine
  pub past : AllByRecursion (IsPast b) hand.past

-- the pieces hold each number below the one that comes next once, and no other; and each stands in its own list
pub record IsCounted (b : Bounds) (state : Machine) : Type 0 where
  pub each_once : HasEachBelow state.word (flat_map numbers_taken state.hands)
  pub hands : AllByRecursion (IsHand b) state.hands

-- the pieces of all hands that end at or below the limit, and those that end above it
abbrev pub all_mine : List Hand → List Piece
all_mine hands = flat_map (λ hand. hand.mine) hands

abbrev pub all_past : List Hand → List Piece
all_past hands = flat_map (λ hand. hand.past) hands
