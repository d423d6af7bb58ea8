-- Values counted by hand, which the checker computes from the definitions.
use Rattle.std.proofs.Common.{◌≡◌, ℕ, ◌+◌, Some, None, List, [], ◌∷◌, map, set, refl, arith}
use Rattle.std.specs.List.{slice_get}
use Rattle.chunk_workers.specs.declared.places.RunPlace.{RunPlace}
use Rattle.chunk_workers.specs.Coded.{CodedValue}
use Rattle.chunk_workers.specs.InOrder.{in_order}
use Rattle.chunk_workers.specs.RunPlaces.{places_of}
use Rattle.chunk_workers.specs.Runs.{RunsValue, run_count}
use Rattle.number_shares.specs.Once.{times}
use Rattle.number_shares.specs.Machine.{AreTakes, Hand, IsTake, Machine, start_of, taken}
use Rattle.chunk_workers.specs.Seats.{answer_for, one, ones}

-- a seat's lists, and a state
abbrev has : List ℕ → List ℕ → Hand
has mine past = record { mine = map one mine; past = map one past }

abbrev at : ℕ → List Hand → Machine
at word hands = record { word = word; hands = hands }

-- one event
draw : (n seat : ℕ) (old : Machine) (hand : Hand) → slice_get old.hands seat ≡ Some hand → hand.past ≡ []
    → IsTake (ones n) old seat 1 (at (old.word + 1) (set old.hands seat (taken n (one old.word) hand)))
draw n seat old hand sits possible = record { hand = hand; sits = sits; possible = possible; some = omega arith; few = omega arith; word = refl; hands = refl }

-- where n is 3 two seats draw in turns, and once more: the first has 0 and 2 and ended at 4, the second has 1 and ended at 3
three_in_turns : AreTakes (ones 3) (start_of 2) ((0, 1) ∷ (1, 1) ∷ (0, 1) ∷ (1, 1) ∷ (0, 1) ∷ []) (at 5 (has (0 ∷ 2 ∷ []) (4 ∷ []) ∷ has (1 ∷ []) (3 ∷ []) ∷ []))
three_in_turns =
    let a = at 1 (has (0 ∷ []) [] ∷ has [] [] ∷ []) in
    let b = at 2 (has (0 ∷ []) [] ∷ has (1 ∷ []) [] ∷ []) in
    let c = at 3 (has (0 ∷ 2 ∷ []) [] ∷ has (1 ∷ []) [] ∷ []) in
    let d = at 4 (has (0 ∷ 2 ∷ []) [] ∷ has (1 ∷ []) (3 ∷ []) ∷ []) in
    let e = at 5 (has (0 ∷ 2 ∷ []) (4 ∷ []) ∷ has (1 ∷ []) (3 ∷ []) ∷ []) in (
      a,
      draw 3 0 (start_of 2) (has [] []) refl refl,
      (b, draw 3 1 a (has [] []) refl refl, (c, draw 3 0 b (has (0 ∷ []) []) refl refl, (d, draw 3 1 c (has (1 ∷ []) []) refl refl, (e, draw 3 0 d (has (0 ∷ 2 ∷ []) []) refl refl, refl)))),
    )

-- where n is 0 the first number ends a seat
none_to_draw : AreTakes (ones 0) (start_of 1) ((0, 1) ∷ []) (at 1 (has [] (0 ∷ []) ∷ []))
none_to_draw = (at 1 (has [] (0 ∷ []) ∷ []), draw 0 0 (start_of 1) (has [] []) refl refl, refl)

-- the last number below n is answered, and n itself isn't
last_answer : answer_for 3 2 ≡ Some 2
last_answer = refl

first_without : answer_for 3 3 ≡ None
first_without = refl

-- how often a number stands in a list
twice : times 7 (7 ∷ 1 ∷ 7 ∷ []) ≡ 2
twice = refl

-- where three groups are drawn in runs of two, the second run by the first worker: by rising number, and where they lie
abbrev drew : List ℕ → List CodedValue → RunsValue
drew numbers chunks = record { numbers = numbers; chunks = chunks }

by_rising_number : (a b c : CodedValue) → in_order 2 3 (drew (1 ∷ []) (c ∷ []) ∷ drew (0 ∷ []) (a ∷ b ∷ []) ∷ []) ≡ a ∷ b ∷ c ∷ []
by_rising_number a b c = refl

abbrev place : ℕ → ℕ → RunPlace
place worker first = record { worker = worker; first = first }

places_of_two : (chunks : List CodedValue) → places_of 2 5 (drew (2 ∷ 0 ∷ []) chunks ∷ drew (1 ∷ []) chunks ∷ []) ≡ (2, place 0 0) ∷ (0, place 0 1) ∷ (1, place 1 0) ∷ []
places_of_two chunks = refl

-- four groups are two runs of two, and five three
two_runs : run_count 2 4 ≡ 2
two_runs = refl

three_runs : run_count 2 5 ≡ 3
three_runs = refl
