-- The machine's state, as the table's steps change it.
use Rattle.std.proofs.Common.{◌≡◌, ◌∙◌, ℕ, ◌+◌, ◌^◌, ◌%◌, ◌≤◌, List, [], ◌∷◌, ◌++◌, set, map, replicate, refl, ap, arith}
use Rattle.std.specs.List.{slice_index}
use Rattle.std.specs.Option.{option_map}
use Rattle.std.proofs.lemmas.List.{replicate_more}
use Rattle.std.proofs.lemmas.Option.{slice_get-map}
use mathlib.Core.Option.{some}
use lib.ListN.{get_elem?}
use Rattle.atomic_table.specs.Table.{State, stepped, keeps}
use Rattle.number_shares.proofs.Lists.{map-set_at, map-split_at, slice_get_at, word_set}
use Rattle.number_shares.specs.declared.table.SeatView.{SeatView}
use Rattle.number_shares.specs.declared.table.Terms.{Terms}
use Rattle.number_shares.specs.Machine.{Hand, Machine, IsTake, empty_hand, start_of, taken}
use Rattle.number_shares.specs.Rule.{IsKept, hand_of, machine_of, view_less_one, view_of_one, with_hand, word_limit}
use Rattle.number_shares.proofs.Tables.{word_small}

-- a step is the event of the machine that the seat's number names
pub take_is_event : (terms : Terms) (s : State (Unit {0}) SeatView) (id cost : ℕ) (v : SeatView)
    → IsKept terms s → get_elem? s.views id ≡ some v → v.past ≡ [] → terms.bounds.least ≤ cost → cost ≤ terms.bounds.most
    → IsTake terms.bounds (machine_of s) id cost
    (machine_of (stepped s 0 ((slice_index s.words 0 + cost) % 2 ^ 64) id []
    (with_hand v (taken terms.bounds.limit (record { at = slice_index s.words 0; cost = cost }) (hand_of v))) keeps))
take_is_event terms s id cost v h at going enough few =
    let word : ℕ = slice_index s.words 0 in
    let small : word ≤ word_limit terms.bounds = word_small terms s h in
    record {
      hand = hand_of v;
      sits = slice_get-map hand_of s.views id ∙ ap (option_map hand_of) (slice_get_at s.views id v at);
      possible = going;
      some = enough;
      few = few;
      word = word_set s.words ((word + cost) % 2 ^ 64) h.one_word ∙ omega (arith, h.fit.few, h.fit.limit);
      hands = map-set_at hand_of s.views id (with_hand v (taken terms.bounds.limit (record { at = word; cost = cost }) (hand_of v)));
    }

-- so a seat split off before any event makes the machine's start for one seat more
pub split_starts : (seats : ℕ) (s : State (Unit {0}) SeatView) (id : ℕ) (v : SeatView) → machine_of s ≡ start_of seats
    → get_elem? s.views id ≡ some v
    → machine_of (record { words = s.words; homes = s.homes; views = set s.views id (view_less_one v) ++ view_of_one v ∷ [] })
    ≡ start_of (seats + 1)
split_starts seats s id v start at =
    let hands : map hand_of (set s.views id (view_less_one v) ++ view_of_one v ∷ []) ≡ replicate (seats + 1) empty_hand =
    map-split_at hand_of s.views id v (view_less_one v) (view_of_one v) (slice_get_at s.views id v at) refl
    ∙ ap (λ (m : Machine). m.hands ++ empty_hand ∷ []) start
    ∙ replicate_more seats empty_hand in
    ap (λ (m : Machine). record { word = m.word; hands = map hand_of (set s.views id (view_less_one v) ++ view_of_one v ∷ []) }) start
    ∙ ap (λ (hs : List Hand). let m : Machine = record { word = 0; hands = hs } in m) hands
