-- Values counted by hand, computed from the definitions.
use Rattle.std.proofs.Common.{◌≡◌, List, [], ◌∷◌, replicate, lit≤, refl}
use Rattle.varint_wire.specs.Varint.{shortest}
use Rattle.block_layout.specs.Layout.{chunk_end_of, end_of}
use Rattle.record_group.specs.Groups.{groups}
use Rattle.record_collect.specs.declared.placed.Placed.{Placed}
use Rattle.record_collect.specs.FilePlaces.{places_in_file}
use Rattle.record_collect.specs.Gatherings.{GatheredValue}
use Rattle.record_collect.specs.Orders.{ReceiptsAddUp, cost_of_placed, gathered_of}
use Rattle.record_collect.specs.Passes.{receipts_from}
use Rattle.number_shares.specs.Least.{IsLeast}
use Rattle.number_shares.specs.Machine.{AreTakes, Machine, empty_hand, start_of, taken}
use Rattle.record_collect.specs.Limits.{limit}
use Rattle.record_collect.specs.Puts.{puts}

-- the first pass puts `a` and `bc` together, the second an empty record, and the first that again: they cost 19, 8 and 8
letters : List Placed
letters =
    record { at = 0; pass = 0; records = (0x61 ∷ []) ∷ (0x62 ∷ 0x63 ∷ []) ∷ [] }
    ∷ record { at = 19; pass = 1; records = [] ∷ [] }
    ∷ record { at = 27; pass = 0; records = [] ∷ [] }
    ∷ []

receipts : ReceiptsAddUp 0 letters
unfolding letters
receipts = (refl, (refl, (refl, tt)))

costs : cost_of_placed letters ≡ 35
unfolding letters
costs = refl

-- a receipt that told the length of the records before would be no receipt
receipts_of_lengths : ¬ ReceiptsAddUp 0 (record { at = 0; pass = 0; records = (0x61 ∷ []) ∷ [] } ∷ record { at = 1; pass = 1; records = [] ∷ [] } ∷ [])
receipts_of_lengths laid = absurd (cc)

-- each record of a batch has a receipt of its own
batch_receipts : receipts_from 27 ((0x61 ∷ []) ∷ (0x62 ∷ 0x63 ∷ []) ∷ [] ∷ []) ≡ 27 ∷ 36 ∷ 46 ∷ []
batch_receipts = refl

-- the list of all, and the numbers of each pass; a third pass puts nothing
three : GatheredValue
three = record { records = (0x61 ∷ []) ∷ (0x62 ∷ 0x63 ∷ []) ∷ [] ∷ [] ∷ []; numbers = (0 ∷ 1 ∷ 3 ∷ []) ∷ (2 ∷ []) ∷ [] ∷ [] }

gathered : gathered_of letters 3 ≡ three
unfolding letters three
gathered = refl

-- three puts of one record each, step by step: the number that comes next, and what each pass has
first_put : Machine
first_put = record { word = 9; hands = record { mine = record { at = 0; cost = 9 } ∷ []; past = [] } ∷ empty_hand ∷ [] }

second_put : Machine
second_put = record {
  word = 19;
  hands = record { mine = record { at = 0; cost = 9 } ∷ []; past = [] } ∷ record { mine = record { at = 9; cost = 10 } ∷ []; past = [] } ∷ [];
}

third_put : Machine
third_put = record {
  word = 27;
  hands =
      record { mine = record { at = 0; cost = 9 } ∷ record { at = 19; cost = 8 } ∷ []; past = [] }
      ∷ record { mine = record { at = 9; cost = 10 } ∷ []; past = [] }
      ∷ [];
}

step_by_step : AreTakes puts (start_of 2) ((0, 9) ∷ (1, 10) ∷ (0, 8) ∷ []) third_put
unfolding first_put second_put third_put
step_by_step = (
  first_put,
  record { hand = empty_hand; sits = refl; possible = refl; some = lit≤ tt; few = lit≤ tt; word = refl; hands = refl },
  (
    second_put,
    record { hand = empty_hand; sits = refl; possible = refl; some = lit≤ tt; few = lit≤ tt; word = refl; hands = refl },
    (
      third_put,
      record {
        hand = record { mine = record { at = 0; cost = 9 } ∷ []; past = [] };
        sits = refl;
        possible = refl;
        some = lit≤ tt;
        few = lit≤ tt;
        word = refl;
        hands = refl;
      },
      refl,
    ),
  ),
)

-- three records of 2 ^ 24 bytes end below the limit, and the fourth above it; a piece may end at the limit exactly
third : taken limit (record { at = 33554448; cost = 16777224 }) empty_hand ≡ record { mine = record { at = 33554448; cost = 16777224 } ∷ []; past = [] }
third = refl

fourth : taken limit (record { at = 50331672; cost = 16777224 }) empty_hand ≡ record { mine = []; past = record { at = 50331672; cost = 16777224 } ∷ [] }
fourth = refl

at_the_limit : taken limit (record { at = 67108856; cost = 8 }) empty_hand ≡ record { mine = record { at = 67108856; cost = 8 } ∷ []; past = [] }
at_the_limit = refl

past_the_limit : taken limit (record { at = 67108857; cost = 8 }) empty_hand ≡ record { mine = []; past = record { at = 67108857; cost = 8 } ∷ [] }
past_the_limit = refl

-- records that cost more than the limit end above it wherever they begin
most_of_all : taken limit (record { at = 0; cost = 67108865 }) empty_hand ≡ record { mine = []; past = record { at = 0; cost = 67108865 } ∷ [] }
most_of_all = refl

-- where two passes ended, the collected records cost the lesser of the numbers
least : IsLeast 50331672 (67108865 ∷ 50331672 ∷ [])
least = record { all = (lit≤ tt, (lit≤ tt, tt)); one = (1, refl) }

-- the positions in one chunk at 64, and in chunks of 44, 45 and 43 bytes
places_in_one_chunk : places_in_file ((0x61 ∷ []) ∷ (0x62 ∷ 0x63 ∷ []) ∷ [] ∷ []) 1048576 ≡ 64 ∷ 65 ∷ 66 ∷ []
unfolding groups chunk_end_of end_of shortest
places_in_one_chunk = refl

places_in_chunks : places_in_file ((0x61 ∷ []) ∷ (0x62 ∷ 0x63 ∷ []) ∷ [] ∷ []) 9 ≡ 64 ∷ 108 ∷ 153 ∷ []
unfolding groups chunk_end_of end_of shortest
places_in_chunks = refl

-- a record of 65388 bytes: its chunk ends 39 bytes before a block, the next one lies over it, and the third behind that
places_over_a_block : places_in_file (replicate 65388 0x61 ∷ (0x62 ∷ []) ∷ (0x63 ∷ []) ∷ []) 1 ≡ 64 ∷ 65497 ∷ 65565 ∷ []
unfolding groups chunk_end_of end_of shortest
places_over_a_block = refl

-- and of 65427 bytes: its chunk ends at the block, where the next one begins
places_at_a_block : places_in_file (replicate 65427 0x61 ∷ (0x62 ∷ []) ∷ (0x63 ∷ []) ∷ []) 1 ≡ 64 ∷ 65536 ∷ 65604 ∷ []
unfolding groups chunk_end_of end_of shortest
places_at_a_block = refl
