-- Values counted by hand, computed from the definitions.
use Rattle.std.proofs.Common.{◌≡◌, ℕ, zero, suc, ◌<◌, ◌≤◌, [], ◌∷◌, get_or, refl, lit<, lit≤, arith}
use Rattle.varint_wire.proofs.Spellings.{Spells-small}
use Rattle.varint_wire.proofs.Values.{longer_spelling_of_1}
use Rattle.simple_chunk.specs.Costs.{cost_of}
use Rattle.simple_chunk.specs.Records.{parts_from, sizes_between}
use Rattle.simple_chunk.specs.RecordGroups.{cut_at, value_of}
use Rattle.simple_chunk.specs.Sizes.{AreSizes, AreParts}
use Rattle.simple_chunk.specs.Checkers.{Completes, Compresses}
use Rattle.simple_chunk.specs.declared.checker.Stage.TheVariants.{Front, Sizes}
use Rattle.simple_chunk.proofs.SizeLemmas.{AreSizes-cut}

-- the records `a`, `bc` and an empty one: their bytes are three
records_of_three : parts_from {X = ℕ} 0 (1 ∷ 3 ∷ 3 ∷ []) (0x61 ∷ 0x62 ∷ 0x63 ∷ []) ≡ (0x61 ∷ []) ∷ (0x62 ∷ 0x63 ∷ []) ∷ [] ∷ []
records_of_three = refl

-- in a group of the first two, one of none, and the last one in no group
groups_of_three : cut_at (2 ∷ 2 ∷ []) ((0x61 ∷ []) ∷ (0x62 ∷ 0x63 ∷ []) ∷ [] ∷ [])
    ≡ value_of (((0x61 ∷ []) ∷ (0x62 ∷ 0x63 ∷ []) ∷ []) ∷ [] ∷ []) ([] ∷ [])
groups_of_three = refl

-- and they cost 27
cost_of_three : cost_of ((0x61 ∷ []) ∷ (0x62 ∷ 0x63 ∷ []) ∷ [] ∷ []) ≡ 27
cost_of_three = refl

-- their sizes, and how these are spelled
sizes_of_ends : sizes_between 0 (1 ∷ 3 ∷ 3 ∷ []) ≡ 1 ∷ 2 ∷ 0 ∷ []
sizes_of_ends = refl

spelled_sizes : AreSizes 3 3 (0x01 ∷ 0x02 ∷ 0x00 ∷ [])
spelled_sizes = record {
  sizes = 1 ∷ 2 ∷ 0 ∷ [];
  many = refl;
  together = refl;
  spells = (
    0x01 ∷ [],
    0x02 ∷ 0x00 ∷ [],
    refl,
    Spells-small 1 (lit< tt),
    (0x02 ∷ [], 0x00 ∷ [], refl, Spells-small 2 (lit< tt), (0x00 ∷ [], [], refl, Spells-small 0 (lit< tt), refl)),
  );
}

-- a byte that says that another follows is no size
cut_size : AreSizes 1 0 (0x80 ∷ []) → ⊥
cut_size is = let none = (AreSizes-cut 1 0 (0x80 ∷ []) (lit< tt, all_continue)).0 is in omega (arith, none.0)
  where
    all_continue : (i : ℕ) → i < 1 → 128 ≤ get_or (0x80 ∷ []) i 0
    all_continue zero h = lit≤ tt
    all_continue (suc i) h = absurd (omega arith)

-- the parts of data whose number of bytes of sizes has a longer spelling
parts_of_a : AreParts (0x00 ∷ 0x81 ∷ 0x00 ∷ 0x01 ∷ 0x61 ∷ []) (0x01 ∷ []) (0x61 ∷ [])
parts_of_a = record { spelled_size = 0x81 ∷ 0x00 ∷ []; spells_size = longer_spelling_of_1; joined = refl }

-- behind `00 01` a size and a value complete a chunk of one record of one byte
completes_a : Completes
    (record {
      num_records = 1;
      decoded_size = 1;
      stage = Sizes;
      left = 2;
      held = [];
      size_bytes = 1;
      sizes = record { count = 1; whole = 1; held = [] };
    })
    (0x01 ∷ 0x61 ∷ [])
completes_a = record { sizes = 1 ∷ []; many = refl; together = refl; spells = (0x01 ∷ [], [], refl, Spells-small 1 (lit< tt), refl) }

-- a first byte that isn't 0 makes the data compressed
compresses_first : Compresses
    (record {
      num_records = 0;
      decoded_size = 0;
      stage = Front;
      left = 2;
      held = [];
      size_bytes = 0;
      sizes = record { count = 0; whole = 0; held = [] };
    })
    (0x62 ∷ 0x00 ∷ [])
compresses_first = (refl, lit< tt, λ none. omega (arith, none))
