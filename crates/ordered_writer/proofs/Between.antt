-- The bytes of a chunk from one place to another, and how they come in parts.
use Rattle.std.proofs.Common.{◌≡◌, ◌∙◌, ℕ, ◌+◌, ◌-◌, ◌%◌, ◌<◌, ◌≤◌, List, [], ◌++◌, length, get_or, take, drop, replicate, ltb, refl, sym, ap, inl, inr, arith}
use Rattle.std.proofs.lemmas.Bool.{cases_lt, cond-true, cond-false, lt-ltb, le-ltb}
use Rattle.std.proofs.lemmas.List.{ext_get_or, nil_from_length, length-append, length-take-le, get_or-take, get_or-drop, get_or-replicate, get_or_past, length-replicate, get_or_append_left, get_or-append_right}
use Rattle.std.proofs.lemmas.List.FromFn.{length-map-range_with_len, get_or-map-range_with_len}
use Rattle.block_layout.specs.Layout.{IsBlock, IsUsable, room}
use Rattle.block_layout.specs.BlockHeaders.{block_header}
use Rattle.block_layout.proofs.Room.{room-closed, room_below, room_split}
use Rattle.ordered_writer.specs.Layings.{byte_from, laid_between}

-- zero bytes are zero at each place, as is what stands behind them
pub get_or-zeros : (n i : ℕ) → get_or (replicate {A = ℕ} n 0) i 0 ≡ 0
get_or-zeros n i =
    elim (cases_lt i n) [
      | inl within ↦ get_or-replicate n i 0 0 within
      | inr past ↦ get_or_past (replicate n 0) i 0 (omega (arith, length-replicate {A = ℕ} n 0))
    ]

-- how many there are
pub length-laid_between : (begin end place until : ℕ) (own : List ℕ) → length (laid_between begin end place until own) ≡ until - place
unfolding laid_between
length-laid_between begin end place until own = length-map-range_with_len (byte_from begin end place own) place (until - place)

-- each of them
pub get_or-laid_between : (begin end place until : ℕ) (own : List ℕ) (i : ℕ) → i < until - place
    → get_or (laid_between begin end place until own) i 0 ≡ byte_from begin end place own (place + i)
unfolding laid_between
get_or-laid_between begin end place until own i within =
    get_or-map-range_with_len (byte_from begin end place own) place (until - place) i (place + i) 0 within refl

-- a byte of a block's header
byte_from-header : (begin end place : ℕ) (own : List ℕ) (p : ℕ) → p % 65536 < 24
    → byte_from begin end place own p ≡ get_or (block_header (p - p % 65536 - begin) (end - (p - p % 65536))) (p % 65536) 0
byte_from-header begin end place own p inside = cond-true (ltb (p % 65536) 24) _ _ (lt-ltb _ _ inside)

-- an own byte, or zero
byte_from-usable : (begin end place : ℕ) (own : List ℕ) (p : ℕ) → IsUsable p → byte_from begin end place own p ≡ get_or own (room place p) 0
byte_from-usable begin end place own p usable = cond-false (ltb (p % 65536) 24) _ _ (le-ltb _ _ usable)

-- none up to the place itself
pub laid_between-none : (begin end place until : ℕ) (own : List ℕ) → until ≤ place → laid_between begin end place until own ≡ []
laid_between-none begin end place until own none =
    nil_from_length (laid_between begin end place until own) (omega (arith, length-laid_between begin end place until own))

-- they are known by as many usable bytes as have room
pub laid_between-same : (begin end place until : ℕ) (own other : List ℕ)
    → ((i : ℕ) → i < room place until → get_or own i 0 ≡ get_or other i 0)
    → laid_between begin end place until own ≡ laid_between begin end place until other
laid_between-same begin end place until own other same =
    ext_get_or 0 (laid_between begin end place until own) (laid_between begin end place until other)
    (length-laid_between begin end place until own ∙ sym (length-laid_between begin end place until other))
    (λ i small.
    let within : i < until - place = omega (arith, length-laid_between begin end place until own) in
    get_or-laid_between begin end place until own i within
    ∙ at_each i within
    ∙ sym (get_or-laid_between begin end place until other i within))
  where
    at_each : (i : ℕ) → i < until - place → byte_from begin end place own (place + i) ≡ byte_from begin end place other (place + i)
    at_each i within =
        elim (cases_lt ((place + i) % 65536) 24) [
          | inl inside ↦ byte_from-header begin end place own (place + i) inside ∙ sym (byte_from-header begin end place other (place + i) inside)
          | inr usable ↦
              byte_from-usable begin end place own (place + i) usable
              ∙ same (room place (place + i)) (room_below place (place + i) until (omega arith) usable (omega arith))
              ∙ sym (byte_from-usable begin end place other (place + i) usable)
        ]

-- they come apart at a place between
pub laid_between-split : (begin end place middle until : ℕ) (own : List ℕ) → place ≤ middle → middle ≤ until
    → laid_between begin end place until own
    ≡ laid_between begin end place middle own ++ laid_between begin end middle until (drop (room place middle) own)
laid_between-split begin end place middle until own low high =
    let front : List ℕ = laid_between begin end place middle own in
    let back : List ℕ = laid_between begin end middle until (drop (room place middle) own) in
    let size_front : length front ≡ middle - place = length-laid_between begin end place middle own in
    let size_back : length back ≡ until - middle = length-laid_between begin end middle until (drop (room place middle) own) in
    let size : length (laid_between begin end place until own) ≡ until - place = length-laid_between begin end place until own in
    ext_get_or 0 (laid_between begin end place until own) (front ++ back) (omega (arith, length-append front back)) (λ i small.
    let within : i < until - place = omega arith in
    get_or-laid_between begin end place until own i within
    ∙ elim (cases_lt i (middle - place)) [
      | inl before ↦
          sym (get_or-laid_between begin end place middle own i before)
          ∙ sym (get_or_append_left front back 0 i (omega arith))
      | inr behind ↦
          at_each i behind
          ∙ sym (get_or-laid_between begin end middle until (drop (room place middle) own) (i - (middle - place)) (omega arith))
          ∙ sym (get_or-append_right front back (middle - place) i 0 size_front behind)
    ])
  where
    same_place : (i : ℕ) → middle - place ≤ i → middle + (i - (middle - place)) ≡ place + i
    same_place i behind = omega arith

    at_each : (i : ℕ) → middle - place ≤ i
        → byte_from begin end place own (place + i) ≡ byte_from begin end middle (drop (room place middle) own) (middle + (i - (middle - place)))
    at_each i behind =
        elim (cases_lt ((place + i) % 65536) 24) [
          | inl inside ↦
              byte_from-header begin end place own (place + i) inside
              ∙ sym (byte_from-header begin end middle (drop (room place middle) own) (place + i) inside)
              ∙ ap (byte_from begin end middle (drop (room place middle) own)) (sym (same_place i behind))
          | inr usable ↦
              byte_from-usable begin end place own (place + i) usable
              ∙ ap (λ (n : ℕ). get_or own n 0) (room_split place middle (place + i) low (omega arith))
              ∙ sym (get_or-drop (room place middle) own (room middle (place + i)) 0)
              ∙ sym (byte_from-usable begin end middle (drop (room place middle) own) (place + i) usable)
              ∙ ap (byte_from begin end middle (drop (room place middle) own)) (sym (same_place i behind))
        ]

-- a block's header
pub laid_between-header : (begin end block : ℕ) (own : List ℕ) → IsBlock block
    → laid_between begin end block (block + 24) own ≡ block_header (block - begin) (end - block)
laid_between-header begin end block own is_block =
    let header : List ℕ = block_header (block - begin) (end - block) in
    ext_get_or 0 (laid_between begin end block (block + 24) own) header
    (length-laid_between begin end block (block + 24) own ∙ omega arith)
    (λ i small.
    let within : i < 24 = omega (arith, length-laid_between begin end block (block + 24) own) in
    let place : (block + i) % 65536 ≡ i = omega arith in
    let back : block + i - (block + i) % 65536 ≡ block = omega arith in
    get_or-laid_between begin end block (block + 24) own i (omega arith)
    ∙ byte_from-header begin end block own (block + i) (omega arith)
    ∙ ap (λ (b : ℕ). get_or (block_header (b - begin) (end - b)) ((block + i) % 65536) 0) back
    ∙ ap (λ (n : ℕ). get_or header n 0) place)

-- usable bytes up to the next block at most
pub laid_between-run : (begin end place n : ℕ) (own : List ℕ) → IsUsable place → place % 65536 + n ≤ 65536 → n ≤ length own
    → laid_between begin end place (place + n) own ≡ take n own
laid_between-run begin end place n own usable fits enough =
    ext_get_or 0 (laid_between begin end place (place + n) own) (take n own)
    (length-laid_between begin end place (place + n) own ∙ omega (arith, length-take-le n own enough))
    (λ i small.
    let within : i < n = omega (arith, length-laid_between begin end place (place + n) own) in
    let inside : IsUsable (place + i) = omega arith in
    let before : room place (place + i) ≡ i = omega (arith, room-closed place (place + i)) in
    get_or-laid_between begin end place (place + n) own i (omega arith)
    ∙ byte_from-usable begin end place own (place + i) inside
    ∙ ap (λ (n : ℕ). get_or own n 0) before
    ∙ sym (get_or-take n own i 0 within))
