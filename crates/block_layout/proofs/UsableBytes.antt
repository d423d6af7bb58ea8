-- Lemmas on `usable_bytes`, the bytes that stand at usable positions, and on `usable_bytes_at`, so many of a file's.
use Rattle.std.proofs.Common.{◌≡◌, ℕ, Some, suc, ◌+◌, ◌-◌, ◌%◌, ◌<◌, ◌≤◌, min, inl, inr, List, [], ◌∷◌, ◌++◌, length, get_or, take, drop, take-add, refl, sym, ap, ◌∙◌, arith}
use Rattle.std.specs.Prelude.{◌↔◌, slice_get, slice_range}
use Rattle.std.proofs.lemmas.Bool.{cases_lt}
use Rattle.std.proofs.lemmas.List.{nil_from_length, take-append-drop, take_at, drop_more, get_or_at, get_or-take, get_or-drop, length-take, length-take-le, length-drop, drop-drop}
use Rattle.std.proofs.Math.Seq.{take-append-add}
use Rattle.std.proofs.lemmas.Option.{slice_get-get_or, slice_get_past}
use Rattle.block_layout.specs.Layout.{IsBlock, IsUsable, room, usable_below, usable_at, end_of, usable_bytes, usable_bytes_at}
use Rattle.block_layout.specs.NextPlaces.{IsNextPlace, usable_from}
use Rattle.block_layout.proofs.Room.{room-closed, room_mono, room_below}
use Rattle.block_layout.proofs.Ends.{end_of_after, end_of_least, end_of_is_end}
use Rattle.block_layout.proofs.Runs.{room-usable_from, end_of-run}

-- of no bytes there are none
pub usable_bytes-nil : (p : ℕ) → usable_bytes p [] ≡ []
unfolding usable_bytes
usable_bytes-nil p = refl

-- a byte at a usable position is one of them
pub usable_bytes-usable : (p b : ℕ) (bs : List ℕ) → IsUsable p → usable_bytes p (b ∷ bs) ≡ b ∷ usable_bytes (p + 1) bs
unfolding usable_bytes
usable_bytes-usable p b bs h = grind arith

-- a byte of a block header is not
pub usable_bytes-header : (p b : ℕ) (bs : List ℕ) → p % 65536 < 24 → usable_bytes p (b ∷ bs) ≡ usable_bytes (p + 1) bs
unfolding usable_bytes
usable_bytes-header p b bs h = grind arith

-- bytes cut anywhere give theirs cut
pub usable_bytes-append : (p : ℕ) (xs ys : List ℕ)
    → usable_bytes p (xs ++ ys) ≡ usable_bytes p xs ++ usable_bytes (p + length xs) ys
usable_bytes-append p [] ys = rw (usable_bytes-nil p) (ap (λ q. usable_bytes q ys) (omega arith))
usable_bytes-append p (b ∷ bs) ys =
    let behind = usable_bytes (p + suc (length bs)) ys in
    let rest : usable_bytes (p + 1) (bs ++ ys) ≡ usable_bytes (p + 1) bs ++ behind =
    usable_bytes-append (p + 1) bs ys ∙ ap (λ q. usable_bytes (p + 1) bs ++ usable_bytes q ys) (omega arith) in
    elim (cases_lt (p % 65536) 24) [
      | inl h ↦ rw (usable_bytes-header p b (bs ++ ys) h, usable_bytes-header p b bs h) rest
      | inr u ↦ rw (usable_bytes-usable p b (bs ++ ys) u, usable_bytes-usable p b bs u) (ap (λ us. b ∷ us) rest)
    ]

-- there are as many as there is room
pub length-usable_bytes : (p : ℕ) (xs : List ℕ) → length (usable_bytes p xs) ≡ room p (p + length xs)
length-usable_bytes p [] = rw (usable_bytes-nil p) (omega (arith, room-closed p (p + 0)))
length-usable_bytes p (b ∷ bs) =
    let rest = length-usable_bytes (p + 1) bs in
    let some = room-closed (p + 1) (p + 1 + length bs) in
    let all = room-closed p (p + suc (length bs)) in
    elim (cases_lt (p % 65536) 24) [
      | inl h ↦ rw (usable_bytes-header p b bs h) (omega arith)
      | inr u ↦ rw (usable_bytes-usable p b bs u) (omega arith)
    ]

-- each has as many before it as there is room
pub get_or-usable_bytes : (p : ℕ) (xs : List ℕ) (q : ℕ) → p ≤ q → q < p + length xs → IsUsable q
    → get_or (usable_bytes p xs) (room p q) 0 ≡ get_or xs (q - p) 0
get_or-usable_bytes p xs q h g u =
    let front = take (q - p) xs in
    let byte = get_or xs (q - p) 0 in
    let rest = drop (q - p + 1) xs in
    let length_front : length front ≡ q - p = length-take-le (q - p) xs (omega arith) in
    let split : front ++ byte ∷ rest ≡ xs =
    ap (λ ys. front ++ ys) (sym (drop_more xs (q - p) 0 (omega arith))) ∙ take-append-drop (q - p) xs in
    let cut : usable_bytes p xs ≡ usable_bytes p front ++ byte ∷ usable_bytes (q + 1) rest =
    ap (usable_bytes p) (sym split) ∙ usable_bytes-append p front (byte ∷ rest)
    ∙ ap (λ at. usable_bytes p front ++ usable_bytes at (byte ∷ rest)) (omega arith)
    ∙ ap (λ us. usable_bytes p front ++ us) (usable_bytes-usable q byte rest u) in
    ap (λ us. get_or us (room p q) 0) cut
    ∙ get_or_at (usable_bytes p front) byte (usable_bytes (q + 1) rest) 0 (room p q)
    (length-usable_bytes p front ∙ ap (room p) (omega arith))

-- the same, also past the bytes
pub slice_get-usable_bytes : (p : ℕ) (xs : List ℕ) (q : ℕ) → p ≤ q → IsUsable q
    → slice_get (usable_bytes p xs) (room p q) ≡ slice_get xs (q - p)
slice_get-usable_bytes p xs q h u =
    let count = length-usable_bytes p xs in
    elim (cases_lt q (p + length xs)) [
      | inl g ↦ slice_get-get_or (usable_bytes p xs) (room p q) 0 (omega (arith, room_below p q (p + length xs) h u g))
          ∙ ap Some (get_or-usable_bytes p xs q h g u) ∙ sym (slice_get-get_or xs (q - p) 0 (omega arith))
      | inr g ↦ slice_get_past (usable_bytes p xs) (room p q) (omega (arith, room_mono p (p + length xs) q g))
          ∙ sym (slice_get_past xs (q - p) (omega arith))
    ]

-- the usable position with so much room before it
pub usable_place : (begin e i : ℕ) → i < room begin e
    → IsUsable (usable_at (usable_below begin + i))
    × (begin ≤ usable_at (usable_below begin + i))
    × (usable_at (usable_below begin + i) < e)
    × (room begin (usable_at (usable_below begin + i)) ≡ i)
usable_place begin e i h =
    let place = usable_at (usable_below begin + i) in
    (omega arith, omega arith, omega (arith, room-closed begin e), omega (arith, room-closed begin place))

-- of bytes that lie within a block, past its header, all are usable
pub usable_bytes-within : (p : ℕ) (xs : List ℕ) → 24 ≤ p % 65536 → p % 65536 + length xs ≤ 65536 → usable_bytes p xs ≡ xs
usable_bytes-within p [] h g = usable_bytes-nil p
usable_bytes-within p (b ∷ []) h g = usable_bytes-usable p b [] h ∙ ap (λ us. b ∷ us) (usable_bytes-nil (p + 1))
usable_bytes-within p (b ∷ c ∷ cs) h g =
    usable_bytes-usable p b (c ∷ cs) h ∙ ap (λ us. b ∷ us) (usable_bytes-within (p + 1) (c ∷ cs) (omega arith) (omega arith))

-- of a block header none is
pub usable_bytes-block_header : (b : ℕ) (xs : List ℕ) → IsBlock b → length xs ≤ 24 → usable_bytes b xs ≡ []
usable_bytes-block_header b xs h g =
    nil_from_length (usable_bytes b xs) (omega (arith, length-usable_bytes b xs, room-closed b (b + length xs)))

-- at a place there are as many as are asked for, or as have room in the file
pub length-usable_bytes_at : (file : List ℕ) (begin size : ℕ)
    → length (usable_bytes_at file begin size) ≡ min size (room begin (length file))
length-usable_bytes_at file begin size =
    let bytes = drop begin file in
    omega (
      arith,
      length-take size (usable_bytes begin bytes),
      length-usable_bytes begin bytes,
      length-drop begin file,
      room-closed begin (begin + length bytes),
      room-closed begin (length file),
    )

-- and each has as many before it as there is room, also past the file
pub slice_get-usable_bytes_at : (file : List ℕ) (begin size p : ℕ) → begin ≤ p → IsUsable p → room begin p < size
    → slice_get (usable_bytes_at file begin size) (room begin p) ≡ slice_get file p
slice_get-usable_bytes_at file begin size p h u g =
    let own = usable_bytes_at file begin size in
    let bytes = drop begin file in
    let i = room begin p in
    let count = length-usable_bytes_at file begin size in
    elim (cases_lt p (length file)) [
      | inl l ↦ slice_get-get_or own i 0 (omega (arith, room_below begin p (length file) h u l))
          ∙ ap Some (get_or-take size (usable_bytes begin bytes) i 0 g
          ∙ get_or-usable_bytes begin bytes p h (omega (arith, length-drop begin file)) u
          ∙ get_or-drop begin file (p - begin) 0
          ∙ ap (λ at. get_or file at 0) (omega arith))
          ∙ sym (slice_get-get_or file p 0 l)
      | inr l ↦ slice_get_past own i (omega (arith, room_mono begin (length file) p l)) ∙ sym (slice_get_past file p l)
    ]

-- so they are all there exactly where the file reaches their end
pub usable_bytes_at_whole : (file : List ℕ) (begin size : ℕ) → begin ≤ length file
    → (length (usable_bytes_at file begin size) ≡ size) ↔ (end_of begin size ≤ length file)
usable_bytes_at_whole file begin size h =
    let count = length-usable_bytes_at file begin size in (
      λ whole. end_of_least begin size (length file) h (omega arith),
      λ reached. omega (arith, (end_of_is_end begin size).holds, room_mono begin (end_of begin size) (length file) reached),
    )

-- they stand between the place and that end
pub usable_bytes_at-to_end : (file : List ℕ) (begin size : ℕ) → end_of begin size ≤ length file
    → usable_bytes_at file begin size ≡ usable_bytes begin (slice_range file begin (end_of begin size))
usable_bytes_at-to_end file begin size h =
    let count = end_of begin size - begin in
    let bytes = drop begin file in
    let after = end_of_after begin size in
    let front : length (take count bytes) ≡ count = length-take-le count bytes (omega (arith, length-drop begin file)) in
    ap (λ xs. take size (usable_bytes begin xs)) (sym (take-append-drop count bytes))
    ∙ ap (take size) (usable_bytes-append begin (take count bytes) (drop count bytes))
    ∙ take_at (usable_bytes begin (take count bytes)) (usable_bytes (begin + length (take count bytes)) (drop count bytes)) size
    (length-usable_bytes begin (take count bytes) ∙ ap (room begin) (omega arith) ∙ (end_of_is_end begin size).holds)

-- more usable bytes go on where the first of them end
pub usable_bytes_at-more : (file : List ℕ) (begin m n : ℕ) → end_of begin m ≤ length file
    → usable_bytes_at file begin (m + n) ≡ usable_bytes_at file begin m ++ usable_bytes_at file (end_of begin m) n
usable_bytes_at-more file begin m n h =
    let end = end_of begin m in
    let bytes = drop begin file in
    let after = end_of_after begin m in
    let front = slice_range file begin end in
    let rest = drop end file in
    let count : length front ≡ end - begin = length-take-le (end - begin) bytes (omega (arith, length-drop begin file)) in
    let split : front ++ rest ≡ bytes =
    ap (λ xs. front ++ xs) (sym (drop-drop (end - begin) begin file ∙ ap (λ k. drop k file) (omega arith)))
    ∙ take-append-drop (end - begin) bytes in
    let own : usable_bytes begin front ≡ usable_bytes_at file begin m = sym (usable_bytes_at-to_end file begin m h) in
    let size : length (usable_bytes_at file begin m) ≡ m = (usable_bytes_at_whole file begin m (omega arith)).1 h in
    ap (λ xs. take (m + n) (usable_bytes begin xs)) (sym split)
    ∙ ap (take (m + n)) (usable_bytes-append begin front rest)
    ∙ ap (λ k. take (m + n) (usable_bytes begin front ++ usable_bytes k rest)) (omega arith)
    ∙ ap (λ xs. take (m + n) (xs ++ usable_bytes end rest)) own
    ∙ ap (λ k. take (k + n) (usable_bytes_at file begin m ++ usable_bytes end rest)) (sym size)
    ∙ take-append-add (usable_bytes_at file begin m) (usable_bytes end rest) n

-- usable bytes up to the next block stand in a row behind the block header, where there is one
pub usable_bytes_at-run : (file : List ℕ) (p n : ℕ) → 1 ≤ n → IsNextPlace p → usable_from p % 65536 + n ≤ 65536
    → usable_from p + n ≤ length file → usable_bytes_at file p n ≡ slice_range file (usable_from p) (usable_from p + n)
usable_bytes_at-run file p n some next fits within =
    let first = usable_from p in
    let end : end_of p n ≡ first + n = end_of-run p n some next fits in
    let bytes = drop p file in
    let header = take (first - p) bytes in
    let run = slice_range file first (first + n) in
    let behind : drop (first - p) bytes ≡ drop first file = drop-drop (first - p) p file ∙ ap (λ k. drop k file) (omega arith) in
    let header_size : length header ≡ first - p = length-take-le (first - p) bytes (omega (arith, length-drop p file)) in
    let run_size : length run ≡ n = length-take-le (first + n - first) (drop first file) (omega (arith, length-drop first file)) ∙ omega arith in
    let split : slice_range file p (end_of p n) ≡ header ++ run =
    ap (λ e. take (e - p) bytes) end
    ∙ ap (λ k. take k bytes) (omega arith)
    ∙ take-add (first - p) n bytes
    ∙ ap (λ xs. header ++ take n xs) behind
    ∙ ap (λ k. header ++ take k (drop first file)) (omega arith) in
    let none : usable_bytes p header ≡ [] =
    nil_from_length (usable_bytes p header) (length-usable_bytes p header ∙ ap (λ k. room p (p + k)) header_size
    ∙ ap (room p) (omega arith) ∙ room-usable_from p) in
    usable_bytes_at-to_end file p n (omega arith)
    ∙ ap (usable_bytes p) split
    ∙ usable_bytes-append p header run
    ∙ ap (λ xs. xs ++ usable_bytes (p + length header) run) none
    ∙ ap (λ k. usable_bytes k run) (omega arith)
    ∙ usable_bytes-within first run (omega arith) (omega arith)
