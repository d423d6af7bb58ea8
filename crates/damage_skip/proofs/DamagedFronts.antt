-- The front of a damaged file is a damaged front, and leaves what the file does.
use Rattle.std.proofs.Common.{◌≡◌, ◌∙◌, ℕ, zero, suc, ◌+◌, ◌^◌, ◌<◌, ◌≤◌, Bool, true, false, List, [], ◌∷◌, Some, length, take, drop, refl, sym, ap, subst, inl, inr, arith}
use Rattle.std.specs.Prelude.{slice_get, slice_range}
use Rattle.std.specs.List.{AllByRecursion}
use Rattle.std.proofs.lemmas.Bool.{cases_lt}
use Rattle.std.proofs.lemmas.List.{take-take, length-take, length-take-le}
use Rattle.std.proofs.lemmas.Option.{slice_get_cases, slice_get_within}
use Rattle.highway_hash.specs.Riegeli.{riegeli_hash}
use Rattle.block_layout.specs.Layout.{IsBlock, end_of}
use Rattle.block_layout.specs.BlockHeaders.{IsRightBlockHeader}
use Rattle.block_layout.proofs.Room.{boundary_past_block}
use Rattle.block_layout.proofs.Ends.{end_of_mono}
use Rattle.block_layout.proofs.ChunkEnds.{chunk_end_of_past_bytes}
use Rattle.chunk_header.specs.Chunks.{ChunkValue, IsRightChunkHeader}
use Rattle.meta_chunk.specs.Files.{IsWellFormedChunk, IsChainOf, IsWellFormed, begin_of, end_of_chunks}
use Rattle.meta_chunk.proofs.Begins.{begin_of-next, begin_of-within, begin_of_rises, begin_of_boundary}
use Rattle.chunk_reader.specs.Places.{header_bytes_at, data_at}
use Rattle.chunk_reader.specs.declared.reasons.Why.TheVariants as why
use Rattle.damage_skip.specs.Damage.{Intact, IsDamaged, IsIntactFrom, IsNext, DamageLeaves, DamageLeavesEach}
use Rattle.damage_skip.specs.FilePieces.{IsSettled}
use Rattle.damage_skip.specs.Pieces.{PieceKind, Records, Kept, SignatureOrPadding, Skipped, Piece, IsFoundAs, AreTiles}
use Rattle.damage_skip.proofs.Damaged.{left_front}
use Rattle.damage_skip.proofs.LaterBytes.{own_in_front, tiles_kept}
use Rattle.damage_skip.proofs.Prefixes.{slice_in_front, header_in_front, cut_chain}
use Rattle.damage_skip.proofs.Reached.{next_past, left_past, left_to}

-- the values of a front are those of the list
slice_get-take : {X : Type 0} (xs : List X) (n i : ℕ) → i < n → slice_get (take n xs) i ≡ slice_get xs i
slice_get-take xs zero i inside = absurd (omega arith)
slice_get-take [] (suc n) i inside = refl
slice_get-take (x ∷ xs) (suc n) zero inside = refl
slice_get-take (x ∷ xs) (suc n) (suc i) inside = slice_get-take xs n i (omega arith)

-- what is found is settled
found_settled : (unread_ok : Bool) (size end : ℕ) (k : ChunkValue) (what : PieceKind) → IsFoundAs unread_ok k what → IsSettled size end what
found_settled unread_ok size end k (Records records c) found = tt
found_settled unread_ok size end k (Kept c) found = tt
found_settled unread_ok size end k SignatureOrPadding found = tt
found_settled unread_ok size end k (Skipped w) found = absurd found

-- the first n chunks of a file
module _ (ks : List ChunkValue) (n : ℕ) (few : n ≤ length ks) where
  count : length (take n ks) ≡ n
  count = length-take-le n ks few

  -- begin where they did
  same_begin : (j : ℕ) → j ≤ n → begin_of (take n ks) j ≡ begin_of ks j
  same_begin j inside = ap (end_of_chunks 0) (take-take j n ks inside)

  same_end : begin_of (take n ks) (length (take n ks)) ≡ begin_of ks n
  same_end = ap (begin_of (take n ks)) count ∙ same_begin n (omega arith)

  same_chunk_at : (j : ℕ) → j < n → slice_get (take n ks) j ≡ slice_get ks j
  same_chunk_at j inside = slice_get-take ks n j inside

  -- the chunk reached next is the same
  intact_front : (intact : Intact) (j b : ℕ) → j ≤ n → b < begin_of ks n → IsIntactFrom ks intact j b → IsIntactFrom (take n ks) intact j b
  intact_front intact j b inside below h = record {
    is_block = h.is_block;
    from = omega (arith, h.from, same_begin j inside);
    below = omega (arith, below, same_end);
    is_intact = h.is_intact;
  }

  intact_file : (intact : Intact) (j b : ℕ) → j ≤ n → IsIntactFrom (take n ks) intact j b → IsIntactFrom ks intact j b
  intact_file intact j b inside h = record {
    is_block = h.is_block;
    from = omega (arith, h.from, same_begin j inside);
    below = omega (arith, h.below, same_end, begin_of_rises ks n (length ks) few);
    is_intact = h.is_intact;
  }

  next_front : (intact : Intact) (j next : ℕ) → j < n → next < n → IsNext ks intact j next → IsNext (take n ks) intact j next
  next_front intact j next before inside (inl (whole, is)) = inl (whole, is)
  next_front intact j next before inside (inr (broken, inl (b, i, at, lies, is))) =
      let early : i + 1 ≤ n = omega (arith, is, inside) in
      let below : b < begin_of ks n = omega (arith, lies.ends, begin_of_rises ks (i + 1) n early) in
      inr (
        broken,
        inl (
          b,
          i,
          record {
            here = intact_front intact j b (omega arith) below at.here;
            first = λ c there. at.first c (intact_file intact j c (omega arith) there);
          },
          record {
            number = omega (arith, early, count);
            begins = omega (arith, lies.begins, same_begin i (omega arith));
            ends = omega (arith, lies.ends, same_begin (i + 1) early);
          },
          is,
        ),
      )
  next_front intact j next before inside (inr (broken, inr (none, is))) = absurd (omega arith)

  -- and so is what damage leaves, where that is settled
  next_kept : (unread_ok : Bool) (intact : Intact) (j next : ℕ) (k : ChunkValue) (what : PieceKind) → j < n
      → IsSettled (begin_of ks n) (begin_of ks next) what → DamageLeaves unread_ok (intact.header j) (intact.«data» j) k what
      → IsNext ks intact j next → IsNext (take n ks) intact j next
  next_kept unread_ok intact j next k what before settled left (inl (whole, is)) = inl (whole, is)
  next_kept unread_ok intact j next k what before settled left (inr (broken, rest)) =
      let is : what ≡ Skipped why.HeaderHash = subst (λ (h : Bool). DamageLeaves unread_ok h (intact.«data» j) k what) broken left in
      let short : begin_of ks next < begin_of ks n = subst (IsSettled (begin_of ks n) (begin_of ks next)) is settled in
      elim (cases_lt next n) [
        | inl inside ↦ next_front intact j next before inside (inr (broken, rest))
        | inr behind ↦ absurd (omega (arith, short, begin_of_rises ks n next behind))
      ]

  pub left_in_front : (unread_ok : Bool) (intact : Intact) (j i : ℕ) (pieces : List Piece) → j ≤ n → i ≤ n
      → AllByRecursion (λ p. IsSettled (begin_of ks n) p.end p.what) pieces
      → DamageLeavesEach unread_ok ks intact j i pieces → DamageLeavesEach unread_ok (take n ks) intact j i pieces
  left_in_front unread_ok intact j i [] low inside settled h = h
  left_in_front unread_ok intact j i (p ∷ pieces) low inside settled (k, next, at, step, begin, end, what, rest) =
      let before : j < i = left_past unread_ok ks intact j i p pieces (k, next, at, step, begin, end, what, rest) in
      let past : (j < next) × (next ≤ length ks) = next_past ks intact j next (slice_get_within ks j k at) step in
      let on : next ≤ i = (left_to unread_ok ks intact next i pieces past.1 rest).0 in (
        k,
        next,
        same_chunk_at j (omega arith) ∙ at,
        next_kept unread_ok intact j next k p.what (omega arith) (subst (λ (e : ℕ). IsSettled (begin_of ks n) e p.what) end settled.0) what step,
        begin ∙ sym (same_begin j low),
        end ∙ sym (same_begin next (omega arith)),
        what,
        left_in_front unread_ok intact next i pieces (omega arith) inside settled.1 rest,
      )

-- what is left before a place is settled where the file goes on behind it
left_settled : (unread_ok header «data» : Bool) (size end : ℕ) (k : ChunkValue) (what : PieceKind) → end < size → DamageLeaves unread_ok header «data» k what
    → IsSettled size end what
left_settled unread_ok false d size end k what before left = subst (IsSettled size end) (sym left) before
left_settled unread_ok true false size end k what before left = subst (IsSettled size end) (sym left) tt
left_settled true true true size end k what before left = found_settled true size end k what left
left_settled false true true size end k what before (inl found) = found_settled false size end k what found
left_settled false true true size end k what before (inr (inl (compressed, is))) = subst (IsSettled size end) (sym is) tt
left_settled false true true size end k what before (inr (inr (transposed, is))) = subst (IsSettled size end) (sym is) tt

pub each_left_settled : (unread_ok : Bool) (ks : List ChunkValue) (intact : Intact) (size j i : ℕ) (pieces : List Piece) → begin_of ks i < size
    → DamageLeavesEach unread_ok ks intact j i pieces → AllByRecursion (λ p. IsSettled size p.end p.what) pieces
each_left_settled unread_ok ks intact size j i [] short h = tt
each_left_settled unread_ok ks intact size j i (p ∷ pieces) short (k, next, at, step, begin, end, what, rest) =
    let past : (j < next) × (next ≤ length ks) = next_past ks intact j next (slice_get_within ks j k at) step in
    let on : next ≤ i = (left_to unread_ok ks intact next i pieces past.1 rest).0 in
    let before : p.end < size = omega (arith, end, begin_of_rises ks next i on) in
    (left_settled unread_ok (intact.header j) (intact.«data» j) size p.end k p.what before what, each_left_settled unread_ok ks intact size next i pieces short rest)

-- the front of a damaged file, up to a chunk
module _ (ks : List ChunkValue) (file damaged : List ℕ) (intact : Intact) (d : IsDamaged ks file damaged intact) (n : ℕ) (few : n ≤ length ks) where
  abbrev m : ℕ
  m = begin_of ks n

  within : m ≤ length file
  within = begin_of-within ks file (length file) n d.well_formed.1.within d.well_formed.1.laid

  within_too : m ≤ length damaged
  within_too = omega (arith, within, d.same_length)

  -- what stands there of its chunks
  header_fits : (j : ℕ) → j < n → end_of (begin_of ks j) 40 ≤ m
  header_fits j inside =
      elim (slice_get_cases ks j).1 [
        | inl (k, below, at, same) ↦ omega (
          arith,
          end_of_mono (begin_of ks j) 40 (40 + length k.«data») (omega arith),
          chunk_end_of_past_bytes (begin_of ks j) (40 + length k.«data») k.num_records,
          begin_of-next ks j k at,
          begin_of_rises ks (j + 1) n (omega arith),
        )
        | inr (past, none) ↦ absurd (omega arith)
      ]

  data_fits : (j : ℕ) (k : ChunkValue) → j < n → slice_get ks j ≡ Some k → end_of (begin_of ks j) (40 + length k.«data») ≤ m
  data_fits j k inside at = omega (
    arith,
    chunk_end_of_past_bytes (begin_of ks j) (40 + length k.«data») k.num_records,
    begin_of-next ks j k at,
    begin_of_rises ks (j + 1) n (omega arith),
  )

  header_same : (bytes : List ℕ) (j : ℕ) → j < n → m ≤ length bytes
      → header_bytes_at (take m bytes) (begin_of (take n ks) j) ≡ header_bytes_at bytes (begin_of ks j)
  header_same bytes j inside long =
      ap (header_bytes_at (take m bytes)) (same_begin ks n few j (omega arith))
      ∙ header_in_front bytes m (begin_of ks j) long (header_fits j inside)

  data_same : (bytes : List ℕ) (j : ℕ) (k : ChunkValue) → j < n → slice_get ks j ≡ Some k → m ≤ length bytes
      → data_at (take m bytes) (begin_of (take n ks) j) (length k.«data») ≡ data_at bytes (begin_of ks j) (length k.«data»)
  data_same bytes j k inside at long =
      ap (λ (b : ℕ). data_at (take m bytes) b (length k.«data»)) (same_begin ks n few j (omega arith))
      ∙ ap (drop 40) (own_in_front bytes m (begin_of ks j) (40 + length k.«data») long (data_fits j k inside at))

  block_same : (bytes : List ℕ) (b : ℕ) → IsBlock b → b < m → slice_range (take m bytes) b (b + 24) ≡ slice_range bytes b (b + 24)
  block_same bytes b is_block below =
      let fits : b + 25 ≤ m = boundary_past_block b m is_block (begin_of_boundary ks n) below in
      slice_in_front bytes m b (b + 24) (omega arith) (omega arith)

  number_inside : (j : ℕ) → j < length (take n ks) → j < n
  number_inside j inside = omega (arith, count ks n few)

  chunk_inside : (j : ℕ) (k : ChunkValue) → slice_get (take n ks) j ≡ Some k → (j < n) × (slice_get ks j ≡ Some k)
  chunk_inside j k at =
      let inside : j < n = number_inside j (slice_get_within (take n ks) j k at) in
      (inside, sym (same_chunk_at ks n few j inside) ∙ at)

  block_inside : (b : ℕ) → b < length (take m file) → b < m
  block_inside b below = omega (arith, length-take-le m file within)

  -- it is a well-formed file
  front_well_formed : 0 < n → IsWellFormed (take n ks) (take m file)
  front_well_formed some = (
    (λ none. omega (arith, ap length none, count ks n few)),
    subst (IsChainOf IsWellFormedChunk (take n ks) (take m file)) (sym (length-take-le m file within))
        (cut_chain true ks file d.well_formed n m (omega arith) within),
  )

  pub front_damaged : 0 < n → IsDamaged (take n ks) (take m file) (take m damaged) intact
  front_damaged some = record {
    well_formed = front_well_formed some;
    same_length = length-take-le m damaged within_too ∙ sym (length-take-le m file within);
    header = λ j inside.
        let before : j < n = number_inside j inside in
        let here = header_same damaged j before within_too in
        let there = header_same file j before within in
        let same = d.header j (omega arith) in
        ((λ whole. here ∙ same.0 whole ∙ sym there), (λ bytes. same.1 (sym here ∙ bytes ∙ there)));
    «data» = λ j k at.
        let stands = chunk_inside j k at in
        let here = data_same damaged j k stands.0 stands.1 within_too in
        let same = d.«data» j k stands.1 in
        ((λ whole. here ∙ same.0 whole), (λ bytes. same.1 (sym here ∙ bytes)));
    block = λ b is_block below.
        let before : b < m = block_inside b below in
        let here = block_same damaged b is_block before in
        let there = block_same file b is_block before in
        let same = d.block b is_block (omega (arith, within)) in
        ((λ whole. here ∙ same.0 whole ∙ sym there), (λ bytes. same.1 (sym here ∙ bytes ∙ there)));
    header_shows = λ j inside broken right.
        let before : j < n = number_inside j inside in
        d.header_shows j (omega arith) broken (subst IsRightChunkHeader (header_same damaged j before within_too) right);
    data_shows = λ j k at whole changed same.
        let stands = chunk_inside j k at in
        d.data_shows j k stands.1 whole changed (ap riegeli_hash (sym (data_same damaged j k stands.0 stands.1 within_too)) ∙ same);
    block_shows = λ b is_block below changed right.
        let before : b < m = block_inside b below in
        d.block_shows b is_block (omega (arith, within)) changed (subst IsRightBlockHeader (block_same damaged b is_block before) right);
  }

  -- so a file that begins with it has the pieces that it leaves and that are settled in it
  pub front_tiles_left : (unread_ok : Bool) (other : List ℕ) (i : ℕ) (pieces : List Piece) → length file ≤ 2 ^ 60 → i ≤ n
      → take m other ≡ take m damaged → DamageLeavesEach unread_ok ks intact 0 i pieces
      → AllByRecursion (λ p. IsSettled m p.end p.what) pieces → AreTiles unread_ok other 0 (begin_of ks i) pieces
  front_tiles_left unread_ok other i [] reach inside same left settled = ap (begin_of ks) left
  front_tiles_left unread_ok other i (p ∷ pieces) reach inside same left settled =
      let some : 0 < i = left_past unread_ok ks intact 0 i p pieces left in
      let few_bytes : length (take m file) ≤ 2 ^ 60 = omega (arith, length-take-le m file within, within) in
      let front : AreTiles unread_ok (take m damaged) 0 (begin_of (take n ks) i) (p ∷ pieces) =
      left_front unread_ok (take n ks) (take m file) (take m damaged) intact (front_damaged (omega arith)) few_bytes i (p ∷ pieces)
      (left_in_front ks n few unread_ok intact 0 i (p ∷ pieces) (omega arith) inside settled left) in
      let long : m ≤ length other = omega (arith, ap length same, length-take-le m damaged within_too, length-take m other) in
      tiles_kept other m long unread_ok 0 (begin_of ks i) (p ∷ pieces) settled
      (subst (λ (f : List ℕ). AreTiles unread_ok f 0 (begin_of ks i) (p ∷ pieces)) (sym same)
      (subst (λ (e : ℕ). AreTiles unread_ok (take m damaged) 0 e (p ∷ pieces)) (same_begin ks n few i inside) front))
