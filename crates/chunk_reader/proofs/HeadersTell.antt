-- The headers of a file of chunks tell of the chunks that they stand in.
use Rattle.std.proofs.Common.{◌≡◌, ◌∙◌, ℕ, zero, suc, ◌+◌, ◌-◌, ◌^◌, ◌<◌, ◌≤◌, List, [], ◌∷◌, Some, length, refl, sym, ap, subst, inl, inr, arith}
use Rattle.std.specs.Prelude.{slice_get, slice_range}
use Rattle.std.proofs.lemmas.Bool.{cases_lt}
use Rattle.std.proofs.lemmas.Option.{slice_get_cases, slice_get_within}
use Rattle.block_layout.specs.Layout.{IsBlock, IsBoundary, block_of}
use Rattle.block_layout.specs.BlockHeaders.{block_header, StandsAt}
use Rattle.block_layout.proofs.Ends.{end_of_room}
use Rattle.block_layout.proofs.Room.{boundary_past_block}
use Rattle.chunk_header.specs.Chunks.{ChunkValue, HeaderValue}
use Rattle.meta_chunk.specs.Files.{IsWellFormed, begin_of, LiesIn}
use Rattle.meta_chunk.specs.Laid.{IsLaid}
use Rattle.meta_chunk.proofs.Begins.{begin_of-next, begin_of-past, begin_of-place, begin_of_rises, begin_of_boundary, holder_of, holder_one, IsLaid-in_file}
use Rattle.chunk_reader.specs.Holders.{TellsBegin, ArePlacesBetween, IsHolder}
use Rattle.chunk_reader.specs.Places.{header_at, end_at}
use Rattle.chunk_reader.specs.Reasons.{Applies, NoneOf, unpassed_reasons}
use Rattle.chunk_reader.proofs.Blocks.{stands_one}
use Rattle.chunk_reader.proofs.LaidAt.{header_at-laid, end_at-laid, headers-laid}
use Rattle.chunk_reader.proofs.NoReason.{not_short, not_header_hash, not_truncated}

-- behind a place at which a chunk is passed the file goes on
pub passed_below : (file : List ℕ) (place : ℕ) → NoneOf (Applies file place) unpassed_reasons → place < length file
passed_below file place none =
    elim (cases_lt place (length file)) [
      | inl below ↦ below
      | inr past ↦ absurd (none.0 (omega (arith, past, end_of_room place 40)))
    ]

module _ (ks : List ChunkValue) (file : List ℕ) (well_formed : IsWellFormed ks file) where
  pub laid_at : (j : ℕ) (k : ChunkValue) → slice_get ks j ≡ Some k
      → IsLaid (begin_of ks j) k (slice_range file (begin_of ks j) (begin_of ks (j + 1)))
  laid_at j k at = IsLaid-in_file ks file (length file) j k well_formed.1.within well_formed.1.laid at

  pub last_end : begin_of ks (length ks) ≡ length file
  last_end = begin_of-place ks file (length file) well_formed.1.within well_formed.1.laid

  -- a chunk header tells where its chunk ends, and how many records that has
  pub told_end : (j : ℕ) (k : ChunkValue) → slice_get ks j ≡ Some k → end_at file (begin_of ks j) ≡ begin_of ks (j + 1)
  told_end j k at = end_at-laid (begin_of ks j) k file (begin_of ks (j + 1)) (laid_at j k at) ∙ sym (begin_of-next ks j k at)

  pub told_records : (j : ℕ) (k : ChunkValue) → slice_get ks j ≡ Some k
      → (header_at file (begin_of ks j)).num_records ≡ k.num_records
  told_records j k at =
      ap (λ (v : HeaderValue). v.num_records) (header_at-laid (begin_of ks j) k file (begin_of ks (j + 1)) (laid_at j k at))

  -- each chunk is passed
  pub passes : (j : ℕ) (k : ChunkValue) → slice_get ks j ≡ Some k → NoneOf (Applies file (begin_of ks j)) unpassed_reasons
  passes j k at =
      let begin : ℕ = begin_of ks j in
      let end : ℕ = begin_of ks (j + 1) in
      let laid = laid_at j k at in
      (not_short begin k file end laid, (not_header_hash begin k file end laid, (not_truncated begin k file end laid, tt)))

  -- a chunk stands where the file goes on
  pub stands_below : (j : ℕ) → begin_of ks j < length file → (k : ChunkValue) × (slice_get ks j ≡ Some k)
  stands_below j below =
      elim (slice_get_cases ks j).1 [
        | inl (k, inside, at, same) ↦ (k, at)
        | inr (past, none) ↦ absurd (omega (arith, last_end, begin_of-past ks j past, begin_of-past ks (length ks) (omega arith)))
      ]

  -- each block header tells the chunk that it lies in
  pub block_tells : (b i : ℕ) → length file ≤ 2 ^ 60 → IsBlock b → LiesIn ks b i
      → StandsAt file b (b - begin_of ks i) (begin_of ks (i + 1) - b)
  block_tells b i reach is_block lies =
      let begin : ℕ = begin_of ks i in
      let end : ℕ = begin_of ks (i + 1) in
      let low : begin ≤ b = lies.begins in
      let high : b < end = lies.ends in
      let within : end ≤ length file = omega (arith, begin_of_rises ks (i + 1) (length ks) (omega (arith, lies.number)), last_end) in
      let chunk = stands_below i (omega (arith, low, high, within)) in
      let room : b + 25 ≤ end = boundary_past_block b end is_block (begin_of_boundary ks (i + 1)) high in
      let back : b - (b - begin) ≡ begin = omega arith in
      let on : b + (end - b) ≡ end = omega arith in
      let ends : end_at file begin ≡ end = told_end i chunk.0 chunk.1 in
      record {
        is_block = is_block;
        bytes = subst (λ (e : ℕ). slice_range file b (b + 24) ≡ block_header (b - begin) (e - b)) ends
            (headers-laid begin chunk.0 file end (laid_at i chunk.0 chunk.1) b is_block low (omega (arith, ends, high)));
        sane = record {
          back = omega arith;
          past_itself = omega (arith, room);
          in_reach = omega (arith, within, reach, on);
          from_boundary = subst IsBoundary (sym back) (begin_of_boundary ks i);
          to_boundary = subst IsBoundary (sym on) (begin_of_boundary ks (i + 1));
        };
      }

  -- so the begin that one tells is that chunk's
  pub told_is : (b begin i : ℕ) → length file ≤ 2 ^ 60 → IsBlock b → LiesIn ks b i → TellsBegin file b begin → begin ≡ begin_of ks i
  told_is b begin i reach is_block lies (previous, next, stands, is) =
      let same = stands_one file b previous next (b - begin_of ks i) (begin_of ks (i + 1) - b) stands (block_tells b i reach is_block lies) in
      omega (arith, is, same.0, lies.begins)

  pub tells : (b i : ℕ) → length file ≤ 2 ^ 60 → IsBlock b → LiesIn ks b i → TellsBegin file b (begin_of ks i)
  tells b i reach is_block lies =
      (b - begin_of ks i, begin_of ks (i + 1) - b, block_tells b i reach is_block lies, omega (arith, lies.begins))

  -- the places of chunks are their begins, by their numbers
  pub places_are : (places : List ℕ) (h to : ℕ) → h ≤ length ks → ArePlacesBetween file (begin_of ks h) to places
      → (h + length places ≤ length ks) × (to ≡ begin_of ks (h + length places))
  places_are [] h to inside same =
      let count : h + length {A = ℕ} [] ≡ h = omega arith in
      (omega (arith, inside), sym same ∙ ap (begin_of ks) (sym count))
  places_are (place ∷ places) h to inside (same, none, rest) =
      let below : begin_of ks h < length file = passed_below file (begin_of ks h) none in
      let chunk = stands_below h below in
      let within : h < length ks = slice_get_within ks h chunk.0 chunk.1 in
      let on = places_are places (h + 1) to (omega (arith, within))
      (subst (λ (p : ℕ). ArePlacesBetween file p to places) (told_end h chunk.0 chunk.1) rest) in
      let count : h + 1 + length places ≡ h + length (place ∷ places) = omega arith in
      (omega (arith, on.0, count), on.1 ∙ ap (begin_of ks) count)

  pub places_of : (n h : ℕ) → h + n ≤ length ks → (places : List ℕ) × ArePlacesBetween file (begin_of ks h) (begin_of ks (h + n)) places
  places_of zero h inside =
      let count : h ≡ h + 0 = omega arith in
      ([], ap (begin_of ks) count)
  places_of (suc n) h inside =
      elim (slice_get_cases ks h).1 [
        | inl (k, within, at, same) ↦
            let rest = places_of n (h + 1) (omega (arith, inside)) in
            let count : h + 1 + n ≡ h + suc n = omega arith in
            let to = subst (λ (m : ℕ). ArePlacesBetween file (begin_of ks (h + 1)) (begin_of ks m) rest.0) count rest.1 in (
              begin_of ks h ∷ rest.0,
              (
                refl,
                passes h k at,
                subst (λ (p : ℕ). ArePlacesBetween file p (begin_of ks (h + suc n)) rest.0) (sym (told_end h k at)) to,
              ),
            )
        | inr (past, none) ↦ absurd (omega (arith, inside, past))
      ]

  -- the chunk that holds a position is the one in which it lies
  pub lies_of : (position : ℕ) → position < length file → (i : ℕ) × LiesIn ks position i
  lies_of position below =
      let holder = holder_of ks position (omega (arith, below, last_end)) in
      (holder.0, record { number = slice_get_within ks holder.0 holder.1 holder.2; begins = holder.3; ends = holder.4 })

  pub holder_is : (position place h : ℕ) → length file ≤ 2 ^ 60 → LiesIn ks position h → IsHolder file position place → place ≡ begin_of ks h
  holder_is position place h reach lies holder =
      let way = holder.on_way in
      let b : ℕ = block_of position in
      let first = lies_of b (omega (arith, way.below)) in
      let begin : way.begin ≡ begin_of ks first.0 = told_is b way.begin first.0 reach (omega arith) first.1 way.told in
      let places = places_are way.places first.0 place (omega (arith, first.1.number))
      (subst (λ (p : ℕ). ArePlacesBetween file p place way.places) begin way.between) in
      let j : ℕ = first.0 + length way.places in
      let is : place ≡ begin_of ks j = places.1 in
      let chunk = stands_below j (omega (arith, is, passed_below file place holder.whole)) in
      let ends : end_at file place ≡ begin_of ks (j + 1) = ap (end_at file) is ∙ told_end j chunk.0 chunk.1 in
      let same : j ≡ h = holder_one ks j h position (omega (arith, is, way.before)) (omega (arith, ends, holder.within)) lies.begins lies.ends in
      is ∙ ap (begin_of ks) same

  pub holder_there : (position h : ℕ) → length file ≤ 2 ^ 60 → LiesIn ks position h → IsHolder file position (begin_of ks h)
  holder_there position h reach lies =
      let b : ℕ = block_of position in
      let end : begin_of ks (h + 1) ≤ length file = omega (arith, begin_of_rises ks (h + 1) (length ks) (omega (arith, lies.number)), last_end) in
      let first = lies_of b (omega (arith, lies.ends, end)) in
      elim (cases_lt h first.0) [
        | inl less ↦ absurd (omega (arith, lies.ends, first.1.begins, begin_of_rises ks (h + 1) first.0 (omega (arith, less))))
        | inr more ↦
            let count : first.0 + (h - first.0) ≡ h = omega (arith, more) in
            let places = places_of (h - first.0) first.0 (omega (arith, count, lies.number)) in
            let chunk = stands_below h (omega (arith, lies.begins, lies.ends, end)) in
            record {
              on_way = record {
                begin = begin_of ks first.0;
                places = places.0;
                below = omega (arith, lies.ends, end);
                told = tells b first.0 reach (omega arith) first.1;
                between = subst (λ (n : ℕ). ArePlacesBetween file (begin_of ks first.0) (begin_of ks n) places.0) count places.1;
                before = lies.begins;
              };
              whole = passes h chunk.0 chunk.1;
              within = omega (arith, told_end h chunk.0 chunk.1, lies.ends);
            }
      ]
