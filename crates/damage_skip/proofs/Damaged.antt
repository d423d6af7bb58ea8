-- The pieces of a damaged file are those that are told from the undamaged one.
use Rattle.std.proofs.Common.{◌≡◌, ◌∙◌, ℕ, ◌+◌, ◌-◌, ◌<◌, ◌≤◌, ◌^◌, min, max, nat_lt, Bool, true, false, List, [], ◌∷◌, Some, length, refl, sym, ap, subst, inl, inr, arith}
use Rattle.std.specs.Prelude.{slice_get, slice_range}
use Rattle.std.proofs.lemmas.Bool.{cases_lt, cases_order, cases_Bool, cond-true, cond-false, lt-ltb, le-ltb}
use Rattle.std.proofs.lemmas.Option.{slice_get_cases, slice_get_within}
use Rattle.highway_hash.specs.Riegeli.{riegeli_hash}
use Rattle.block_layout.specs.Layout.{IsBlock, IsBoundary}
use Rattle.block_layout.specs.BlockHeaders.{StandsAt}
use Rattle.block_layout.proofs.BlockHeaders.{IsRightBlockHeader-block_header}
use Rattle.block_layout.proofs.Room.{boundary_past_block}
use Rattle.chunk_header.specs.Chunks.{ChunkValue, HeaderValue, IsRightChunkHeader, header_in}
use Rattle.meta_chunk.specs.Laid.{IsLaid}
use Rattle.meta_chunk.specs.Files.{IsWellFormedChunk, begin_of, LiesIn}
use Rattle.meta_chunk.proofs.OneChunk.{same_chunk}
use Rattle.meta_chunk.proofs.Begins.{begin_of-next, begin_of-place, begin_of_rises, begin_of_rises_by, begin_of_boundary, holder_one, IsLaid-in_file}
use Rattle.chunk_reader.specs.Places.{header_bytes_at, header_at, end_by, end_at, data_at, chunk_at, HasHeaderOf}
use Rattle.chunk_reader.specs.Reasons.{Applies, IsFirstOf, content_reasons}
use Rattle.chunk_reader.specs.declared.reasons.Why.{Why}
use Rattle.chunk_reader.specs.declared.reasons.Why.TheVariants as why
use Rattle.chunk_reader.proofs.Blocks.{stands_within}
use Rattle.chunk_reader.proofs.AllowedChunks.{allowed_small}
use Rattle.chunk_reader.proofs.ChainSteps.{each_at}
use Rattle.chunk_reader.proofs.LaidAt.{header_of, header_at-laid, right_header-laid, end_at-laid, headers-laid}
use Rattle.chunk_reader.proofs.NoReason.{not_short}
use Rattle.damage_skip.specs.Resyncs.{StandsFrom, landing, IsResync, Contradicts}
use Rattle.damage_skip.specs.Pieces.{PieceKind, Skipped, Piece, SkipsFor, walk_reasons, IsPieceOf, AreTiles}
use Rattle.damage_skip.specs.FilePieces.{ArePieces}
use Rattle.damage_skip.specs.Damage.{Intact, IsDamaged, IsIntactFrom, IsNext, DamageLeaves, DamageLeavesEach}
use Rattle.damage_skip.proofs.OnePiece.{piece_one}
use Rattle.damage_skip.proofs.FoundPieces.{agrees, end_in_reach}
use Rattle.damage_skip.proofs.IntactChunks.{intact_piece}
use Rattle.damage_skip.proofs.Reached.{next_past, next_of, next_one, left_as_one}

-- a block that a chunk holds leads to the chunk's begin where that is past the place, and else to its end
landing_back : (size place b begin end : ℕ) → begin ≤ b → place < begin → landing size place b (b - begin) (end - b) ≡ begin
landing_back size place b begin end low past =
    let back : b - (b - begin) ≡ begin = omega arith in
    cond-true (nat_lt place (b - (b - begin))) _ _ (lt-ltb place (b - (b - begin)) (omega arith)) ∙ back

landing_on : (size place b begin end : ℕ) → begin ≤ b → b < end → end ≤ size → begin ≤ place
    → landing size place b (b - begin) (end - b) ≡ end
landing_on size place b begin end low high within on =
    let to : min (b + (end - b)) size ≡ end = omega arith in
    cond-false (nat_lt place (b - (b - begin))) _ _ (le-ltb place (b - (b - begin)) (omega arith)) ∙ to

-- the first of the reasons that speak of content
first_of_content : (unread_ok : Bool) (P : Why → Type 0) → P why.DataHash → IsFirstOf P (content_reasons unread_ok) why.DataHash
first_of_content false P applies = inl (applies, refl)
first_of_content true P applies = inl (applies, refl)

-- chunk j of an undamaged file, and the damaged one
module _ (unread_ok : Bool) (ks : List ChunkValue) (file damaged : List ℕ) (intact : Intact) (d : IsDamaged ks file damaged intact)
    (reach : length file ≤ 2 ^ 60) where
  laid_at : (j : ℕ) (k : ChunkValue) → slice_get ks j ≡ Some k
      → IsLaid (begin_of ks j) k (slice_range file (begin_of ks j) (begin_of ks (j + 1)))
  laid_at j k at = IsLaid-in_file ks file (length file) j k d.well_formed.1.within d.well_formed.1.laid at

  well_formed_at : (j : ℕ) (k : ChunkValue) → slice_get ks j ≡ Some k → IsWellFormedChunk k
  well_formed_at j k at = each_at IsWellFormedChunk ks j k d.well_formed.1.each at

  last_end : begin_of ks (length ks) ≡ length file
  last_end = begin_of-place ks file (length file) d.well_formed.1.within d.well_formed.1.laid

  end_within : (j : ℕ) → j ≤ length ks → begin_of ks j ≤ length file
  end_within j inside = omega (arith, begin_of_rises ks j (length ks) inside, last_end)

  file_end : (j : ℕ) (k : ChunkValue) → slice_get ks j ≡ Some k → end_at file (begin_of ks j) ≡ begin_of ks (j + 1)
  file_end j k at =
      end_at-laid (begin_of ks j) k file (begin_of ks (j + 1)) (laid_at j k at) ∙ sym (begin_of-next ks j k at)

  -- the block headers of the undamaged file
  file_header : (j : ℕ) (k : ChunkValue) (b : ℕ) → slice_get ks j ≡ Some k → IsBlock b → begin_of ks j ≤ b → b < begin_of ks (j + 1)
      → HasHeaderOf file (begin_of ks j) (begin_of ks (j + 1)) b
  file_header j k b at is_block low high =
      subst (λ (e : ℕ). HasHeaderOf file (begin_of ks j) e b) (file_end j k at)
      (headers-laid (begin_of ks j) k file (begin_of ks (j + 1)) (laid_at j k at) b is_block low (omega (arith, file_end j k at)))

  -- a header that is right and sane is intact
  intact_block : (b previous next : ℕ) → StandsAt damaged b previous next → intact.block b ≡ true
  intact_block b previous next h =
      elim (cases_Bool (intact.block b)) [
        | inl same ↦ same
        | inr changed ↦
            absurd (d.block_shows b h.is_block (omega (arith, d.same_length, stands_within damaged b previous next h)) changed
            (IsRightBlockHeader-block_header (slice_range damaged b (b + 24)) previous next h.bytes))
      ]

  same_header : (b : ℕ) → IsBlock b → b < length file → intact.block b ≡ true
      → slice_range damaged b (b + 24) ≡ slice_range file b (b + 24)
  same_header b is_block below same = (d.block b is_block below).0 same

  intact_from : (j b previous next : ℕ) → StandsFrom damaged (begin_of ks j) b previous next → IsIntactFrom ks intact j b
  intact_from j b previous next h = record {
    is_block = h.stands.is_block;
    from = h.from;
    below = omega (arith, last_end, d.same_length, stands_within damaged b previous next h.stands);
    is_intact = intact_block b previous next h.stands;
  }

  -- and an intact one is right and sane, and says the chunk that holds the block
  stands_where_intact : (j b i : ℕ) → IsIntactFrom ks intact j b → LiesIn ks b i
      → StandsFrom damaged (begin_of ks j) b (b - begin_of ks i) (begin_of ks (i + 1) - b)
  stands_where_intact j b i h contains =
      elim (slice_get_cases ks i).1 [
        | inl (k, inside, at, same) ↦
            let begin : ℕ = begin_of ks i in
            let end : ℕ = begin_of ks (i + 1) in
            let low : begin ≤ b = contains.begins in
            let high : b < end = contains.ends in
            let room : b + 25 ≤ end = boundary_past_block b end h.is_block (begin_of_boundary ks (i + 1)) high in
            let within : end ≤ length file = end_within (i + 1) (omega arith) in
            let back : b - (b - begin) ≡ begin = omega arith in
            let on : b + (end - b) ≡ end = omega arith in
            let below : b < length file = omega (arith, h.below, last_end) in
            record {
              stands = record {
                is_block = h.is_block;
                bytes = same_header b h.is_block below h.is_intact ∙ file_header i k b at h.is_block low high;
                sane = record {
                  back = omega arith;
                  past_itself = omega arith;
                  in_reach = omega arith;
                  from_boundary = subst IsBoundary (sym back) (begin_of_boundary ks i);
                  to_boundary = subst IsBoundary (sym on) (begin_of_boundary ks (i + 1));
                };
              };
              from = h.from;
            }
        | inr (past, none) ↦ absurd (omega (arith, contains.number))
      ]

  -- so reading goes on at the chunk that is reached next
  leads_on : (j b i next : ℕ) → j < length ks → IsIntactFrom ks intact j b → LiesIn ks b i → next ≡ max i (j + 1)
      → landing (length damaged) (begin_of ks j) b (b - begin_of ks i) (begin_of ks (i + 1) - b) ≡ begin_of ks next
  leads_on j b i next inside h contains is =
      elim (cases_lt j i) [
        | inl behind ↦
            let same : i ≡ next = omega arith in
            let past : begin_of ks j < begin_of ks i = omega (arith, begin_of_rises_by ks j inside, begin_of_rises ks (j + 1) i (omega arith)) in
            landing_back (length damaged) (begin_of ks j) b (begin_of ks i) (begin_of ks (i + 1)) contains.begins past ∙ ap (begin_of ks) same
        | inr before ↦
            let low : begin_of ks i ≤ begin_of ks j = begin_of_rises ks i j before in
            let one : i ≡ j =
            holder_one ks i j (begin_of ks j) low (omega (arith, h.from, contains.ends)) (omega arith) (omega (arith, begin_of_rises_by ks j inside)) in
            let same : i + 1 ≡ next = omega arith in
            landing_on (length damaged) (begin_of ks j) b (begin_of ks i) (begin_of ks (i + 1)) contains.begins contains.ends
            (omega (arith, d.same_length, end_within (i + 1) (omega (arith, contains.number)))) low
            ∙ ap (begin_of ks) same
      ]

  pub resync_next : (j next : ℕ) → j < length ks → intact.header j ≡ false → IsNext ks intact j next → IsResync damaged (begin_of ks j) (begin_of ks next)
  resync_next j next inside broken (inl (whole, is)) = cc
  resync_next j next inside broken (inr (also, inl (b, i, at, contains, is))) =
      inl (
        b,
        b - begin_of ks i,
        begin_of ks (i + 1) - b,
        record {
          holds = stands_where_intact j b i at.here contains;
          first = λ c p n there. at.first c (intact_from j c p n there);
        },
        sym (leads_on j b i next inside at.here contains is),
      )
  resync_next j next inside broken (inr (also, inr (none, is))) =
      inr (λ b p n here. none b (intact_from j b p n here), ap (begin_of ks) is ∙ last_end ∙ sym d.same_length)

  -- what doesn't apply to the chunk in the undamaged file
  long_enough : (j : ℕ) (k : ChunkValue) → slice_get ks j ≡ Some k → ¬ Applies damaged (begin_of ks j) why.Short
  long_enough j k at short =
      not_short (begin_of ks j) k file (begin_of ks (j + 1)) (laid_at j k at) (omega (arith, short, d.same_length))

  -- what is left of it, with the piece that is
  IsLeftPiece : (j : ℕ) (k : ChunkValue) (to : ℕ) (what : PieceKind) → Type 0
  IsLeftPiece j k to what =
      IsPieceOf unread_ok damaged (begin_of ks j) to what × DamageLeaves unread_ok (intact.header j) (intact.«data» j) k what

  -- a chunk whose header has changed
  broken_piece : (j : ℕ) (k : ChunkValue) (next : ℕ) → slice_get ks j ≡ Some k → intact.header j ≡ false → IsNext ks intact j next
      → IsLeftPiece j k (begin_of ks next) (Skipped why.HeaderHash)
  unfolding IsLeftPiece
  broken_piece j k next at broken step =
      let inside : j < length ks = slice_get_within ks j k at in (
        (inr (long_enough j k at, inl (d.header_shows j inside broken, refl)), resync_next j next inside broken step),
        subst (λ (h : Bool). DamageLeaves unread_ok h (intact.«data» j) k (Skipped why.HeaderHash)) (sym broken) refl,
      )

  -- one whose header is intact
  module _ (j : ℕ) (k : ChunkValue) (at : slice_get ks j ≡ Some k) (whole : intact.header j ≡ true) where
    same_bytes : header_bytes_at damaged (begin_of ks j) ≡ header_bytes_at file (begin_of ks j)
    same_bytes = (d.header j (slice_get_within ks j k at)).0 whole

    same_fields : header_at damaged (begin_of ks j) ≡ header_of k
    same_fields = ap header_in same_bytes ∙ header_at-laid (begin_of ks j) k file (begin_of ks (j + 1)) (laid_at j k at)

    same_end : end_at damaged (begin_of ks j) ≡ begin_of ks (j + 1)
    same_end = ap (λ (bytes : List ℕ). end_by (begin_of ks j) (header_in bytes)) same_bytes ∙ file_end j k at

    same_size : (header_at damaged (begin_of ks j)).data_size ≡ length k.«data»
    same_size = ap (λ (v : HeaderValue). v.data_size) same_fields

    same_hash : (header_at damaged (begin_of ks j)).data_hash ≡ riegeli_hash k.«data»
    same_hash = ap (λ (v : HeaderValue). v.data_hash) same_fields

    right_header : ¬ Applies damaged (begin_of ks j) why.HeaderHash
    right_header wrong =
        wrong (subst IsRightChunkHeader (sym same_bytes) (right_header-laid (begin_of ks j) k file (begin_of ks (j + 1)) (laid_at j k at)))

    not_against : ¬ ((block previous next : ℕ) × Contradicts damaged (begin_of ks j) (end_at damaged (begin_of ks j)) block previous next)
    not_against (b, p, n, against) =
        let below : b < length file = omega (arith, d.same_length, stands_within damaged b p n against.stands) in
        let has : HasHeaderOf damaged (begin_of ks j) (begin_of ks (j + 1)) b =
        same_header b against.stands.is_block below (intact_block b p n against.stands)
        ∙ file_header j k b at against.stands.is_block against.from (omega (arith, against.below, same_end)) in
        let near : end_at file (begin_of ks j) < begin_of ks j + 2 ^ 64 =
        end_in_reach true (begin_of ks j) k file (begin_of ks (j + 1)) (laid_at j k at) (well_formed_at j k at) in
        agrees damaged (begin_of ks j) (end_at damaged (begin_of ks j)) b p n against.from against.below
        (omega (arith, near, same_end, file_end j k at))
        (subst (λ (e : ℕ). HasHeaderOf damaged (begin_of ks j) e b) (sym same_end) has) against

    in_file : ¬ Applies damaged (begin_of ks j) why.Truncated
    in_file cut =
        omega (arith, cut, same_end, d.same_length, end_within (j + 1) (omega (arith, slice_get_within ks j k at)))

    small_data : ¬ Applies damaged (begin_of ks j) why.TooLarge
    small_data large = omega (arith, large, same_size, allowed_small true k (well_formed_at j k at))

    -- the reasons before those of content
    behind_those : (P : Why → Type 0) (w : Why) → ¬ P why.Short → ¬ P why.HeaderHash → ¬ P why.Contradicted → ¬ P why.Truncated → ¬ P why.TooLarge
        → IsFirstOf P (content_reasons unread_ok) w → IsFirstOf P (walk_reasons unread_ok) w
    behind_those P w a b c e f first = inr (a, inr (b, inr (c, inr (e, inr (f, first)))))

    first_there : (w : Why) → IsFirstOf (SkipsFor damaged (begin_of ks j)) (content_reasons unread_ok) w
        → IsFirstOf (SkipsFor damaged (begin_of ks j)) (walk_reasons unread_ok) w
    first_there w first =
        behind_those (SkipsFor damaged (begin_of ks j)) w (long_enough j k at) right_header not_against in_file small_data first

    -- its data has changed
    changed_data : intact.«data» j ≡ false → Applies damaged (begin_of ks j) why.DataHash
    changed_data changed same =
        d.data_shows j k at whole changed
        (ap (λ (n : ℕ). riegeli_hash (data_at damaged (begin_of ks j) n)) (sym same_size) ∙ same ∙ same_hash)

    changed_piece : intact.«data» j ≡ false → IsLeftPiece j k (begin_of ks (j + 1)) (Skipped why.DataHash)
    unfolding IsLeftPiece
    changed_piece changed = (
      (first_there why.DataHash (first_of_content unread_ok (SkipsFor damaged (begin_of ks j)) (changed_data changed)), sym same_end),
      subst (λ (h : Bool). DamageLeaves unread_ok h (intact.«data» j) k (Skipped why.DataHash)) (sym whole)
          (subst (λ (x : Bool). DamageLeaves unread_ok true x k (Skipped why.DataHash)) (sym changed) refl),
    )

    -- its data is intact: it is the chunk
    same_data : intact.«data» j ≡ true → chunk_at damaged (begin_of ks j) ≡ k
    same_data kept =
        same_chunk (chunk_at damaged (begin_of ks j)) k
        (ap (λ (v : HeaderValue). v.kind) same_fields)
        (ap (λ (v : HeaderValue). v.num_records) same_fields)
        (ap (λ (v : HeaderValue). v.decoded_size) same_fields)
        (ap (data_at damaged (begin_of ks j)) same_size ∙ (d.«data» j k at).0 kept)

    left_where_kept : intact.«data» j ≡ true → (what : PieceKind) → DamageLeaves unread_ok true true k what
        → DamageLeaves unread_ok (intact.header j) (intact.«data» j) k what
    left_where_kept kept what left =
        subst (λ (h : Bool). DamageLeaves unread_ok h (intact.«data» j) k what) (sym whole)
        (subst (λ (x : Bool). DamageLeaves unread_ok true x k what) (sym kept) left)

    kept_piece : intact.«data» j ≡ true → (what : PieceKind) × IsLeftPiece j k (begin_of ks (j + 1)) what
    unfolding IsLeftPiece
    kept_piece kept =
        let same : chunk_at damaged (begin_of ks j) ≡ k = same_data kept in
        let piece = intact_piece unread_ok damaged (begin_of ks j) k (well_formed_at j k at) (record {
          long = long_enough j k at;
          header = right_header;
          agrees = not_against;
          whole = in_file;
          small = small_data;
          hash = λ differs. differs (ap (λ (c : ChunkValue). riegeli_hash c.«data») same ∙ sym same_hash);
          chunk = same;
        }) in (
          piece.0,
          (
            subst (λ (e : ℕ). IsPieceOf unread_ok damaged (begin_of ks j) e piece.0) same_end piece.1,
            left_where_kept kept piece.0 piece.2,
          ),
        )

  -- so the piece that begins where a chunk does is what is left of it
  left_at : (j : ℕ) (k : ChunkValue) → slice_get ks j ≡ Some k
      → (next : ℕ) × (what : PieceKind) × IsNext ks intact j next × IsLeftPiece j k (begin_of ks next) what
  left_at j k at =
      elim (cases_Bool (intact.header j)) [
        | inl whole ↦ elim (cases_Bool (intact.«data» j)) [
          | inl kept ↦ let piece = kept_piece j k at whole kept in (j + 1, piece.0, inl (whole, refl), piece.1)
          | inr changed ↦ (j + 1, Skipped why.DataHash, inl (whole, refl), changed_piece j k at whole changed)
        ]
        | inr broken ↦
            let next = next_of ks intact j in
            (next.0, Skipped why.HeaderHash, next.1, broken_piece j k next.0 at broken next.1)
      ]

  -- and so are all pieces from there on, which end where a chunk begins
  pub tiles_left : (j from to : ℕ) (pieces : List Piece) → j ≤ length ks → from ≡ begin_of ks j → AreTiles unread_ok damaged from to pieces
      → (n : ℕ) × (n ≤ length ks) × (to ≡ begin_of ks n) × DamageLeavesEach unread_ok ks intact j n pieces
  unfolding IsLeftPiece
  tiles_left j from to [] inside begin h = (j, inside, sym h ∙ begin, refl)
  tiles_left j from to (p ∷ pieces) inside begin (at_begin, below, is, rest) =
      elim (slice_get_cases ks j).1 [
        | inl (k, within, at, same) ↦
            let left = left_at j k at in
            let one = piece_one unread_ok damaged from p.end (begin_of ks left.0) p.what left.1 is
            (subst (λ (x : ℕ). IsPieceOf unread_ok damaged x (begin_of ks left.0) left.1) (sym begin) left.3.0) in
            let past = next_past ks intact j left.0 within left.2 in
            let behind = tiles_left left.0 p.end to pieces past.1 one.0 rest in (
              behind.0,
              behind.1,
              behind.2,
              (
                k,
                left.0,
                at,
                left.2,
                at_begin ∙ begin,
                one.0,
                subst (λ (w : PieceKind). DamageLeaves unread_ok (intact.header j) (intact.«data» j) k w) (sym one.1) left.3.1,
                behind.3,
              ),
            )
        | inr (past, none) ↦
            let last : j ≡ length ks = omega arith in
            absurd (omega (arith, begin, below, d.same_length, last_end, ap (begin_of ks) last))
      ]

  -- what is left is pieces of the damaged file
  left_tiles : (j n : ℕ) (pieces : List Piece) → DamageLeavesEach unread_ok ks intact j n pieces
      → AreTiles unread_ok damaged (begin_of ks j) (begin_of ks n) pieces
  unfolding IsLeftPiece
  left_tiles j n [] same = ap (begin_of ks) same
  left_tiles j n (p ∷ pieces) (k, next, at, step, begin, end, what, rest) =
      let within : j < length ks = slice_get_within ks j k at in
      let left = left_at j k at in
      let same : left.0 ≡ next = next_one ks intact j left.0 next left.2 step in
      let one : left.1 ≡ p.what = left_as_one unread_ok (intact.header j) (intact.«data» j) k left.1 p.what left.3.1 what in
      let to : begin_of ks left.0 ≡ p.end = ap (begin_of ks) same ∙ sym end in
      let is : IsPieceOf unread_ok damaged (begin_of ks j) p.end p.what =
      subst (λ (e : ℕ). IsPieceOf unread_ok damaged (begin_of ks j) e p.what) to
      (subst (IsPieceOf unread_ok damaged (begin_of ks j) (begin_of ks left.0)) one left.3.0) in
      let below : begin_of ks j < length damaged =
      omega (arith, d.same_length, begin_of_rises_by ks j within, end_within (j + 1) (omega arith)) in
      (begin, below, is, subst (λ (x : ℕ). AreTiles unread_ok damaged x (begin_of ks n) pieces) (sym end) (left_tiles next n pieces rest))

  -- two chunks that begin at one place are one
  begin_one : (i j : ℕ) → i ≤ length ks → j ≤ length ks → begin_of ks i ≡ begin_of ks j → i ≡ j
  begin_one i j inside within same =
      elim (cases_order i j) [
        | inl one ↦ one
        | inr (inl less) ↦ absurd (omega (arith, same, begin_of_rises_by ks i (omega arith), begin_of_rises ks (i + 1) j (omega arith)))
        | inr (inr more) ↦ absurd (omega (arith, same, begin_of_rises_by ks j (omega arith), begin_of_rises ks (j + 1) i (omega arith)))
      ]

  -- so the pieces up to a chunk are what is left up to it
  pub front_left : (n : ℕ) (pieces : List Piece) → n ≤ length ks → AreTiles unread_ok damaged 0 (begin_of ks n) pieces
      → DamageLeavesEach unread_ok ks intact 0 n pieces
  front_left n pieces inside h =
      let left = tiles_left 0 0 (begin_of ks n) pieces (omega arith) refl h in
      subst (λ (m : ℕ). DamageLeavesEach unread_ok ks intact 0 m pieces) (begin_one left.0 n left.1 inside (sym left.2)) left.3

  pub left_front : (n : ℕ) (pieces : List Piece) → DamageLeavesEach unread_ok ks intact 0 n pieces → AreTiles unread_ok damaged 0 (begin_of ks n) pieces
  left_front n pieces h = left_tiles 0 n pieces h

  file_ends : length damaged ≡ begin_of ks (length ks)
  file_ends = d.same_length ∙ sym last_end

  pub pieces_left : (pieces : List Piece) → ArePieces unread_ok damaged pieces → DamageLeavesEach unread_ok ks intact 0 (length ks) pieces
  pieces_left pieces h =
      front_left (length ks) pieces (omega arith) (subst (λ (e : ℕ). AreTiles unread_ok damaged 0 e pieces) file_ends h)

  pub left_pieces : (pieces : List Piece) → DamageLeavesEach unread_ok ks intact 0 (length ks) pieces → ArePieces unread_ok damaged pieces
  left_pieces pieces h = subst (λ (e : ℕ). AreTiles unread_ok damaged 0 e pieces) (sym file_ends) (left_front (length ks) pieces h)

  -- a chunk that begins at the file's end is none
  pub number_of_end : (n : ℕ) → n ≤ length ks → length damaged ≡ begin_of ks n → n ≡ length ks
  number_of_end n inside same = begin_one n (length ks) inside (omega arith) (sym same ∙ file_ends)
