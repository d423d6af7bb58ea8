-- Bytes behind a file leave its pieces alone that were settled before.
use Rattle.std.proofs.Common.{◌≡◌, ◌≢◌, ◌∙◌, ◌↔◌, ◌⊎◌, ℕ, ◌+◌, ◌-◌, ◌<◌, ◌≤◌, min, Bool, true, false, List, [], ◌∷◌, ◌++◌, length, take, drop, refl, sym, ap, subst, inl, inr, arith}
use Rattle.std.specs.List.{AllByRecursion}
use Rattle.std.proofs.lemmas.Bool.{cases_lt}
use Rattle.std.proofs.lemmas.List.{take_at, take_all, length-take-le, length-append}
use Rattle.block_layout.specs.Layout.{IsBlock, end_of, usable_bytes_at, usable_bytes}
use Rattle.block_layout.specs.BlockHeaders.{StandsAt}
use Rattle.block_layout.proofs.Room.{room_split, boundary_past_block}
use Rattle.block_layout.proofs.Ends.{end_of_after, end_of_above, end_of_mono, end_of_least, end_of_is_end}
use Rattle.block_layout.proofs.ChunkEnds.{chunk_end_of_boundary, chunk_end_of_past_bytes}
use Rattle.block_layout.proofs.UsableBytes.{usable_bytes_at-to_end}
use Rattle.chunk_header.specs.Chunks.{ChunkValue, HeaderValue, IsRightChunkHeader, header_in}
use Rattle.chunk_reader.specs.Places.{header_bytes_at, header_at, end_by, end_at, data_at, chunk_at}
use Rattle.chunk_reader.specs.Reasons.{ContentApplies, NoneOf, IsFirstOf}
use Rattle.chunk_reader.specs.declared.reasons.Why.{Why}
use Rattle.chunk_reader.specs.declared.reasons.Why.TheVariants as why
use Rattle.chunk_reader.proofs.Blocks.{stands_within}
use Rattle.chunk_reader.proofs.FileFaults.{first_applies}
use Rattle.damage_skip.specs.FilePieces.{IsSettled}
use Rattle.damage_skip.specs.Pieces.{PieceKind, Records, Kept, SignatureOrPadding, Skipped, Piece, SkipsFor, walk_reasons, SkipsTo, IsFoundAs, IsPieceOf, AreTiles}
use Rattle.damage_skip.specs.Resyncs.{IsFirstBlock, StandsFrom, landing, IsResync, Contradicts}
use Rattle.damage_skip.proofs.PlacesFurtherOn.{landing-back, landing-on}
use Rattle.damage_skip.proofs.OnePiece.{IsWhole, piece_whole, piece_past, whole_later}
use Rattle.damage_skip.proofs.Prefixes.{slice_in_front, stands_in_front, header_in_front}
use Rattle.damage_skip.proofs.Tiles.{tiles_within}

-- a later place has no earlier end
end_of_rises : (begin from size : ℕ) → begin ≤ from → end_of begin size ≤ end_of from size
end_of_rises begin from size before =
    let end : ℕ = end_of from size in
    let after : from ≤ end = end_of_after from size in
    end_of_least begin size end (omega arith)
    (omega (arith, room_split begin from end before after, (end_of_is_end from size).holds))

-- the usable bytes at a place are those of the front that has them
pub own_in_front : (file : List ℕ) (m place size : ℕ) → m ≤ length file → end_of place size ≤ m
    → usable_bytes_at (take m file) place size ≡ usable_bytes_at file place size
own_in_front file m place size within fits =
    usable_bytes_at-to_end (take m file) place size (omega (arith, length-take-le m file within))
    ∙ ap (usable_bytes place) (slice_in_front file m place (end_of place size) (end_of_after place size) fits)
    ∙ sym (usable_bytes_at-to_end file place size (omega arith))

-- so is what stands at a block
pub stands_back : (file : List ℕ) (m b previous next : ℕ) → b + 24 ≤ m → StandsAt file b previous next → StandsAt (take m file) b previous next
stands_back file m b previous next fits h =
    record { is_block = h.is_block; bytes = slice_in_front file m b (b + 24) (omega arith) fits ∙ h.bytes; sane = h.sane }

-- what is true of one is true of the other
first_same : (P Q : Why → Type 0) (reasons : List Why) (first : Why) → AllByRecursion (λ w. P w ↔ Q w) reasons → IsFirstOf P reasons first
    → IsFirstOf Q reasons first
first_same P Q [] first same h = h
first_same P Q (w ∷ reasons) first same (inl (applies, is)) = inl (same.0.0 applies, is)
first_same P Q (w ∷ reasons) first same (inr (not, later)) =
    inr ((λ applies. not (same.0.1 applies)), first_same P Q reasons first same.1 later)

none_same : (P Q : Why → Type 0) (reasons : List Why) → AllByRecursion (λ w. P w ↔ Q w) reasons → NoneOf P reasons → NoneOf Q reasons
none_same P Q [] same h = tt
none_same P Q (w ∷ reasons) same h = ((λ applies. h.0 (same.0.1 applies)), none_same P Q reasons same.1 h.1)

-- the first block of which P holds is the first of which Q does, where P holds of blocks in the front alone
first_block_same : (P Q : (block previous next : ℕ) → Type 0) (m : ℕ)
    → ((b p n : ℕ) → P b p n → Q b p n × IsBlock b × (b + 24 ≤ m))
    → ((b p n : ℕ) → Q b p n → IsBlock b)
    → ((b p n : ℕ) → b + 24 ≤ m → Q b p n → P b p n)
    → (b p n : ℕ) → IsFirstBlock P b p n → IsFirstBlock Q b p n
first_block_same P Q m on block back b p n h =
    let here = on b p n h.holds in
    record {
      holds = here.0;
      first = λ c q r there. elim (cases_lt c b) [
        | inl before ↦ h.first c q r (back c q r (omega (arith, block c q r there, here.1, here.2)) there)
        | inr behind ↦ behind
      ];
    }

-- a block that leads to a place before the front's end leads there in the file
landing_kept : (m size place b p n to : ℕ) → m ≤ size → to < m → to ≡ landing m place b p n → to ≡ landing size place b p n
landing_kept m size place b p n to within below is =
    elim (cases_lt place (b - p)) [
      | inl past ↦ is ∙ landing-back m place b p n past ∙ sym (landing-back size place b p n past)
      | inr not ↦
          let far : to ≡ min (b + n) m = is ∙ landing-on m place b p n not in
          let same : min (b + n) m ≡ min (b + n) size = omega (arith, far) in
          far ∙ same ∙ sym (landing-on size place b p n not)
    ]

-- a file, and its front up to a place
module _ (file : List ℕ) (m : ℕ) (within : m ≤ length file) where
  front_length : length (take m file) ≡ m
  front_length = length-take-le m file within

  -- reading goes on in the file where it does in the front, before the front's end
  resync_kept : (begin to : ℕ) → to < m → IsResync (take m file) begin to → IsResync file begin to
  resync_kept begin to below (inl (b, p, n, first, is)) =
      inl (
        b,
        p,
        n,
        first_block_same (StandsFrom (take m file) begin) (StandsFrom file begin) m
            (λ c q r there. (
              record { stands = stands_in_front file m c q r there.stands; from = there.from },
              there.stands.is_block,
              omega (arith, front_length, stands_within (take m file) c q r there.stands),
            ))
            (λ c q r there. there.stands.is_block)
            (λ c q r fits there. record { stands = stands_back file m c q r fits there.stands; from = there.from })
            b p n first,
        landing_kept m (length file) begin b p n to within below (is ∙ ap (λ (s : ℕ). landing s begin b p n) front_length),
      )
  resync_kept begin to below (inr (none, is)) = absurd (omega (arith, is, front_length))

  -- a chunk whose header is in the front
  module _ (begin : ℕ) (long : end_of begin 40 ≤ m) where
    header_kept : header_bytes_at (take m file) begin ≡ header_bytes_at file begin
    header_kept = header_in_front file m begin within long

    end_kept : end_at (take m file) begin ≡ end_at file begin
    end_kept = ap (λ (bytes : List ℕ). end_by begin (header_in bytes)) header_kept

    against_on : (b p n : ℕ) → Contradicts (take m file) begin (end_at (take m file) begin) b p n
        → Contradicts file begin (end_at file begin) b p n × IsBlock b × (b + 24 ≤ m)
    against_on b p n h = (
      record {
        stands = stands_in_front file m b p n h.stands;
        from = h.from;
        below = omega (arith, h.below, end_kept);
        differs = subst (λ (e : ℕ). (b - p ≢ begin) ⊎ (b + n ≢ e)) end_kept h.differs;
      },
      h.stands.is_block,
      omega (arith, front_length, stands_within (take m file) b p n h.stands),
    )

    against_back : (b p n : ℕ) → b + 24 ≤ m → Contradicts file begin (end_at file begin) b p n
        → Contradicts (take m file) begin (end_at (take m file) begin) b p n
    against_back b p n fits h = record {
      stands = stands_back file m b p n fits h.stands;
      from = h.from;
      below = omega (arith, h.below, end_kept);
      differs = subst (λ (e : ℕ). (b - p ≢ begin) ⊎ (b + n ≢ e)) (sym end_kept) h.differs;
    }

    first_against : (b p n : ℕ) → IsFirstBlock (Contradicts (take m file) begin (end_at (take m file) begin)) b p n
        → IsFirstBlock (Contradicts file begin (end_at file begin)) b p n
    first_against b p n h =
        first_block_same (Contradicts (take m file) begin (end_at (take m file) begin)) (Contradicts file begin (end_at file begin)) m
        against_on (λ c q r there. there.stands.is_block) against_back b p n h

    right_kept : ¬ SkipsFor (take m file) begin why.HeaderHash → ¬ SkipsFor file begin why.HeaderHash
    right_kept right wrong = right (λ is. wrong (subst IsRightChunkHeader header_kept is))

    wrong_kept : SkipsFor (take m file) begin why.HeaderHash → SkipsFor file begin why.HeaderHash
    wrong_kept wrong is = wrong (subst IsRightChunkHeader (sym header_kept) is)

    not_short : ¬ SkipsFor file begin why.Short
    not_short short = omega (arith, short)

    -- the front has it whole
    module _ (whole : end_at (take m file) begin ≤ m) where
      size : ℕ
      size = (header_at (take m file) begin).data_size

      fields_kept : header_at (take m file) begin ≡ header_at file begin
      fields_kept = ap header_in header_kept

      chunk_kept : chunk_at (take m file) begin ≡ chunk_at file begin
      unfolding size
      chunk_kept =
          let fits : end_of begin (40 + size) ≤ m =
          omega (arith, chunk_end_of_past_bytes begin (40 + size) (header_at (take m file) begin).num_records) in
          let same : data_at (take m file) begin size ≡ data_at file begin size = ap (drop 40) (own_in_front file m begin (40 + size) within fits) in
          ap (λ (d : List ℕ). record {
            kind = (header_at (take m file) begin).kind;
            num_records = (header_at (take m file) begin).num_records;
            decoded_size = (header_at (take m file) begin).decoded_size;
            «data» = d;
          }) same
          ∙ ap (λ (v : HeaderValue). record {
            kind = v.kind;
            num_records = v.num_records;
            decoded_size = v.decoded_size;
            «data» = data_at file begin v.data_size;
          }) fields_kept

      content_kept : (w : Why) → ContentApplies (header_at (take m file) begin).data_hash (chunk_at (take m file) begin) w
          ↔ ContentApplies (header_at file begin).data_hash (chunk_at file begin) w
      content_kept w =
          let by_hash : ContentApplies (header_at (take m file) begin).data_hash (chunk_at (take m file) begin) w
          ≡ ContentApplies (header_at file begin).data_hash (chunk_at (take m file) begin) w =
          ap (λ (v : HeaderValue). ContentApplies v.data_hash (chunk_at (take m file) begin) w) fields_kept in
          let by_chunk : ContentApplies (header_at file begin).data_hash (chunk_at (take m file) begin) w
          ≡ ContentApplies (header_at file begin).data_hash (chunk_at file begin) w =
          ap (λ (k : ChunkValue). ContentApplies (header_at file begin).data_hash k w) chunk_kept in
          ((λ h. subst (λ (T : Type 0). T) (by_hash ∙ by_chunk) h), (λ h. subst (λ (T : Type 0). T) (sym (by_hash ∙ by_chunk)) h))

      short_same : SkipsFor (take m file) begin why.Short ↔ SkipsFor file begin why.Short
      short_same = ((λ h. absurd (omega (arith, h, front_length))), (λ h. absurd (omega (arith, h))))

      header_same : SkipsFor (take m file) begin why.HeaderHash ↔ SkipsFor file begin why.HeaderHash
      header_same = (wrong_kept, (λ wrong is. wrong (subst IsRightChunkHeader header_kept is)))

      against_same : SkipsFor (take m file) begin why.Contradicted ↔ SkipsFor file begin why.Contradicted
      against_same = (
        (λ h. (h.0, h.1, h.2, (against_on h.0 h.1 h.2 h.3).0)),
        (λ h.
            let end : ℕ = end_at file begin in
            let fits : h.0 + 25 ≤ end =
            boundary_past_block h.0 end h.3.stands.is_block (chunk_end_of_boundary begin (40 + (header_at file begin).data_size) (header_at file begin).num_records) h.3.below in
            (h.0, h.1, h.2, against_back h.0 h.1 h.2 (omega (arith, fits, whole, end_kept)) h.3)),
      )

      cut_same : SkipsFor (take m file) begin why.Truncated ↔ SkipsFor file begin why.Truncated
      cut_same = ((λ h. absurd (omega (arith, h, whole, front_length))), (λ h. absurd (omega (arith, h, whole, end_kept))))

      large_same : SkipsFor (take m file) begin why.TooLarge ↔ SkipsFor file begin why.TooLarge
      large_same = (
        (λ h. omega (arith, h, ap (λ (v : HeaderValue). v.data_size) fields_kept)),
        (λ h. omega (arith, h, ap (λ (v : HeaderValue). v.data_size) fields_kept)),
      )

      reasons_same : (unread_ok : Bool) → AllByRecursion (λ w. SkipsFor (take m file) begin w ↔ SkipsFor file begin w) (walk_reasons unread_ok)
      reasons_same false = (
        short_same,
        (
          header_same,
          (
            against_same,
            (
              cut_same,
              (
                large_same,
                (
                  content_kept why.DataHash,
                  (content_kept why.Contents, (content_kept why.Compressed, (content_kept why.Transposed, (content_kept why.UnknownKind, tt)))),
                ),
              ),
            ),
          ),
        ),
      )
      reasons_same true = (
        short_same,
        (
          header_same,
          (
            against_same,
            (
              cut_same,
              (
                large_same,
                (
                  content_kept why.DataHash,
                  (content_kept why.Contents, (content_kept why.UnknownKind, tt)),
                ),
              ),
            ),
          ),
        ),
      )

  -- a header that is short of no byte lies in the front
  long_where : (begin : ℕ) → ¬ SkipsFor (take m file) begin why.Short → end_of begin 40 ≤ m
  long_where begin long = omega (arith, front_length, long)

  long_where_whole : (begin : ℕ) → end_at (take m file) begin ≤ m → end_of begin 40 ≤ m
  long_where_whole begin whole =
      let v : HeaderValue = header_at (take m file) begin in
      omega (arith, end_of_mono begin 40 (40 + v.data_size) (omega arith), chunk_end_of_past_bytes begin (40 + v.data_size) v.num_records)

  -- what is passed over in the front is passed over in the file, where that is settled
  skip_kept : (unread_ok : Bool) (begin end : ℕ) (w : Why) → IsSettled m end (Skipped w)
      → IsFirstOf (SkipsFor (take m file) begin) (walk_reasons unread_ok) w → SkipsTo (take m file) begin w end
      → IsFirstOf (SkipsFor file begin) (walk_reasons unread_ok) w × SkipsTo file begin w end
  skip_kept unread_ok begin end why.Short settled first to = absurd settled
  skip_kept unread_ok begin end why.Truncated settled first to = absurd settled
  skip_kept unread_ok begin end why.HeaderHash settled (inl (short, is)) to = absurd (cc is)
  skip_kept unread_ok begin end why.HeaderHash settled (inr (long, rest)) to =
      let fits : end_of begin 40 ≤ m = long_where begin long in
      let wrong : SkipsFor (take m file) begin why.HeaderHash =
      first_applies (SkipsFor (take m file) begin) (walk_reasons unread_ok) why.HeaderHash (inr (long, rest)) in
      (inr (not_short begin fits, inl (wrong_kept begin fits wrong, refl)), resync_kept begin end settled to)
  skip_kept unread_ok begin end why.Contradicted settled (inl (short, is)) to = absurd (cc is)
  skip_kept unread_ok begin end why.Contradicted settled (inr (long, inl (wrong, is))) to = absurd (cc is)
  skip_kept unread_ok begin end why.Contradicted settled (inr (long, inr (right, rest))) (b, p, n, first, is) =
      let fits : end_of begin 40 ≤ m = long_where begin long in
      let there = first_against begin fits b p n first in (
        inr (not_short begin fits, inr (right_kept begin fits right, inl ((b, p, n, there.holds), refl))),
        (b, p, n, there, landing_kept m (length file) begin b p n end within settled (is ∙ ap (λ (s : ℕ). landing s begin b p n) front_length)),
      )
  skip_kept unread_ok begin end other settled first to =
      let whole : end_at (take m file) begin ≤ m =
      omega (arith, front_length, whole_later unread_ok (take m file) begin other (λ e. cc) (λ e. cc) (λ e. cc) (λ e. cc) first) in
      let fits : end_of begin 40 ≤ m = long_where_whole begin whole in (
        first_same (SkipsFor (take m file) begin) (SkipsFor file begin) (walk_reasons unread_ok) other (reasons_same begin fits whole unread_ok) first,
        to ∙ end_kept begin fits,
      )

  -- a chunk that is found in the front is found in the file
  found_kept : (unread_ok : Bool) (begin end : ℕ) (what : PieceKind) → IsWhole unread_ok (take m file) begin end what → IsPieceOf unread_ok file begin end what
  found_kept unread_ok begin end what (none, is, found) =
      let whole : end_at (take m file) begin ≤ m = omega (arith, front_length, none.1.1.1.0) in
      let fits : end_of begin 40 ≤ m = long_where_whole begin whole in
      piece_whole unread_ok file begin end what (
        none_same (SkipsFor (take m file) begin) (SkipsFor file begin) (walk_reasons unread_ok) (reasons_same begin fits whole unread_ok) none,
        is ∙ end_kept begin fits,
        subst (λ (k : ChunkValue). IsFoundAs unread_ok k what) (chunk_kept begin fits whole) found,
      )

  -- so a settled piece of the front is a piece of the file
  piece_kept : (unread_ok : Bool) (begin end : ℕ) (what : PieceKind) → IsSettled m end what → IsPieceOf unread_ok (take m file) begin end what
      → IsPieceOf unread_ok file begin end what
  piece_kept unread_ok begin end (Skipped w) settled (first, to) = skip_kept unread_ok begin end w settled first to
  piece_kept unread_ok begin end (Records records k) settled h = found_kept unread_ok begin end (Records records k) h
  piece_kept unread_ok begin end (Kept k) settled h = found_kept unread_ok begin end (Kept k) h
  piece_kept unread_ok begin end SignatureOrPadding settled h = found_kept unread_ok begin end SignatureOrPadding h

  -- and so are settled pieces
  pub tiles_kept : (unread_ok : Bool) (from to : ℕ) (pieces : List Piece) → AllByRecursion (λ p. IsSettled m p.end p.what) pieces
      → AreTiles unread_ok (take m file) from to pieces → AreTiles unread_ok file from to pieces
  tiles_kept unread_ok from to [] settled h = h
  tiles_kept unread_ok from to (p ∷ pieces) settled (begin, below, is, rest) = (
    begin,
    omega (arith, below, front_length),
    piece_kept unread_ok from p.end p.what settled.0 is,
    tiles_kept unread_ok p.end to pieces settled.1 rest,
  )

  -- where a header fits behind them they are settled
  settled_before : (unread_ok : Bool) (begin end to : ℕ) (what : PieceKind) → end_of to 40 ≤ m → begin < to → end ≤ to
      → IsPieceOf unread_ok (take m file) begin end what → IsSettled m end what
  settled_before unread_ok begin end to (Skipped why.Short) room before inside (first, on) =
      let short = first_applies (SkipsFor (take m file) begin) (walk_reasons unread_ok) why.Short first in
      omega (arith, short, front_length, end_of_rises begin to 40 (omega arith))
  settled_before unread_ok begin end to (Skipped why.Truncated) room before inside (first, on) =
      omega (arith, on, front_length, end_of_above to 40 (omega arith))
  settled_before unread_ok begin end to (Skipped why.HeaderHash) room before inside h = omega (arith, end_of_above to 40 (omega arith))
  settled_before unread_ok begin end to (Skipped why.Contradicted) room before inside h = omega (arith, end_of_above to 40 (omega arith))
  settled_before unread_ok begin end to other room before inside h = tt

  all_settled : (unread_ok : Bool) (from to : ℕ) (pieces : List Piece) → end_of to 40 ≤ m → AreTiles unread_ok (take m file) from to pieces
      → AllByRecursion (λ p. IsSettled m p.end p.what) pieces
  all_settled unread_ok from to [] room h = tt
  all_settled unread_ok from to (p ∷ pieces) room (begin, below, is, rest) =
      let past = piece_past unread_ok (take m file) from p.end p.what below is in
      let behind = tiles_within unread_ok (take m file) p.end to pieces past.within rest in
      (settled_before unread_ok from p.end to p.what room (omega (arith, past.past)) behind.0 is, all_settled unread_ok p.end to pieces room rest)

-- bytes behind a file leave its settled pieces alone
front_of_both : (file more : List ℕ) → take (length file) (file ++ more) ≡ file
front_of_both file more = take_at file more (length file) refl

within_both : (file more : List ℕ) → length file ≤ length (file ++ more)
within_both file more = omega (arith, length-append file more)

pub tiles_left_alone : (unread_ok : Bool) (file more : List ℕ) (from to : ℕ) (pieces : List Piece)
    → AreTiles unread_ok file from to pieces → AllByRecursion (λ p. IsSettled (length file) p.end p.what) pieces
    → AreTiles unread_ok (file ++ more) from to pieces
tiles_left_alone unread_ok file more from to pieces h settled =
    tiles_kept (file ++ more) (length file) (within_both file more) unread_ok from to pieces settled
    (subst (λ (f : List ℕ). AreTiles unread_ok f from to pieces) (sym (front_of_both file more)) h)

pub tiles_settled : (unread_ok : Bool) (file : List ℕ) (from to : ℕ) (pieces : List Piece) → AreTiles unread_ok file from to pieces
    → end_of to 40 ≤ length file → AllByRecursion (λ p. IsSettled (length file) p.end p.what) pieces
tiles_settled unread_ok file from to pieces h room =
    all_settled file (length file) (omega arith) unread_ok from to pieces room
    (subst (λ (f : List ℕ). AreTiles unread_ok f from to pieces) (sym (take_all (length file) file (omega arith))) h)
