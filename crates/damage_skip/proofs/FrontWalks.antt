-- A walk of the front of a file of chunks goes on among the pieces of the chunks that it has whole and of the one that is cut.
use Rattle.std.proofs.Common.{◌≡◌, ◌∙◌, ℕ, ◌+◌, ◌<◌, ◌≤◌, Bool, Option, Some, None, Result, Ok, Err, IfSome, List, [], ◌∷◌, ◌++◌, length, take, refl, sym, ap, subst, inl, inr, arith}
use Rattle.std.proofs.lemmas.Bool.{cases_lt}
use Rattle.std.proofs.lemmas.List.{append-nil}
use Rattle.std.proofs.lemmas.Option.{slice_get_within}
use Rattle.chunk_header.specs.Chunks.{ChunkValue}
use Rattle.meta_chunk.specs.Files.{IsWellFormed, begin_of}
use Rattle.meta_chunk.proofs.Begins.{begin_of-place, holder_of}
use Rattle.chunk_reader.proofs.Rooms.{IsSized}
use Rattle.chunk_reader.specs.declared.judging.LoadEnd.{LoadEnd}
use Rattle.damage_skip.specs.Ends.{walk_end_of}
use Rattle.damage_skip.specs.DamagedWalks.{WalksInFront, WalksInRemains}
use Rattle.damage_skip.specs.FrontPieces.{AreFrontPieces}
use Rattle.damage_skip.specs.Pieces.{Piece, Skipped, AreTiles, GoesOn}
use Rattle.damage_skip.specs.FilePieces.{ArePieces}
use Rattle.damage_skip.specs.Walks.{IsMet, IsStoppedAt, StandsIn, events_of, stop_of, WalksOn}
use Rattle.damage_skip.specs.declared.events.Event.{Event}
use Rattle.damage_skip.specs.declared.events.WalkEnd.{WalkEnd}
use Rattle.damage_skip.specs.declared.progress.Progress.{Progress}
use Rattle.damage_skip.specs.declared.regions.Region.{Region}
use Rattle.damage_skip.proofs.DamagedWalks.{call_past, cut_on}
use Rattle.damage_skip.proofs.OnePiece.{piece_one}
use Rattle.damage_skip.proofs.Prefixes.{front_tiles, cut_between, cut_within}
use Rattle.damage_skip.proofs.Tiles.{same_piece, tiles_within, tiles_one, tiles_to_end, tiles_append}
use Rattle.damage_skip.proofs.WalkedTo.{piece_at}

-- the front of a file of chunks comes apart so
module _ (unread_ok : Bool) (ks : List ChunkValue) (file : List ℕ) (m : ℕ) (well_formed : IsWellFormed ks file) (within : m ≤ length file) where
  abbrev FrontPieces : Type 0
  FrontPieces = (pieces : List Piece) × AreFrontPieces unread_ok ks file m pieces × ArePieces unread_ok (take m file) pieces

  at_begin : (count : ℕ) → m ≡ begin_of ks count → FrontPieces
  at_begin count there =
      let front = front_tiles unread_ok ks file well_formed count in (
        front.0,
        record {
          count = count;
          front = front.0;
          whole = front.1;
          cut = [];
          cut_there = inl (there, refl);
          are = sym (append-nil front.0);
        },
        subst (λ (x : ℕ). ArePieces unread_ok (take x file) front.0) (sym there) (cut_between unread_ok ks file well_formed count front.0 front.1),
      )

  in_chunk : (count : ℕ) → count < length ks → begin_of ks count < m → m < begin_of ks (count + 1) → FrontPieces
  in_chunk count inside after before =
      let front = front_tiles unread_ok ks file well_formed count in
      let cut = cut_within unread_ok ks file well_formed count m front.0 inside after before front.1 in
      let region : Piece = record { begin = begin_of ks count; end = m; what = Skipped cut.0 } in (
        front.0 ++ region ∷ [],
        record {
          count = count;
          front = front.0;
          whole = front.1;
          cut = region ∷ [];
          cut_there = inr (inside, after, before, cut.0, cut.1, refl);
          are = refl;
        },
        cut.2,
      )

  pub front_pieces : (pieces : List Piece) × AreFrontPieces unread_ok ks file m pieces × ArePieces unread_ok (take m file) pieces
  front_pieces =
      let end : begin_of ks (length ks) ≡ length file = begin_of-place ks file (length file) well_formed.1.within well_formed.1.laid in
      elim (cases_lt m (begin_of ks (length ks))) [
        | inl short ↦
            let holder = holder_of ks m short in
            elim (cases_lt (begin_of ks holder.0) m) [
              | inl after ↦ in_chunk holder.0 (slice_get_within ks holder.0 holder.1 holder.2) after holder.4
              | inr at ↦ at_begin holder.0 (omega (arith, at, holder.3))
            ]
        | inr long ↦ at_begin (length ks) (omega (arith, long, end, within))
      ]

-- behind a file's end there are no pieces
pub none_behind : (unread_ok : Bool) (file : List ℕ) (place : ℕ) (pieces : List Piece) → place ≡ length file → AreTiles unread_ok file place (length file) pieces
    → pieces ≡ []
none_behind unread_ok file place [] end h = refl
none_behind unread_ok file place (p ∷ pieces) end (begin, below, is, rest) = absurd (omega (arith, end, below))

-- and those from a region on begin with it
pub region_first : (unread_ok : Bool) (file : List ℕ) (place : ℕ) (pieces : List Piece) (region : Region) → AreTiles unread_ok file place (length file) pieces
    → IsStoppedAt unread_ok file place (Some region) → (rest : List Piece) × (pieces ≡ piece_at region ∷ rest)
region_first unread_ok file place [] region h (at, below, is) = absurd (omega (arith, h, below))
region_first unread_ok file place (p ∷ pieces) region (begin, inside, is, rest) (at, below, also) =
    let one = piece_one unread_ok file place p.end region.end p.what (Skipped region.why) is also in
    (pieces, ap (λ (q : Piece). q ∷ pieces) (same_piece p (piece_at region) (begin ∙ sym at) one.0 one.1))

stop_first : (unread_ok : Bool) (file : List ℕ) (place : ℕ) (pieces : List Piece) (stopped : Option Region) → AreTiles unread_ok file place (length file) pieces
    → IsStoppedAt unread_ok file place stopped → IfSome stopped (λ region. (rest : List Piece) × (pieces ≡ piece_at region ∷ rest))
stop_first unread_ok file place pieces None h there = tt
stop_first unread_ok file place pieces (Some region) h there = region_first unread_ok file place pieces region h there

-- so a call goes on among the pieces of the front
walks_in_front : (unread_ok : Bool) (ks : List ChunkValue) (file front : List ℕ) (m : ℕ) (before after : Progress) (result : Result (Option Event) WalkEnd)
    → before.unread_ok ≡ unread_ok → IsWellFormed ks file → m ≤ length file → front ≡ take m file → IsMet unread_ok front before.place
    → GoesOn unread_ok front before.place after.place (events_of result) → (result ≡ Ok None → after.place ≡ length front)
    → IsStoppedAt unread_ok front after.place (stop_of result) → WalksInFront ks file m before after result
walks_in_front unread_ok ks file front m before after result keeps well_formed within is (passed, met) (given, on, are) ended stopped =
    let all = front_pieces unread_ok ks file m well_formed within in
    let low : before.place ≤ length front = (tiles_within unread_ok front 0 before.place passed (omega arith) met).1 in
    let there : after.place ≤ length front = (tiles_within unread_ok front before.place after.place given low on).1 in
    let left = tiles_to_end unread_ok front after.place there in
    let whole : ArePieces unread_ok front all.0 = subst (λ (b : List ℕ). ArePieces unread_ok b all.0) (sym is) all.2 in
    record {
      pieces = all.0;
      apart = subst (λ (k : Bool). AreFrontPieces k ks file m all.0) (sym keeps) all.1;
      passed = passed;
      passed_before = subst (λ (k : Bool). AreTiles k (take m file) 0 before.place passed) (sym keeps)
          (subst (λ (b : List ℕ). AreTiles unread_ok b 0 before.place passed) is met);
      given = given;
      passes = subst (λ (k : Bool). AreTiles k (take m file) before.place after.place given) (sym keeps)
          (subst (λ (b : List ℕ). AreTiles unread_ok b before.place after.place given) is on);
      left = left.0;
      are = tiles_one unread_ok front 0 (length front) all.0 (passed ++ (given ++ left.0)) whole
          (tiles_append unread_ok front 0 before.place (length front) passed (given ++ left.0) met
          (tiles_append unread_ok front before.place after.place (length front) given left.0 on left.1));
      events = are;
      ended = λ none. none_behind unread_ok front after.place left.0 (ended none) left.1;
      stopped = stop_first unread_ok front after.place left.0 (stop_of result) left.1 stopped;
    }

-- of a file that shows its bytes
call_in_front : (bytes : Option (List ℕ)) (told told_then : Option ℕ) (before after : Progress) (result : Result (Option Event) WalkEnd)
    → IsSized bytes (Some before.size) → StandsIn bytes told before → StandsIn bytes told_then after → WalksOn bytes before after result
    → (result ≡ Ok None → after.place ≡ before.size)
    → IfSome bytes (λ front.
    (ks : List ChunkValue) (file : List ℕ) (m : ℕ) → IsWellFormed ks file → m ≤ length file → front ≡ take m file
    → WalksInFront ks file m before after result)
call_in_front None told told_then before after result sized stands stands_then on ended = tt
call_in_front (Some front) told told_then before after result sized stands stands_then on ended =
    λ ks file m well_formed within is.
    walks_in_front before.unread_ok ks file front m before after result refl well_formed within is stands.met on.past (λ end. ended end ∙ sized)
    (subst (λ (k : Bool). IsStoppedAt k front after.place (stop_of result)) on.same_unread_ok
    (subst (IsStoppedAt after.unread_ok front after.place) on.stopped stands_then.stopped_there))

-- and of one that may be a damaged one too
pub in_remains : (bytes : Option (List ℕ)) (told told_then : Option ℕ) (before after : Progress) (result : Result (Option Event) WalkEnd)
    → IsSized bytes (Some before.size) → StandsIn bytes told before → StandsIn bytes told_then after → WalksOn bytes before after result
    → (result ≡ Ok None → after.place ≡ before.size) → WalksInRemains bytes before after result
in_remains bytes told told_then before after result sized stands stands_then on ended = record {
  damaged = call_past bytes told told_then before after result sized stands stands_then on ended;
  cut = call_in_front bytes told told_then before after result sized stands stands_then on ended;
}

pub in_remains-cut_off : (bytes : Option (List ℕ)) (told told_then : Option ℕ) (before after : Progress) (end : LoadEnd) (result : Result (Option Event) WalkEnd)
    → result ≡ Err (walk_end_of end) → IsSized bytes (Some before.size) → StandsIn bytes told before → StandsIn bytes told_then after
    → WalksOn bytes before after (Ok None) → WalksInRemains bytes before after result
in_remains-cut_off bytes told told_then before after end result is sized stands stands_then on =
    in_remains bytes told told_then before after result sized stands stands_then
    (subst (WalksOn bytes before after) (sym is) (cut_on bytes before after end on)) (λ none. absurd (cc (sym is ∙ none)))
