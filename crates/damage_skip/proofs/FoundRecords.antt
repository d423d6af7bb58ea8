-- The records of chunks that were found intact are the records of the chunks.
use Rattle.std.proofs.Common.{◌≡◌, ◌≢◌, ◌∙◌, ℕ, zero, suc, ◌+◌, Bool, false, List, [], ◌∷◌, ◌++◌, Some, length, take, refl, sym, ap, subst, inl, inr, add-one}
use Rattle.std.specs.Prelude.{map, slice_get}
use Rattle.std.specs.List.{AllByRecursion, flat_map, enumerate_from}
use Rattle.std.proofs.lemmas.Bool.{cases_Bool, cond-true, cond-false}
use Rattle.std.proofs.lemmas.Option.{none-some, same_Some}
use Rattle.chunk_header.specs.Chunks.{ChunkValue}
use Rattle.meta_chunk.specs.Laid.{end_of_chunk}
use Rattle.meta_chunk.specs.Files.{IsFileOf, Holds, HoldEach, AreRecordsOf, end_of_chunks, begin_of, placed_from, ArePlaced}
use Rattle.chunk_reader.specs.Faults.{IsAllowed}
use Rattle.chunk_reader.specs.declared.reasons.Why.{Why}
use Rattle.damage_skip.specs.Pieces.{PieceKind, Records, Kept, SignatureOrPadding, Skipped, Piece, IsFoundAs, is_event, events_in, AreEvents, records_of, records_in}
use Rattle.damage_skip.specs.FilePieces.{placed_in, AreFound}
use Rattle.damage_skip.proofs.OnePiece.{given_or_kept, given_or_left_out}
use Rattle.damage_skip.proofs.FoundPieces.{pieces_found}

-- what is found intact isn't skipped
found_not_skipped : (unread_ok : Bool) (k : ChunkValue) (what : PieceKind) → IsFoundAs unread_ok k what → (w : Why) → what ≢ Skipped w
found_not_skipped unread_ok k (Records records c) found w = λ same. cc
found_not_skipped unread_ok k (Kept c) found w = λ same. cc
found_not_skipped unread_ok k SignatureOrPadding found w = λ same. cc
found_not_skipped unread_ok k (Skipped v) found w = absurd found

pub none_skipped : (unread_ok : Bool) (place : ℕ) (ks : List ChunkValue) (pieces : List Piece) → AreFound unread_ok place ks pieces
    → AllByRecursion (λ piece. (w : Why) → piece.what ≢ Skipped w) pieces
none_skipped unread_ok place [] pieces h =
    subst (λ (xs : List Piece). AllByRecursion (λ (piece : Piece). (w : Why) → piece.what ≢ Skipped w) xs) (sym h) tt
none_skipped unread_ok place (k ∷ ks) [] h = elim h [ ]
none_skipped unread_ok place (k ∷ ks) (p ∷ pieces) (begin, end, found, rest) =
    (found_not_skipped unread_ok k p.what found, none_skipped unread_ok (end_of_chunk place k) ks pieces rest)

-- it gives the records that the chunk holds
pub found_holds : (unread_ok : Bool) (k : ChunkValue) (what : PieceKind) → IsFoundAs unread_ok k what → Holds k (records_of what)
found_holds unread_ok k (Records records c) (simple, is) = inl simple
found_holds unread_ok k (Kept c) (kept, is) = inr (λ has. given_or_kept unread_ok k has.0 has.1 kept, refl)
found_holds unread_ok k SignatureOrPadding left_out = inr (λ has. given_or_left_out k has.0 has.1 left_out, refl)
found_holds unread_ok k (Skipped w) found = absurd found

abbrev lists_in : List Piece → List (List (List ℕ))
lists_in pieces = map (λ (piece : Piece). records_of piece.what) pieces

holds_each : (unread_ok : Bool) (place : ℕ) (ks : List ChunkValue) (pieces : List Piece) → AreFound unread_ok place ks pieces
    → HoldEach ks (lists_in pieces)
holds_each unread_ok place [] pieces h = ap lists_in h
holds_each unread_ok place (k ∷ ks) [] h = elim h [ ]
holds_each unread_ok place (k ∷ ks) (p ∷ pieces) (begin, end, found, rest) =
    (found_holds unread_ok k p.what found, holds_each unread_ok (end_of_chunk place k) ks pieces rest)

-- joined
joined_lists : (pieces : List Piece) → records_in pieces ≡ flat_map (λ held. held) (lists_in pieces)
joined_lists [] = refl
joined_lists (p ∷ pieces) = ap (λ (xs : List (List ℕ)). records_of p.what ++ xs) (joined_lists pieces)

pub found_records : (unread_ok : Bool) (place : ℕ) (ks : List ChunkValue) (pieces : List Piece) → AreFound unread_ok place ks pieces
    → AreRecordsOf ks (records_in pieces)
found_records unread_ok place ks pieces h = (lists_in pieces, holds_each unread_ok place ks pieces h, joined_lists pieces)

-- and with their positions
placed_lists : (unread_ok : Bool) (place : ℕ) (ks : List ChunkValue) (pieces : List Piece) → AreFound unread_ok place ks pieces
    → placed_in pieces ≡ placed_from place ks (lists_in pieces)
placed_lists unread_ok place [] pieces h = ap placed_in h
placed_lists unread_ok place (k ∷ ks) [] h = elim h [ ]
placed_lists unread_ok place (k ∷ ks) (p ∷ pieces) (begin, end, found, rest) =
    ap (λ (x : ℕ). enumerate_from x (records_of p.what) ++ placed_in pieces) begin
    ∙ ap (λ (xs : List (ℕ × List ℕ)). enumerate_from place (records_of p.what) ++ xs)
    (placed_lists unread_ok (end_of_chunk place k) ks pieces rest)

pub found_placed : (unread_ok : Bool) (ks : List ChunkValue) (pieces : List Piece) → AreFound unread_ok 0 ks pieces
    → ArePlaced ks (placed_in pieces)
found_placed unread_ok ks pieces h = (lists_in pieces, holds_each unread_ok 0 ks pieces h, placed_lists unread_ok 0 ks pieces h)

-- there is one piece for each chunk
pub found_count : (unread_ok : Bool) (place : ℕ) (ks : List ChunkValue) (pieces : List Piece) → AreFound unread_ok place ks pieces
    → length pieces ≡ length ks
found_count unread_ok place [] pieces h = ap length h
found_count unread_ok place (k ∷ ks) [] h = elim h [ ]
found_count unread_ok place (k ∷ ks) (p ∷ pieces) (begin, end, found, rest) =
    ap suc (found_count unread_ok (end_of_chunk place k) ks pieces rest)

-- from where the chunk begins to where the next one does
found_nth : (unread_ok : Bool) (place : ℕ) (ks : List ChunkValue) (pieces : List Piece) (j : ℕ) (k : ChunkValue) (piece : Piece)
    → AreFound unread_ok place ks pieces → slice_get ks j ≡ Some k → slice_get pieces j ≡ Some piece
    → (piece.begin ≡ end_of_chunks place (take j ks)) × (piece.end ≡ end_of_chunks place (take (suc j) ks)) × IsFoundAs unread_ok k piece.what
found_nth unread_ok place [] pieces j k piece h at there = absurd (none-some k at)
found_nth unread_ok place (x ∷ ks) [] j k piece h at there = elim h [ ]
found_nth unread_ok place (x ∷ ks) (p ∷ pieces) zero k piece (begin, end, found, rest) at there =
    let chunk : x ≡ k = same_Some x k at in
    let same : p ≡ piece = same_Some p piece there in
    subst (λ (q : Piece). (q.begin ≡ place) × (q.end ≡ end_of_chunk place x) × IsFoundAs unread_ok k q.what) same
    (begin, end, subst (λ (c : ChunkValue). IsFoundAs unread_ok c p.what) chunk found)
found_nth unread_ok place (x ∷ ks) (p ∷ pieces) (suc j) k piece (begin, end, found, rest) at there =
    found_nth unread_ok (end_of_chunk place x) ks pieces j k piece rest at there

pub found_at : (unread_ok : Bool) (ks : List ChunkValue) (pieces : List Piece) (j : ℕ) (k : ChunkValue) (piece : Piece)
    → AreFound unread_ok 0 ks pieces → slice_get ks j ≡ Some k → slice_get pieces j ≡ Some piece
    → (piece.begin ≡ begin_of ks j) × (piece.end ≡ begin_of ks (j + 1)) × IsFoundAs unread_ok k piece.what
found_at unread_ok ks pieces j k piece h at there =
    let found = found_nth unread_ok 0 ks pieces j k piece h at there in
    (found.0, subst (λ (n : ℕ). piece.end ≡ begin_of ks n) (sym (add-one j)) found.1, found.2)

-- pieces that are no events give no records
no_event_no_records : (what : PieceKind) → is_event what ≡ false → records_of what ≡ []
no_event_no_records (Records records c) h = cc
no_event_no_records (Kept c) h = cc
no_event_no_records SignatureOrPadding h = refl
no_event_no_records (Skipped w) h = cc

-- so what events give is what all pieces give
module _ {A : Type 0} (give : Piece → List A) (nothing : (piece : Piece) → is_event piece.what ≡ false → give piece ≡ []) where
  given_in_events : (pieces : List Piece) → flat_map give (events_in pieces) ≡ flat_map give pieces
  given_in_events [] = refl
  given_in_events (p ∷ pieces) =
      elim (cases_Bool (is_event p.what)) [
        | inl event ↦
            ap (flat_map give) (cond-true (is_event p.what) (p ∷ events_in pieces) (events_in pieces) event)
            ∙ ap (λ (xs : List A). give p ++ xs) (given_in_events pieces)
        | inr other ↦
            ap (flat_map give) (cond-false (is_event p.what) (p ∷ events_in pieces) (events_in pieces) other)
            ∙ given_in_events pieces
            ∙ ap (λ (xs : List A). xs ++ flat_map give pieces) (sym (nothing p other))
      ]

pub records_in_events : (pieces : List Piece) → records_in (events_in pieces) ≡ records_in pieces
records_in_events pieces =
    given_in_events (λ (p : Piece). records_of p.what) (λ p other. no_event_no_records p.what other) pieces

pub placed_in_events : (pieces : List Piece) → placed_in (events_in pieces) ≡ placed_in pieces
placed_in_events pieces =
    given_in_events (λ (p : Piece). enumerate_from p.begin (records_of p.what))
    (λ p other. ap (enumerate_from p.begin) (no_event_no_records p.what other)) pieces

-- what holds of each piece holds of each event
pub each_event : (P : Piece → Type 0) (pieces : List Piece) → AllByRecursion P pieces → AllByRecursion P (events_in pieces)
each_event P [] h = tt
each_event P (p ∷ pieces) h =
    elim (cases_Bool (is_event p.what)) [
      | inl event ↦
          subst (AllByRecursion P) (sym (cond-true (is_event p.what) (p ∷ events_in pieces) (events_in pieces) event))
          (h.0, each_event P pieces h.1)
      | inr other ↦
          subst (AllByRecursion P) (sym (cond-false (is_event p.what) (p ∷ events_in pieces) (events_in pieces) other))
          (each_event P pieces h.1)
    ]

-- so the events of a file without fault give its records, and none is skipped
pub events_not_skipped : (unread_ok : Bool) (ks : List ChunkValue) (file : List ℕ) (events : List Piece)
    → IsFileOf (IsAllowed unread_ok) ks file → AreEvents unread_ok file events
    → AllByRecursion (λ event. (w : Why) → event.what ≢ Skipped w) events
events_not_skipped unread_ok ks file events whole (pieces, h, are) =
    let P : Piece → Type 0 = λ (p : Piece). (w : Why) → p.what ≢ Skipped w in
    subst (AllByRecursion P) are (each_event P pieces (none_skipped unread_ok 0 ks pieces (pieces_found unread_ok ks file pieces whole h)))

pub events_records : (unread_ok : Bool) (ks : List ChunkValue) (file : List ℕ) (events : List Piece)
    → IsFileOf (IsAllowed unread_ok) ks file → AreEvents unread_ok file events → AreRecordsOf ks (records_in events)
events_records unread_ok ks file events whole (pieces, h, are) =
    subst (AreRecordsOf ks) (sym (records_in_events pieces) ∙ ap records_in are)
    (found_records unread_ok 0 ks pieces (pieces_found unread_ok ks file pieces whole h))

pub events_placed : (unread_ok : Bool) (ks : List ChunkValue) (file : List ℕ) (events : List Piece)
    → IsFileOf (IsAllowed unread_ok) ks file → AreEvents unread_ok file events → ArePlaced ks (placed_in events)
events_placed unread_ok ks file events whole (pieces, h, are) =
    subst (ArePlaced ks) (sym (placed_in_events pieces) ∙ ap placed_in are)
    (found_placed unread_ok ks pieces (pieces_found unread_ok ks file pieces whole h))
