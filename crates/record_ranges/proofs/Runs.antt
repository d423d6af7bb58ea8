-- Chunks from one place of a file to another, and their records with the positions.
use Rattle.std.proofs.Common.{◌≡◌, ◌∙◌, ℕ, ◌+◌, ◌-◌, ◌≤◌, Option, Some, None, false, IfSome, List, [], ◌∷◌, ◌++◌, take, drop, refl, sym, ap, subst, arith}
use Rattle.std.specs.Prelude.{slice_range}
use Rattle.std.specs.List.{AllByRecursion, enumerate_from}
use Rattle.std.proofs.lemmas.List.{append-nil, append_assoc}
use Rattle.record_io.proofs.Readings.{slice_range-append}
use Rattle.chunk_header.specs.Chunks.{ChunkValue}
use Rattle.chunk_header.specs.Views.{value_of_chunk}
use Rattle.meta_chunk.specs.Laid.{IsLaid, end_of_chunk}
use Rattle.meta_chunk.specs.Files.{IsPlain, AreLaid, Holds, HoldEach, end_of_chunks, placed_from}
use Rattle.meta_chunk.proofs.Held.{HoldEach-append}
use Rattle.meta_chunk.proofs.Joins.{AreLaid-append, end_of_chunks-append, end_of_chunks_past}
use Rattle.chunk_reader.specs.Contents.{IsJudged, IsJudgedIn}
use Rattle.chunk_reader.specs.Places.{chunk_at}
use Rattle.chunk_reader.specs.declared.judging.Judged.{Judged}
use Rattle.chunk_reader.proofs.Rooms.{IsSized}
use Rattle.chunk_reader.proofs.NoReasonLaid.{allowed_where_none}
use Rattle.record_ranges.specs.declared.stretches.Span.{Span}
use Rattle.record_ranges.specs.declared.stretches.Stretch.{Stretch}
use Rattle.record_ranges.specs.Ranges.{records_between}
use Rattle.record_ranges.specs.Stretches.{stretch_at, Adds, AreChunksBetween, IsJudgedStretch, IsStretchOf, LiesWithin}
use Rattle.record_ranges.proofs.Between.{between-append}

-- two lists of which each meets P
pub each-append : {X : Type 0} (P : X → Type 0) (xs ys : List X) → AllByRecursion P xs → AllByRecursion P ys → AllByRecursion P (xs ++ ys)
each-append P [] ys h g = g
each-append P (x ∷ xs) ys h g = (h.0, each-append P xs ys h.1 g)

-- the bytes between two places, and those up to a third
ranges-append : (file : List ℕ) (a b c : ℕ) → a ≤ b → b ≤ c → slice_range file a b ++ slice_range file b c ≡ slice_range file a c
ranges-append file a b c low high =
    let m : a + (b - a) ≡ b = omega arith in
    let n : b + (c - b) ≡ c = omega arith in
    let whole : a + ((b - a) + (c - b)) ≡ c = omega arith in
    ap (λ (p : ℕ). slice_range file a p ++ slice_range file p c) (sym m)
    ∙ ap (λ (p : ℕ). slice_range file a (a + (b - a)) ++ slice_range file (a + (b - a)) p) (sym n ∙ ap (λ (p : ℕ). p + (c - b)) (sym m))
    ∙ slice_range-append file a (b - a) (c - b)
    ∙ ap (slice_range file a) whole

-- chunks up to a place, and others from there on
pub run-append : (file : List ℕ) (a b c : ℕ) (ks ls : List ChunkValue) (x y : List (List (List ℕ)))
    → AreChunksBetween file a b ks x → AreChunksBetween file b c ls y → AreChunksBetween file a c (ks ++ ls) (x ++ y)
run-append file a b c ks ls x y h g = record {
  each = each-append IsPlain ks ls h.each g.each;
  laid =
      subst (AreLaid a (ks ++ ls))
      (ranges-append file a b c (subst (λ (p : ℕ). a ≤ p) h.end (end_of_chunks_past a ks)) (subst (λ (p : ℕ). b ≤ p) g.end (end_of_chunks_past b ls)))
      (AreLaid-append a ks ls (slice_range file a b) (slice_range file b c) h.laid
      (subst (λ (p : ℕ). AreLaid p ls (slice_range file b c)) (sym h.end) g.laid));
  end = end_of_chunks-append a ks ls ∙ ap (λ (p : ℕ). end_of_chunks p ls) h.end ∙ g.end;
  held = HoldEach-append ks ls x y h.held g.held;
}

-- none at all
nothing_between : (file : List ℕ) (a : ℕ) → slice_range file a a ≡ []
nothing_between file a =
    let none : a - a ≡ 0 = omega arith in
    ap (λ (n : ℕ). take n (drop a file)) none

pub run-none : (file : List ℕ) (a : ℕ) → AreChunksBetween file a a [] []
run-none file a = record { each = tt; laid = nothing_between file a; end = refl; held = refl }

-- a chunk that was judged
pub run-judged : (file : List ℕ) (size place : ℕ) (j : Judged) (held : List (List ℕ)) → IsJudged false size place j → IsJudgedIn false file place j
    → Holds (value_of_chunk j.chunk) held → AreChunksBetween file place j.end (value_of_chunk j.chunk ∷ []) (held ∷ [])
run-judged file size place j held h g holds =
    let k : ChunkValue = value_of_chunk j.chunk in
    let plain : IsPlain k = subst IsPlain (sym g.chunk) (allowed_where_none false file place g.none) in
    let laid : IsLaid place k (slice_range file place j.end) =
    subst (λ (c : ChunkValue). IsLaid place c (slice_range file place j.end)) (sym g.chunk)
    (subst (λ (e : ℕ). IsLaid place (chunk_at file place) (slice_range file place e)) (sym g.end) g.laid) in
    record {
      each = (plain, tt);
      laid = (slice_range file place j.end, [], sym (append-nil (slice_range file place j.end)), laid, refl);
      end = sym h.end;
      held = (holds, refl);
    }

-- records of chunks behind others
pub placed-append : (place : ℕ) (ks ls : List ChunkValue) (x y : List (List (List ℕ))) → HoldEach ks x
    → placed_from place (ks ++ ls) (x ++ y) ≡ placed_from place ks x ++ placed_from (end_of_chunks place ks) ls y
placed-append place [] ls x y h = ap (λ (z : List (List (List ℕ))). placed_from place ls (z ++ y)) h
placed-append place (k ∷ ks) ls [] y h = elim h [ ]
placed-append place (k ∷ ks) ls (records ∷ x) y h =
    ap (λ (ps : List (ℕ × List ℕ)). enumerate_from place records ++ ps) (placed-append (end_of_chunk place k) ks ls x y h.1)
    ∙ sym (append_assoc (enumerate_from place records) (placed_from (end_of_chunk place k) ks x) (placed_from (end_of_chunks (end_of_chunk place k) ks) ls y))

-- and what lies between two places of the records of one chunk more
between-chunk : (from to place end : ℕ) (ks : List ChunkValue) (k : ChunkValue) (x : List (List (List ℕ))) (held : List (List ℕ)) → HoldEach ks x
    → end_of_chunks place ks ≡ end
    → records_between from to (placed_from place ks x) ++ records_between from to (enumerate_from end held)
    ≡ records_between from to (placed_from place (ks ++ k ∷ []) (x ++ held ∷ []))
between-chunk from to place end ks k x held h is =
    sym (between-append from to (placed_from place ks x) (enumerate_from end held))
    ∙ ap (records_between from to) (ap (λ (ps : List (ℕ × List ℕ)). placed_from place ks x ++ ps)
    (ap (λ (p : ℕ). enumerate_from p held) (sym is) ∙ sym (append-nil (enumerate_from (end_of_chunks place ks) held)))
    ∙ sym (placed-append place ks (k ∷ []) x (held ∷ []) h))

-- so what keeps the others keeps those of one chunk more, which begins at a place
pub kept-chunk : {K : Type 0} (kept_as : List (List ℕ) → K) (from to place end at : ℕ) (ks : List ChunkValue) (k : ChunkValue) (x : List (List (List ℕ)))
    (held : List (List ℕ)) (old new : K) → HoldEach ks x → end_of_chunks place ks ≡ end → at ≡ end → old ≡ kept_as (records_between from to (placed_from place ks x))
    → Adds kept_as old new (records_between from to (enumerate_from at held))
    → new ≡ kept_as (records_between from to (placed_from place (ks ++ k ∷ []) (x ++ held ∷ [])))
kept-chunk kept_as from to place end at ks k x held old new h is there before adds =
    adds (records_between from to (placed_from place ks x)) before
    ∙ ap (λ (p : ℕ). kept_as (records_between from to (placed_from place ks x) ++ records_between from to (enumerate_from p held))) there
    ∙ ap kept_as (between-chunk from to place end ks k x held h is)

module _ {K : Type 0} (kept_as : List (List ℕ) → K) where
  -- a stretch of no chunks
  stretch-none : (file : List ℕ) (span : Span) (place : ℕ) → IsJudgedStretch kept_as file span (stretch_at kept_as place)
  stretch-none file span place = record {
    chunks = [];
    lists = [];
    to_last = ([], [], run-none file place);
    to_end = run-none file place;
    kept = refl;
  }

  pub stretch-begun : (bytes : Option (List ℕ)) (span : Span) (place : ℕ) (s : Stretch K) → s ≡ stretch_at kept_as place
      → IfSome bytes (λ file. IsJudgedStretch kept_as file span s)
  stretch-begun None span place s is = tt
  stretch-begun (Some file) span place s is = subst (IsJudgedStretch kept_as file span) (sym is) (stretch-none file span place)

  -- and of one chunk more
  stretch-more : (file : List ℕ) (size : ℕ) (span : Span) (old new : Stretch K) (j : Judged) (held : List (List ℕ)) → IsJudged false size old.end j
      → IsJudgedIn false file old.end j → new.begin ≡ old.begin → new.last ≡ j.begin → new.end ≡ j.end → Holds (value_of_chunk j.chunk) held
      → Adds kept_as old.kept new.kept (records_between span.from span.to (enumerate_from j.begin held))
      → IsJudgedStretch kept_as file span old → IsJudgedStretch kept_as file span new
  stretch-more file size span old new j held h g begin last end holds adds s = record {
    chunks = s.chunks ++ value_of_chunk j.chunk ∷ [];
    lists = s.lists ++ held ∷ [];
    to_last = (
      s.chunks,
      s.lists,
      subst (λ (p : ℕ). AreChunksBetween file new.begin p s.chunks s.lists) (sym (last ∙ h.begin))
          (subst (λ (p : ℕ). AreChunksBetween file p old.end s.chunks s.lists) (sym begin) s.to_end),
    );
    to_end =
        subst (λ (p : ℕ). AreChunksBetween file new.begin p (s.chunks ++ value_of_chunk j.chunk ∷ []) (s.lists ++ held ∷ [])) (sym end)
        (subst (λ (p : ℕ). AreChunksBetween file p j.end (s.chunks ++ value_of_chunk j.chunk ∷ []) (s.lists ++ held ∷ [])) (sym begin)
        (run-append file old.begin old.end j.end s.chunks (value_of_chunk j.chunk ∷ []) s.lists (held ∷ []) s.to_end
        (run-judged file size old.end j held h g holds)));
    kept =
        kept-chunk kept_as span.from span.to old.begin old.end j.begin s.chunks (value_of_chunk j.chunk) s.lists held old.kept new.kept s.to_end.held s.to_end.end
        h.begin s.kept adds
        ∙ ap (λ (p : ℕ). kept_as (records_between span.from span.to (placed_from p (s.chunks ++ value_of_chunk j.chunk ∷ []) (s.lists ++ held ∷ [])))) (sym begin);
  }

  -- the same of a file whose bytes need not be shown
  pub stretch-goes_on : (bytes : Option (List ℕ)) (size : ℕ) (span : Span) (old new : Stretch K) (j : Judged) (held : List (List ℕ)) → IsJudged false size old.end j
      → IfSome bytes (λ file. IsJudgedIn false file old.end j) → new.begin ≡ old.begin → new.last ≡ j.begin → new.end ≡ j.end → Holds (value_of_chunk j.chunk) held
      → Adds kept_as old.kept new.kept (records_between span.from span.to (enumerate_from j.begin held))
      → IfSome bytes (λ file. IsJudgedStretch kept_as file span old → IsJudgedStretch kept_as file span new)
  stretch-goes_on None size span old new j held h g begin last end holds adds = tt
  stretch-goes_on (Some file) size span old new j held h g begin last end holds adds =
      stretch-more file size span old new j held h g begin last end holds adds

  -- a stretch from a chunk that holds the first position of a part on, up to the part's end or past that
  pub stretch-whole : (bytes : Option (List ℕ)) (size begin : ℕ) (span : Span) (s : Stretch K) → IsSized bytes (Some size)
      → begin ≤ span.from → s.begin ≡ begin → span.to ≤ s.end → s.end ≤ size
      → IfSome bytes (λ file. IsJudgedStretch kept_as file span s) → IfSome bytes (λ file. IsStretchOf kept_as file span s)
  stretch-whole None size begin span s sized before from past within judged = tt
  stretch-whole (Some file) size begin span s sized before from past within judged = record {
    judged = judged;
    before = omega (arith, from, before);
    past = past;
    within = omega (arith, within, sized);
  }

  -- or of no chunks at the file's end
  pub stretch-at_end : (bytes : Option (List ℕ)) (size : ℕ) (span : Span) (s : Stretch K) → IsSized bytes (Some size) → LiesWithin size span → size ≤ span.from
      → s ≡ stretch_at kept_as size → IfSome bytes (λ file. IsStretchOf kept_as file span s)
  stretch-at_end None size span s sized lies past is = tt
  stretch-at_end (Some file) size span s sized lies past is =
      subst (IsStretchOf kept_as file span) (sym is)
      (record {
        judged = stretch-none file span size;
        before = omega (arith, past);
        past = omega (arith, lies.1, past);
        within = omega (arith, sized);
      })
