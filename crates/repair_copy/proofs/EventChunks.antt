-- The events of pieces have their chunks.
use Rattle.std.proofs.Common.{◌≡◌, ◌∙◌, false, List, [], ◌∷◌, ◌++◌, refl, sym, ap, inl, inr, ℕ, length, append-nil, arith}
use Rattle.std.proofs.lemmas.Bool.{cases_Bool, cond-true, cond-false}
use Rattle.std.proofs.lemmas.Grind.{flat_map-append}
use Rattle.chunk_header.specs.Chunks.{ChunkValue}
use Rattle.chunk_header.specs.SimpleChunks.{IsSimpleChunk}
use Rattle.chunk_header.proofs.Decided.{IsDecided}
use Rattle.chunk_header.proofs.DecidedRecords.{records_decided}
use Rattle.meta_chunk.specs.Files.{signature, end_of_chunks, laid_each}
use Rattle.meta_chunk.proofs.Joins.{laid_each-append, end-laid_each}
use Rattle.damage_skip.specs.Pieces.{PieceKind, Records, Kept, SignatureOrPadding, Skipped, Piece, is_event, events_in}
use Rattle.damage_skip.specs.Steps.{kept_as, kept_by}
use Rattle.repair_copy.specs.RepairPuts.{chunk_in, chunks_in}
use Rattle.repair_copy.specs.RelaidFiles.{relaid}

-- a piece that is no event has no chunk
no_event_no_chunk : (what : PieceKind) → is_event what ≡ false → chunk_in what ≡ []
no_event_no_chunk (Records records c) h = cc
no_event_no_chunk (Kept c) h = cc
no_event_no_chunk SignatureOrPadding h = refl
no_event_no_chunk (Skipped w) h = refl

pub chunks_in_events : (pieces : List Piece) → chunks_in (events_in pieces) ≡ chunks_in pieces
chunks_in_events [] = refl
chunks_in_events (p ∷ pieces) =
    elim (cases_Bool (is_event p.what)) [
      | inl event ↦
          ap chunks_in (cond-true (is_event p.what) (p ∷ events_in pieces) (events_in pieces) event)
          ∙ ap (λ (xs : List ChunkValue). chunk_in p.what ++ xs) (chunks_in_events pieces)
      | inr other ↦
          ap chunks_in (cond-false (is_event p.what) (p ∷ events_in pieces) (events_in pieces) other)
          ∙ chunks_in_events pieces
          ∙ ap (λ (xs : List ChunkValue). xs ++ chunks_in pieces) (sym (no_event_no_chunk p.what other))
    ]

-- and those of more pieces are behind
pub chunks_in-append : (ps qs : List Piece) → chunks_in (ps ++ qs) ≡ chunks_in ps ++ chunks_in qs
chunks_in-append ps qs = flat_map-append (λ (p : Piece). chunk_in p.what) ps qs

-- so events are the same file
pub relaid_events : (pieces : List Piece) → relaid (events_in pieces) ≡ relaid pieces
relaid_events pieces = ap (λ (ks : List ChunkValue). laid_each 0 (signature ∷ ks)) (chunks_in_events pieces)

-- and the file of more pieces begins with that of the first
pub relaid-append : (ps qs : List Piece) → relaid (ps ++ qs) ≡ relaid ps ++ laid_each (length (relaid ps)) (chunks_in qs)
relaid-append ps qs =
    let ks : List ChunkValue = signature ∷ chunks_in ps in
    let end : end_of_chunks 0 ks ≡ length (relaid ps) = omega (arith, end-laid_each 0 ks) in
    ap (λ (xs : List ChunkValue). laid_each 0 (signature ∷ xs)) (chunks_in-append ps qs)
    ∙ laid_each-append 0 ks (chunks_in qs)
    ∙ ap (λ (n : ℕ). relaid ps ++ laid_each n (chunks_in qs)) end

-- one piece more adds its chunk, if it has one, where the file of the others ends
pub relaid-push : (pieces : List Piece) (piece : Piece)
    → relaid (pieces ++ piece ∷ []) ≡ relaid pieces ++ laid_each (length (relaid pieces)) (chunk_in piece.what)
relaid-push pieces piece =
    relaid-append pieces (piece ∷ [])
    ∙ ap (λ (ks : List ChunkValue). relaid pieces ++ laid_each (length (relaid pieces)) ks) (append-nil (chunk_in piece.what))

-- a chunk that is kept is that of its piece, also where it was only judged that records stand in it
chunk_by : (k : ChunkValue) (d : IsDecided (IsSimpleChunk k)) → chunk_in (kept_by k d) ≡ k ∷ []
chunk_by k (inl (records, simple)) = refl
chunk_by k (inr none) = refl

pub kept_chunk : (k : ChunkValue) → chunk_in (kept_as k) ≡ k ∷ []
kept_chunk k = chunk_by k (records_decided k)
