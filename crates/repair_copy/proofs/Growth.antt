-- A chunk that is laid anew grows by no more than a block header, and so the file of pieces stays small.
use Rattle.std.proofs.Common.{◌≡◌, ◌∙◌, ◌⊎◌, ℕ, ◌+◌, ◌*◌, ◌%◌, ◌<◌, ◌≤◌, max, Bool, List, [], ◌∷◌, length, refl, sym, ap, subst, inl, inr, arith}
use Rattle.std.proofs.lemmas.Bool.{cases_lt}
use Rattle.block_layout.specs.Layout.{end_of, chunk_end_of, boundary_from}
use Rattle.block_layout.proofs.Ends.{end_of-some, end_of_boundary, boundary_from_near, boundary_from_is}
use Rattle.block_layout.proofs.ChunkEnds.{chunk_end_of-opened, chunk_end_of_past_bytes, chunk_end_of_past_records}
use Rattle.chunk_header.specs.Chunks.{ChunkValue}
use Rattle.meta_chunk.specs.Laid.{end_of_chunk}
use Rattle.meta_chunk.specs.Files.{signature, end_of_chunks}
use Rattle.meta_chunk.proofs.Joins.{end_of_chunks-append, end-laid_each}
use Rattle.meta_chunk.proofs.LaidChunks.{end_of_chunk_after}
use Rattle.chunk_reader.specs.Places.{end_at, chunk_at}
use Rattle.chunk_reader.proofs.PassedChunks.{end_of_chunk-at}
use Rattle.chunk_reader.proofs.SignedFiles.{end_of_chunk-signature}
use Rattle.damage_skip.specs.Pieces.{PieceKind, Records, Kept, SignatureOrPadding, Skipped, Piece, IsFoundAs, IsPieceOf, AreTiles}
use Rattle.damage_skip.proofs.OnePiece.{piece_cases, piece_past}
use Rattle.repair_copy.specs.RepairPuts.{chunk_in, chunks_in}
use Rattle.repair_copy.specs.RelaidFiles.{relaid}

-- bytes that begin at another place have at most one block header more between them
end_of_moved : (a b size : ℕ) → 1 ≤ size → end_of b size + a ≤ end_of a size + b + 24
end_of_moved a b size some =
    elim (cases_lt (a % 65536) 24) [
      | inl header ↦ omega (arith, end_of-some a size some, end_of-some b size some)
      | inr usable ↦ omega (arith, end_of-some a size some, end_of-some b size some)
    ]

-- so a chunk from another place has at most as many bytes more
chunk_end_of_moved : (a b size num_records : ℕ) → 1 ≤ size
    → chunk_end_of b size num_records + a ≤ chunk_end_of a size num_records + b + 24
chunk_end_of_moved a b size num_records some =
    let bytes : end_of b size + a ≤ end_of a size + b + 24 = end_of_moved a b size some in
    let past : end_of a size ≤ chunk_end_of a size num_records = chunk_end_of_past_bytes a size num_records in
    let records : a + num_records ≤ chunk_end_of a size num_records = chunk_end_of_past_records a size num_records in
    elim (cases_lt (end_of b size) (b + num_records)) [
      | inl less ↦ omega (
        arith,
        chunk_end_of-opened b size num_records,
        boundary_from_near (max (end_of b size) (b + num_records)),
      )
      | inr more ↦
          let last : max (end_of b size) (b + num_records) ≡ end_of b size = omega arith in
          let same : chunk_end_of b size num_records ≡ end_of b size =
          chunk_end_of-opened b size num_records
          ∙ ap (λ p. boundary_from p) last
          ∙ boundary_from_is (end_of b size) (end_of_boundary b size some) in
          omega arith
    ]

pub end_of_chunk_moved : (a b : ℕ) (k : ChunkValue) → end_of_chunk b k + a ≤ end_of_chunk a k + b + 24
end_of_chunk_moved a b k = chunk_end_of_moved a b (40 + length k.«data») k.num_records (omega arith)

-- which is at most twice as many in all, as a chunk has more than these
pub place_moved : (begin place : ℕ) (k : ChunkValue) → place ≤ 64 + 2 * begin
    → end_of_chunk place k ≤ 64 + 2 * end_of_chunk begin k
place_moved begin place k small = omega (arith, end_of_chunk_moved begin place k, end_of_chunk_after begin k)

-- the chunk of a whole piece is the one at its place, if it has one
one_or_none : (file : List ℕ) (unread_ok : Bool) (place : ℕ) (what : PieceKind) → IsFoundAs unread_ok (chunk_at file place) what
    → (chunk_in what ≡ chunk_at file place ∷ []) ⊎ (chunk_in what ≡ [])
one_or_none file unread_ok place (Records records c) found = inl (ap (λ (x : ChunkValue). x ∷ []) found.1)
one_or_none file unread_ok place (Kept c) found = inl (ap (λ (x : ChunkValue). x ∷ []) found.1)
one_or_none file unread_ok place SignatureOrPadding found = inr refl
one_or_none file unread_ok place (Skipped w) found = inr refl

-- so a piece moves the place where the next chunk is laid by at most twice its size
piece_moved : (unread_ok : Bool) (file : List ℕ) (begin end place : ℕ) (what : PieceKind) → begin < length file
    → place ≤ 64 + 2 * begin → IsPieceOf unread_ok file begin end what → end_of_chunks place (chunk_in what) ≤ 64 + 2 * end
piece_moved unread_ok file begin end place what below small is =
    let stays : end_of_chunks place [] ≤ 64 + 2 * end = omega (arith, (piece_past unread_ok file begin end what below is).past) in
    let bounded : (ks : List ChunkValue) → Type 0 = λ ks. end_of_chunks place ks ≤ 64 + 2 * end in
    elim (piece_cases unread_ok file begin end what is) [
      | inl (w, skipped, first, to) ↦ subst bounded (sym (ap chunk_in skipped)) stays
      | inr (none, to, found) ↦ elim (one_or_none file unread_ok begin what found) [
        | inl one ↦
            let fits : end_at file begin ≤ length file = omega (arith, none.1.1.1.0) in
            let moved : end_of_chunk place (chunk_at file begin) ≤ 64 + 2 * end_of_chunk begin (chunk_at file begin) =
            place_moved begin place (chunk_at file begin) small in
            subst bounded (sym one) (omega (arith, moved, end_of_chunk-at file begin fits, to))
        | inr no_chunk ↦ subst bounded (sym no_chunk) stays
      ]
    ]

tiles_moved : (unread_ok : Bool) (file : List ℕ) (from to place : ℕ) (pieces : List Piece)
    → place ≤ 64 + 2 * from → AreTiles unread_ok file from to pieces → end_of_chunks place (chunks_in pieces) ≤ 64 + 2 * to
tiles_moved unread_ok file from to place [] small h = omega (arith, h)
tiles_moved unread_ok file from to place (p ∷ pieces) small (begin, below, is, rest) =
    omega (
      arith,
      end_of_chunks-append place (chunk_in p.what) (chunks_in pieces),
      tiles_moved unread_ok file p.end to (end_of_chunks place (chunk_in p.what)) pieces
          (piece_moved unread_ok file from p.end place p.what below small is) rest,
    )

-- and the file of pieces has at most twice as many bytes, behind the signature
pub relaid_small : (unread_ok : Bool) (file : List ℕ) (place : ℕ) (pieces : List Piece) → AreTiles unread_ok file 0 place pieces
    → length (relaid pieces) ≤ 64 + 2 * place
relaid_small unread_ok file place pieces h =
    omega (
      arith,
      end-laid_each 0 (signature ∷ chunks_in pieces),
      ap (λ (x : ℕ). end_of_chunks x (chunks_in pieces)) end_of_chunk-signature,
      tiles_moved unread_ok file 0 place 64 pieces (omega arith) h,
    )
