-- The file of pieces is a file of their chunks, and the file of a file's chunks is that file.
use Rattle.std.proofs.Common.{◌≡◌, ◌∙◌, ◌⊎◌, ℕ, ◌<◌, ◌≤◌, Bool, true, false, List, [], ◌∷◌, ◌++◌, length, refl, sym, ap, subst, inl, inr, arith}
use Rattle.std.specs.List.{AllByRecursion}
use Rattle.std.proofs.lemmas.List.{take_all, append-nil}
use Rattle.record_values.specs.Bytes.{AreBytes}
use Rattle.chunk_header.specs.Chunks.{ChunkValue, IsChunk, IsRightChunkHeader}
use Rattle.chunk_header.proofs.RightHeaders.{header_of_right}
use Rattle.chunk_header.proofs.Decided.{lists_decided, equal_decided, true_where_not_false}
use Rattle.meta_chunk.specs.Kinds.{IsSignature, IsPadding}
use Rattle.meta_chunk.specs.Files.{signature, max_data_size, IsWellFormedChunk, AreLaid, IsFileOf, IsReadable, IsWellFormed, Holds, AreRecordsOf, laid_each}
use Rattle.meta_chunk.proofs.LaidChunks.{AreLaid-laid_each}
use Rattle.meta_chunk.proofs.OneLaying.{IsReadable-plain}
use Rattle.meta_chunk.proofs.Chains.{IsChainOf-weaker}
use Rattle.meta_chunk.proofs.Held.{IsSignature-one, AreRecordsOf-append}
use Rattle.chunk_reader.specs.Places.{header_bytes_at, header_at, end_at, chunk_at}
use Rattle.chunk_reader.specs.Reasons.{Applies, NoneOf, content_reasons}
use Rattle.chunk_reader.specs.Faults.{IsAllowed}
use Rattle.chunk_reader.proofs.PassedChunks.{AreBytes-usable_bytes_at, AreBytes-data_at, IsChunk-at, length-data}
use Rattle.chunk_reader.proofs.AllowedChunks.{IsAllowed-passed, IsAllowed-unread_too, allowed_small}
use Rattle.chunk_reader.proofs.NoReasonLaid.{content_where_none}
use Rattle.chunk_reader.proofs.SignedFiles.{IsChunk-signature, IsAllowed-signature}
use Rattle.damage_skip.specs.Pieces.{PieceKind, Records, Kept, SignatureOrPadding, Skipped, Piece, SkipsFor, walk_reasons, IsFoundAs, IsPieceOf, AreTiles, records_of, records_in}
use Rattle.damage_skip.specs.FilePieces.{ArePieces}
use Rattle.damage_skip.specs.Walks.{GoesOn}
use Rattle.damage_skip.proofs.OnePiece.{piece_cases}
use Rattle.damage_skip.proofs.FoundPieces.{file_of_plain, pieces_found}
use Rattle.damage_skip.proofs.FoundRecords.{found_holds, records_in_events}
use Rattle.repair_copy.specs.RepairPuts.{chunk_in, chunks_in}
use Rattle.repair_copy.specs.RelaidFiles.{relaid}
use Rattle.repair_copy.specs.CopiedChunks.{is_copied, copied}
use Rattle.repair_copy.proofs.EventChunks.{chunks_in_events}
use Rattle.repair_copy.proofs.Copied.{found_chunks, found_copied, each_active, copied_all}

-- no reason that passes over content is none that refuses it
content_none : (unread_ok : Bool) (file : List ℕ) (place : ℕ) → NoneOf (SkipsFor file place) (content_reasons unread_ok)
    → NoneOf (Applies file place) (content_reasons unread_ok)
content_none false file place none = none
content_none true file place none = none

-- what isn't past a limit is at most the limit
at_most : (a b : ℕ) → ¬ (a < b) → b ≤ a
at_most a b not = omega arith

-- a header that isn't wrong is right
right_header : (bytes : List ℕ) → ¬ ¬ IsRightChunkHeader bytes → IsRightChunkHeader bytes
right_header bytes not = (
  true_where_not_false (length bytes ≡ 40) (equal_decided (length bytes) 40) (λ differ. not (λ right. differ right.0)),
  true_where_not_false _ (lists_decided bytes _) (λ differ. not (λ right. differ right.1)),
)

module _ (unread_ok : Bool) (file : List ℕ) where
  -- the chunk at a place that no reason passes over is read or left unread, and can be held
  pub allowed_at : (place : ℕ) → NoneOf (SkipsFor file place) (walk_reasons unread_ok) → IsAllowed unread_ok (chunk_at file place)
  allowed_at place (short, (header, (against, (cut, (large, content))))) =
      let whole : end_at file place ≤ length file = at_most (length file) (end_at file place) cut in
      let small : (header_at file place).data_size ≤ max_data_size = at_most max_data_size (header_at file place).data_size large in
      IsAllowed-passed unread_ok (chunk_at file place)
      (subst (λ (n : ℕ). n ≤ max_data_size) (sym (length-data file place whole)) small)
      (content_where_none unread_ok file place (content_none unread_ok file place content))

  pub sound_at : (place : ℕ) → AreBytes file → NoneOf (SkipsFor file place) (walk_reasons unread_ok) → IsChunk (chunk_at file place)
  sound_at place bytes (short, (header, (against, (cut, (large, content))))) =
      let h = header_of_right (header_bytes_at file place) (AreBytes-usable_bytes_at file place 40 bytes)
      (right_header (header_bytes_at file place) header) in
      IsChunk-at file place h.0 h.1 h.2 (at_most (length file) (end_at file place) cut)
      (AreBytes-data_at file place (header_at file place).data_size bytes)

  -- what holds of the chunk of each whole piece holds of the chunks of pieces
  module _ (P : ChunkValue → Type 0)
      (of_whole : (place : ℕ) (what : PieceKind) → NoneOf (SkipsFor file place) (walk_reasons unread_ok)
      → IsFoundAs unread_ok (chunk_at file place) what → AllByRecursion P (chunk_in what)) where
    of_piece : (begin end : ℕ) (what : PieceKind) → IsPieceOf unread_ok file begin end what → AllByRecursion P (chunk_in what)
    of_piece begin end what is =
        elim (piece_cases unread_ok file begin end what is) [
          | inl (w, skipped, first, to) ↦ subst (λ (x : PieceKind). AllByRecursion P (chunk_in x)) (sym skipped) tt
          | inr (none, to, found) ↦ of_whole begin what none found
        ]

    each_before : (what : PieceKind) (ks : List ChunkValue) → AllByRecursion P (chunk_in what) → AllByRecursion P ks → AllByRecursion P (chunk_in what ++ ks)
    each_before (Records records c) ks h rest = (h.0, rest)
    each_before (Kept c) ks h rest = (h.0, rest)
    each_before SignatureOrPadding ks h rest = rest
    each_before (Skipped w) ks h rest = rest

    pub of_tiles : (from to : ℕ) (pieces : List Piece) → AreTiles unread_ok file from to pieces → AllByRecursion P (chunks_in pieces)
    of_tiles from to [] h = tt
    of_tiles from to (p ∷ pieces) (begin, below, is, rest) =
        each_before p.what (chunks_in pieces) (of_piece from p.end p.what is) (of_tiles p.end to pieces rest)

  -- where it holds of each chunk to which no reason applies
  of_chunk : (P : ChunkValue → Type 0) (place : ℕ) (what : PieceKind) → P (chunk_at file place) → IsFoundAs unread_ok (chunk_at file place) what
      → AllByRecursion P (chunk_in what)
  of_chunk P place (Records records c) h (simple, is) = (subst P (sym is) h, tt)
  of_chunk P place (Kept c) h (kept, is) = (subst P (sym is) h, tt)
  of_chunk P place SignatureOrPadding h left_out = tt
  of_chunk P place (Skipped w) h found = tt

  pub tiles_allowed : (from to : ℕ) (pieces : List Piece) → AreTiles unread_ok file from to pieces → AllByRecursion (IsAllowed unread_ok) (chunks_in pieces)
  tiles_allowed = of_tiles (IsAllowed unread_ok) (λ place what none found. of_chunk (IsAllowed unread_ok) place what (allowed_at place none) found)

  pub tiles_sound : AreBytes file → (from to : ℕ) (pieces : List Piece) → AreTiles unread_ok file from to pieces → AllByRecursion IsChunk (chunks_in pieces)
  tiles_sound bytes = of_tiles IsChunk (λ place what none found. of_chunk IsChunk place what (sound_at place bytes none) found)

  pub tiles_copied : (from to : ℕ) (pieces : List Piece) → AreTiles unread_ok file from to pieces
      → AllByRecursion (λ k. is_copied unread_ok k ≡ true) (chunks_in pieces)
  tiles_copied =
      of_tiles (λ k. is_copied unread_ok k ≡ true)
      (λ place what none found. found_copied unread_ok (chunk_at file place) what (allowed_small unread_ok (chunk_at file place) (allowed_at place none)) found)

  -- so the file of pieces is a file of the signature and their chunks
  pub relaid_file : (from to : ℕ) (pieces : List Piece) → AreBytes file → AreTiles unread_ok file from to pieces
      → IsFileOf (IsAllowed unread_ok) (signature ∷ chunks_in pieces) (relaid pieces)
  relaid_file from to pieces bytes h =
      let ks : List ChunkValue = signature ∷ chunks_in pieces in (
        λ e. cc,
        record {
          signed = refl;
          each = (IsAllowed-signature unread_ok, tiles_allowed from to pieces h);
          within = omega arith;
          laid = subst (AreLaid 0 ks) (sym (take_all (length (relaid pieces)) (relaid pieces) (omega arith)))
              (AreLaid-laid_each 0 ks (IsChunk-signature, tiles_sound bytes from to pieces h));
        },
      )

  -- which hold the records of the pieces
  piece_records : (begin end : ℕ) (what : PieceKind) → IsPieceOf unread_ok file begin end what → AreRecordsOf (chunk_in what) (records_of what)
  piece_records begin end (Records records c) (none, to, found) =
      let holds : Holds c records = subst (λ (x : ChunkValue). Holds x records) (sym found.1) (found_holds unread_ok (chunk_at file begin) (Records records c) found) in
      (records ∷ [], (holds, refl), sym (append-nil records))
  piece_records begin end (Kept c) (none, to, found) =
      let holds : Holds c [] = subst (λ (x : ChunkValue). Holds x []) (sym found.1) (found_holds unread_ok (chunk_at file begin) (Kept c) found) in
      ([] ∷ [], (holds, refl), refl)
  piece_records begin end SignatureOrPadding h = ([], refl, refl)
  piece_records begin end (Skipped w) h = ([], refl, refl)

  pub tiles_records : (from to : ℕ) (pieces : List Piece) → AreTiles unread_ok file from to pieces → AreRecordsOf (chunks_in pieces) (records_in pieces)
  tiles_records from to [] h = ([], refl, refl)
  tiles_records from to (p ∷ pieces) (begin, below, is, rest) =
      AreRecordsOf-append (chunk_in p.what) (chunks_in pieces) (records_of p.what) (records_in pieces)
      (piece_records from p.end p.what is) (tiles_records p.end to pieces rest)

  pub relaid_records : (from to : ℕ) (pieces : List Piece) → AreTiles unread_ok file from to pieces
      → AreRecordsOf (signature ∷ chunks_in pieces) (records_in pieces)
  relaid_records from to pieces h =
      let holds : Holds signature [] = found_holds unread_ok signature SignatureOrPadding (inl ((IsSignature-one signature).1 refl)) in
      AreRecordsOf-append (signature ∷ []) (chunks_in pieces) [] (records_in pieces) ([] ∷ [], (holds, refl), refl)
      (tiles_records from to pieces h)

-- a chunk that is allowed is read or left unread
well_formed_allowed : (unread_ok : Bool) (k : ChunkValue) → IsAllowed unread_ok k → IsWellFormedChunk k
well_formed_allowed false k plain = IsAllowed-unread_too k plain
well_formed_allowed true k formed = formed

pub relaid_well_formed : (unread_ok : Bool) (file : List ℕ) (from to : ℕ) (pieces : List Piece) → AreBytes file → AreTiles unread_ok file from to pieces
    → IsWellFormed (signature ∷ chunks_in pieces) (relaid pieces)
relaid_well_formed unread_ok file from to pieces bytes h =
    let is = relaid_file unread_ok file from to pieces bytes h in (is.0, IsChainOf-weaker (well_formed_allowed unread_ok) is.1)

-- so do events from the front of the file
IsFrameOf : List ChunkValue → List (List ℕ) → Type 0
IsFrameOf ks records = IsWellFormed (signature ∷ ks) (laid_each 0 (signature ∷ ks)) × AreRecordsOf (signature ∷ ks) records

pub relaid_walk : (unread_ok : Bool) (file : List ℕ) (place : ℕ) (events : List Piece) → AreBytes file → GoesOn unread_ok file 0 place events
    → IsWellFormed (signature ∷ chunks_in events) (relaid events) × AreRecordsOf (signature ∷ chunks_in events) (records_in events)
unfolding IsFrameOf
relaid_walk unread_ok file place events bytes (pieces, h, are) =
    let whole : IsFrameOf (chunks_in pieces) (records_in pieces) =
    (relaid_well_formed unread_ok file 0 place pieces bytes h, relaid_records unread_ok file 0 place pieces h) in
    let chunks : chunks_in pieces ≡ chunks_in events = sym (chunks_in_events pieces) ∙ ap chunks_in are in
    let records : records_in pieces ≡ records_in events = sym (records_in_events pieces) ∙ ap records_in are in
    subst (λ (ks : List ChunkValue). IsFrameOf ks (records_in events)) chunks
    (subst (IsFrameOf (chunks_in pieces)) records whole)

-- the chunks of a file without fault that its pieces have are those that are copied
pub whole_chunks : (unread_ok : Bool) (ks : List ChunkValue) (file : List ℕ) (pieces : List Piece) → IsFileOf (IsAllowed unread_ok) ks file
    → ArePieces unread_ok file pieces → chunks_in pieces ≡ copied unread_ok ks
whole_chunks unread_ok ks file pieces whole h =
    found_chunks unread_ok 0 ks pieces whole.1.each (pieces_found unread_ok ks file pieces whole h)

-- the signature isn't
behind_signature : (unread_ok : Bool) (ks : List ChunkValue) → copied unread_ok (signature ∷ ks) ≡ copied unread_ok ks
behind_signature unread_ok ks = refl

-- so where the chunks behind it are neither signatures nor padding, the chunks are the same
pub whole_stays : (unread_ok : Bool) (ks : List ChunkValue) (file : List ℕ) (pieces : List Piece) → IsFileOf (IsAllowed unread_ok) (signature ∷ ks) file
    → AllByRecursion (λ k. is_copied unread_ok k ≡ true) ks → ArePieces unread_ok file pieces → relaid pieces ≡ laid_each 0 (signature ∷ ks)
whole_stays unread_ok ks file pieces whole each h =
    ap (λ (xs : List ChunkValue). laid_each 0 (signature ∷ xs))
    (whole_chunks unread_ok (signature ∷ ks) file pieces whole h ∙ behind_signature unread_ok ks ∙ copied_all unread_ok ks each)

pub whole_zero : (unread_ok : Bool) (ks : List ChunkValue) (file : List ℕ) (pieces : List Piece) → IsFileOf (IsAllowed unread_ok) (signature ∷ ks) file
    → AllByRecursion (λ k. ¬ (IsSignature k ⊎ IsPadding k)) ks → ArePieces unread_ok file pieces → relaid pieces ≡ laid_each 0 (signature ∷ ks)
whole_zero unread_ok ks file pieces whole active h =
    whole_stays unread_ok ks file pieces whole (each_active unread_ok ks whole.1.each.1 active) h

pub whole_plain : (unread_ok : Bool) (ks : List ChunkValue) (file : List ℕ) (pieces : List Piece) → IsReadable (signature ∷ ks) file
    → AllByRecursion (λ k. ¬ (IsSignature k ⊎ IsPadding k)) ks → ArePieces unread_ok file pieces → relaid pieces ≡ file
whole_plain unread_ok ks file pieces plain active h =
    whole_zero unread_ok ks file pieces (file_of_plain unread_ok (signature ∷ ks) file plain) active h ∙ sym (IsReadable-plain (signature ∷ ks) file plain)

-- and a file of pieces comes apart in pieces of that file
pub relaid_stays : (unread_ok : Bool) (file : List ℕ) (from to : ℕ) (pieces others : List Piece) → AreBytes file → AreTiles unread_ok file from to pieces
    → ArePieces unread_ok (relaid pieces) others → relaid others ≡ relaid pieces
relaid_stays unread_ok file from to pieces others bytes h again =
    whole_stays unread_ok (chunks_in pieces) (relaid pieces) others (relaid_file unread_ok file from to pieces bytes h)
    (tiles_copied unread_ok file from to pieces h) again
