-- A file without fault is walked chunk by chunk: each is found intact.
use Rattle.std.proofs.Common.{◌≡◌, ◌∙◌, ℕ, ◌+◌, ◌*◌, ◌-◌, ◌<◌, ◌≤◌, ◌^◌, max, Bool, true, false, List, [], ◌∷◌, ◌++◌, length, take, drop, refl, sym, ap, subst, inl, inr, arith}
use Rattle.std.specs.Prelude.{slice_range}
use Rattle.std.specs.List.{AllByRecursion}
use Rattle.std.proofs.lemmas.List.{take_at, drop_at, drop-drop, take_all, length-append, length-drop}
use Rattle.highway_hash.proofs.ByteWords.{word}
use Rattle.block_layout.specs.Layout.{room, end_of, chunk_end_of}
use Rattle.block_layout.specs.BlockHeaders.{StandsAt}
use Rattle.block_layout.proofs.Room.{room-closed}
use Rattle.block_layout.proofs.Ends.{end_of_least, boundary_from_near}
use Rattle.block_layout.proofs.ChunkEnds.{chunk_end_of-opened}
use Rattle.block_layout.proofs.BlockHeaders.{header_previous, header_next}
use Rattle.chunk_header.specs.Chunks.{ChunkValue}
use Rattle.meta_chunk.specs.Laid.{IsLaid, end_of_chunk}
use Rattle.meta_chunk.specs.Files.{AreLaid, IsFileOf, IsReadable}
use Rattle.meta_chunk.proofs.LaidChunks.{end_of_chunk_after, end-IsLaid}
use Rattle.meta_chunk.proofs.Chains.{IsChainOf-weaker}
use Rattle.chunk_reader.specs.Places.{end_at, HasHeaderOf}
use Rattle.chunk_reader.specs.Reasons.{Applies, NoneOf, content_reasons}
use Rattle.chunk_reader.specs.Faults.{IsAllowed}
use Rattle.chunk_reader.proofs.Blocks.{stands_previous, stands_next}
use Rattle.chunk_reader.proofs.AllowedChunks.{allowed_small, IsAllowed-unread_too}
use Rattle.chunk_reader.proofs.LaidAt.{chunk_at-laid, end_at-laid, headers-laid}
use Rattle.chunk_reader.proofs.NoReason.{no_reason, none_is_first}
use Rattle.damage_skip.specs.Resyncs.{Contradicts}
use Rattle.damage_skip.specs.Pieces.{PieceKind, Piece, SkipsFor, walk_reasons, IsFoundAs, IsPieceOf, AreTiles}
use Rattle.damage_skip.specs.FilePieces.{ArePieces, AreFound}
use Rattle.damage_skip.proofs.OnePiece.{piece_cases}

-- an end isn't far from the bytes before it
room_of_twice : (begin size : ℕ) → size ≤ room begin (begin + 2 * size + 65536)
room_of_twice begin size = omega (arith, room-closed begin (begin + 2 * size + 65536))

end_of_near : (begin size : ℕ) → end_of begin size ≤ begin + 2 * size + 65536
end_of_near begin size = end_of_least begin size (begin + 2 * size + 65536) (omega arith) (room_of_twice begin size)

chunk_end_of_near : (begin size num_records : ℕ) → chunk_end_of begin size num_records ≤ begin + 2 * size + num_records + 65560
chunk_end_of_near begin size num_records =
    omega (arith, chunk_end_of-opened begin size num_records, end_of_near begin size, boundary_from_near (max (end_of begin size) (begin + num_records)))

-- so the end of a chunk that is read or left unread can be said in a block header
pub end_in_reach : (unread_ok : Bool) (place : ℕ) (k : ChunkValue) (file : List ℕ) (end : ℕ) → IsLaid place k (slice_range file place end) → IsAllowed unread_ok k
    → end_at file place < place + 2 ^ 64
end_in_reach unread_ok place k file end h allowed =
    let same : end_at file place ≡ end_of_chunk place k = end_at-laid place k file end h in
    let small : length k.«data» ≤ 2 ^ 26 = allowed_small unread_ok k allowed in
    let few : k.num_records < 2 ^ 56 = h.chunk.num_records in
    omega (arith, chunk_end_of_near place (40 + length k.«data») k.num_records)

-- its block headers say its own begin and end
pub says_own : (file : List ℕ) (begin end block previous next : ℕ) → begin ≤ block → block < end → end < begin + 2 ^ 64
    → HasHeaderOf file begin end block → StandsAt file block previous next → (block - previous ≡ begin) × (block + next ≡ end)
says_own file begin end block previous next from below near has stands =
    let bytes : List ℕ = slice_range file block (block + 24) in
    let p : word bytes 8 ≡ block - begin = header_previous bytes (block - begin) (end - block) (omega arith) has in
    let n : word bytes 16 ≡ end - block = header_next bytes (block - begin) (end - block) (omega arith) has in
    let back : previous ≡ word bytes 8 = stands_previous file block previous next stands in
    let on : next ≡ word bytes 16 = stands_next file block previous next stands in
    (omega arith, omega arith)

pub agrees : (file : List ℕ) (begin end block previous next : ℕ) → begin ≤ block → block < end → end < begin + 2 ^ 64
    → HasHeaderOf file begin end block → ¬ Contradicts file begin end block previous next
agrees file begin end block previous next from below near has h =
    let own = says_own file begin end block previous next from below near has h.stands in
    elim h.differs [ inl other ↦ other own.0 | inr other ↦ other own.1 ]

not_contradicted : (unread_ok : Bool) (place : ℕ) (k : ChunkValue) (file : List ℕ) (end : ℕ) → IsLaid place k (slice_range file place end) → IsAllowed unread_ok k
    → ¬ ((block previous next : ℕ) × Contradicts file place (end_at file place) block previous next)
not_contradicted unread_ok place k file end h allowed (block, previous, next, against) =
    agrees file place (end_at file place) block previous next against.from against.below (end_in_reach unread_ok place k file end h allowed)
    (headers-laid place k file end h block against.stands.is_block against.from against.below) against

-- so no reason passes over it
content_kept : (unread_ok : Bool) (file : List ℕ) (place : ℕ) → NoneOf (Applies file place) (content_reasons unread_ok)
    → NoneOf (SkipsFor file place) (content_reasons unread_ok)
content_kept false file place none = none
content_kept true file place none = none

pub none_passes_over : (unread_ok : Bool) (place : ℕ) (k : ChunkValue) (file : List ℕ) (end : ℕ)
    → IsLaid place k (slice_range file place end) → IsAllowed unread_ok k
    → NoneOf (SkipsFor file place) (walk_reasons unread_ok)
none_passes_over unread_ok place k file end h allowed =
    let none = no_reason unread_ok place k file end h allowed in
    (none.0, (none.1.0, (not_contradicted unread_ok place k file end h allowed, (none.1.1.0, (none.1.1.1.0, content_kept unread_ok file place none.1.1.1.1.1)))))

-- and the piece there is the chunk
pub found_laid : (unread_ok : Bool) (place : ℕ) (k : ChunkValue) (file : List ℕ) (end : ℕ) → IsLaid place k (slice_range file place end) → IsAllowed unread_ok k
    → (to : ℕ) (what : PieceKind) → IsPieceOf unread_ok file place to what → (to ≡ end_of_chunk place k) × IsFoundAs unread_ok k what
found_laid unread_ok place k file end h allowed to what is =
    elim (piece_cases unread_ok file place to what is) [
      | inl (w, same, first, at) ↦
          absurd (none_is_first (SkipsFor file place) (walk_reasons unread_ok) w (none_passes_over unread_ok place k file end h allowed) first)
      | inr whole ↦ (
        whole.1 ∙ end_at-laid place k file end h,
        subst (λ (x : ChunkValue). IsFoundAs unread_ok x what) (chunk_at-laid place k file end h) whole.2,
      )
    ]

-- the bytes of the first of chunks that are laid to the end of a file
front_laid : (file : List ℕ) (from : ℕ) (k : ChunkValue) (front rest : List ℕ) → drop from file ≡ front ++ rest → IsLaid from k front
    → IsLaid from k (slice_range file from (from + length front)) × (rest ≡ drop (from + length front) file)
front_laid file from k front rest parts laid =
    let size : from + length front - from ≡ length front = omega arith in
    let same : slice_range file from (from + length front) ≡ front =
    ap (λ (n : ℕ). take n (drop from file)) size ∙ ap (take (length front)) parts ∙ take_at front rest (length front) refl in (
      subst (IsLaid from k) (sym same) laid,
      sym (ap (drop (length front)) parts ∙ drop_at front rest (length front) refl) ∙ drop-drop (length front) from file,
    )

-- so the pieces are the chunks
pub tiles_found : (unread_ok : Bool) (file : List ℕ) (from : ℕ) (ks : List ChunkValue) (pieces : List Piece) → from ≤ length file
    → AllByRecursion (IsAllowed unread_ok) ks → AreLaid from ks (drop from file) → AreTiles unread_ok file from (length file) pieces
    → AreFound unread_ok from ks pieces
tiles_found unread_ok file from [] [] inside each laid h = refl
tiles_found unread_ok file from [] (p ∷ pieces) inside each laid (begin, below, is, rest) =
    absurd (omega (arith, ap length laid, length-drop from file))
tiles_found unread_ok file from (k ∷ ks) [] inside each (front, rest, parts, first, behind) h =
    absurd (omega (
      arith,
      ap length parts,
      length-append front rest,
      length-drop from file,
      end-IsLaid from k front first,
      end_of_chunk_after from k,
    ))
tiles_found unread_ok file from (k ∷ ks) (p ∷ pieces) inside each (front, rest, parts, first, behind) (begin, below, is, on) =
    let here = front_laid file from k front rest parts first in
    let found = found_laid unread_ok from k file (from + length front) here.0 each.0 p.end p.what is in
    let end : from + length front ≡ end_of_chunk from k = end-IsLaid from k front first in
    let within : from + length front ≤ length file = omega (
      arith,
      ap length parts,
      length-append front rest,
      length-drop from file,
    ) in
    let laid : AreLaid (end_of_chunk from k) ks (drop (end_of_chunk from k) file) =
    subst (λ (x : ℕ). AreLaid x ks (drop x file)) end (subst (λ (xs : List ℕ). AreLaid (from + length front) ks xs) here.1 behind) in (
      begin,
      found.0,
      found.1,
      tiles_found unread_ok file (end_of_chunk from k) ks pieces (omega arith) each.1 laid
          (subst (λ (x : ℕ). AreTiles unread_ok file x (length file) pieces) found.0 on),
    )

pub pieces_found : (unread_ok : Bool) (ks : List ChunkValue) (file : List ℕ) (pieces : List Piece)
    → IsFileOf (IsAllowed unread_ok) ks file → ArePieces unread_ok file pieces → AreFound unread_ok 0 ks pieces
pieces_found unread_ok ks file pieces (some, chain) h =
    let laid : AreLaid 0 ks file = subst (AreLaid 0 ks) (take_all (length file) file (omega arith)) chain.laid in
    tiles_found unread_ok file 0 ks pieces (omega arith) chain.each laid h

-- plain chunks are allowed whether unread ones are kept or not
allowed_plain : (unread_ok : Bool) (k : ChunkValue) → IsAllowed false k → IsAllowed unread_ok k
allowed_plain false k plain = plain
allowed_plain true k plain = IsAllowed-unread_too k plain

pub file_of_plain : (unread_ok : Bool) (ks : List ChunkValue) (file : List ℕ) → IsReadable ks file → IsFileOf (IsAllowed unread_ok) ks file
file_of_plain unread_ok ks file (some, chain) = (some, IsChainOf-weaker (allowed_plain unread_ok) chain)
