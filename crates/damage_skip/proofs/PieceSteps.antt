-- The steps by which the piece at a place of a file is found, where the bytes of the file may be shown.
use Rattle.std.proofs.Common.{◌≡◌, ◌∙◌, ℕ, ◌+◌, ◌^◌, ◌<◌, ◌≤◌, Bool, true, false, inl, inr, Option, Some, None, IfSome, List, [], ◌∷◌, length, refl, sym, ap, subst, arith}
use Rattle.std.specs.List.{AllByRecursion}
use Rattle.block_layout.proofs.ChunkEnds.{chunk_end_of_boundary, chunk_end_of_above}
use Rattle.block_layout.specs.Layout.{IsBoundary}
use Rattle.chunk_header.specs.Chunks.{ChunkValue, HeaderValue, IsChunk}
use Rattle.chunk_header.specs.SimpleChunks.{IsSimpleChunk}
use Rattle.chunk_header.proofs.Decided.{IsDecided}
use Rattle.chunk_header.proofs.DecidedRecords.{records_decided}
use Rattle.chunk_header.specs.declared.Header.{Header}
use Rattle.chunk_header.specs.declared.Chunk.{Chunk}
use Rattle.chunk_header.specs.Views.{IsHeader, value_of_header, value_of, value_of_chunk}
use Rattle.meta_chunk.specs.Files.{is_unread, max_data_size}
use Rattle.meta_chunk.specs.Laid.{end_of_chunk}
use Rattle.chunk_reader.specs.Heads.{IsHead}
use Rattle.chunk_reader.specs.Places.{header_at, end_by, end_at, chunk_at, data_at}
use Rattle.chunk_reader.specs.Reasons.{Applies, ContentApplies, NoneOf, IsFirstOf, header_reasons, loading_reasons, content_reasons}
use Rattle.chunk_reader.specs.declared.heads.Head.{Head}
use Rattle.chunk_reader.specs.declared.heads.Head.TheVariants as head
use Rattle.chunk_reader.specs.declared.reasons.Why.{Why}
use Rattle.chunk_reader.specs.declared.reasons.Why.TheVariants as why
use Rattle.chunk_reader.proofs.Blocks.{stands_within}
use Rattle.chunk_reader.proofs.PassedChunks.{header_at-header}
use Rattle.chunk_reader.proofs.Rooms.{IsSized}
use Rattle.chunk_reader.proofs.StrictSteps.{right_hash}
use Rattle.chunk_reader.proofs.Verdicts.{first_behind, none_behind, value_of-at, end_by-at, hash_of-at, is_unread-plain, is_unread-unread}
use Rattle.chunk_reader.proofs.WholeHeads.{HasRightHead, none_loading, none_unpassed}
use Rattle.damage_skip.specs.Pieces as pieces
use Rattle.damage_skip.specs.Pieces.{SkipsFor, SkipsTo, IsPieceOf, walk_reasons}
use Rattle.damage_skip.specs.Resyncs.{IsResync, Contradicts}
use Rattle.damage_skip.specs.Steps.{LeadsTo, IsEndOf, IsOnward, HasIntact, IsKeptAs, IsReadAs, IsUnloaded, IsPieceFrom, IsPieceThere, kept_as, kept_by, value_of_found}
use Rattle.damage_skip.specs.declared.pieces.NextPiece.{NextPiece}
use Rattle.damage_skip.specs.declared.progress.Progress.{Progress}
use Rattle.damage_skip.proofs.KeptChunks.{compressed_holds_none}
use Rattle.damage_skip.specs.declared.pieces.Found.{Found}
use Rattle.damage_skip.specs.declared.pieces.Found.TheVariants as what

-- bytes that are passed over up to a place
abbrev pub IsSkipped : NextPiece → ℕ → Why → Type 0
IsSkipped piece to w = piece ≡ record { end = to; what = what.Skipped w }

skipped_there : (unread_ok : Bool) (file : List ℕ) (at to : ℕ) (w : Why) (piece : NextPiece) → IsSkipped piece to w
    → IsPieceOf unread_ok file at to (pieces.Skipped w) → IsPieceThere unread_ok at piece file
skipped_there unread_ok file at to w piece is there = subst (λ (p : NextPiece). IsPieceThere unread_ok at p file) (sym is) there

-- no whole header
pub short_piece : (bytes now : Option (List ℕ)) (unread_ok : Bool) (at to : ℕ) (found : Head) (piece : NextPiece) → now ≡ bytes → found ≡ head.Short
    → IsSkipped piece to why.Short → IfSome bytes (λ file. IsHead file at found) → IfSome now (λ file. IsResync file at to)
    → IfSome bytes (IsPieceThere unread_ok at piece)
short_piece None now unread_ok at to found piece same short is there resync = tt
short_piece (Some file) None unread_ok at to found piece same short is there resync = cc
short_piece (Some file) (Some other) unread_ok at to found piece same short is there resync =
    let same_file : other ≡ file = cc in
    skipped_there unread_ok file at to why.Short piece is
    (inl (subst (IsHead file at) short there, refl), subst (λ (f : List ℕ). IsResync f at to) same_file resync)

-- a header of another hash than its own
pub bad_hash_piece : (bytes now : Option (List ℕ)) (unread_ok : Bool) (at to : ℕ) (found : Head) (piece : NextPiece) → now ≡ bytes → found ≡ head.BadHash
    → IsSkipped piece to why.HeaderHash → IfSome bytes (λ file. IsHead file at found) → IfSome now (λ file. IsResync file at to)
    → IfSome bytes (IsPieceThere unread_ok at piece)
bad_hash_piece None now unread_ok at to found piece same bad is there resync = tt
bad_hash_piece (Some file) None unread_ok at to found piece same bad is there resync = cc
bad_hash_piece (Some file) (Some other) unread_ok at to found piece same bad is there resync =
    let same_file : other ≡ file = cc in
    let wrong : IsHead file at head.BadHash = subst (IsHead file at) bad there in
    skipped_there unread_ok file at to why.HeaderHash piece is
    (inr (wrong.0, inl (wrong.1, refl)), subst (λ (f : List ℕ). IsResync f at to) same_file resync)

-- each block that contradicts a chunk lies below a place
abbrev ContradictBelow : List ℕ → (at to : ℕ) → Type 0
ContradictBelow file at to = (b p n : ℕ) → Contradicts file at (end_at file at) b p n → b < to

-- where none does up to there, none does
none_contradicts : (file : List ℕ) (at to : ℕ) → ContradictBelow file at to → LeadsTo file at (end_at file at) at to None
    → ¬ SkipsFor file at why.Contradicted
none_contradicts file at to below none (b, p, n, h) = none b p n (record { contradicts = h; from_place = h.from; below = below b p n h })

-- and the first one up to there is the first of all
contradicted_there : (unread_ok : Bool) (file : List ℕ) (at to place : ℕ) → NoneOf (Applies file at) header_reasons → ContradictBelow file at to
    → LeadsTo file at (end_at file at) at to (Some place) → IsPieceOf unread_ok file at place (pieces.Skipped why.Contradicted)
contradicted_there unread_ok file at to place right below (b, p, n, first, leads) = (
  inr (right.0, inr (right.1.0, inl ((b, p, n, first.holds.contradicts), refl))),
  (
    b,
    p,
    n,
    record {
      holds = first.holds.contradicts;
      first = λ c q m h. first.first c q m (record { contradicts = h; from_place = h.from; below = below c q m h });
    },
    leads,
  ),
)

-- a chunk whose data isn't read
unloaded_there : (unread_ok : Bool) (file : List ℕ) (at to : ℕ) (w : Why) (piece : NextPiece) → NoneOf (Applies file at) header_reasons
    → ContradictBelow file at to → ((¬ SkipsFor file at why.Contradicted) → IsPieceOf unread_ok file at to (pieces.Skipped w))
    → IsUnloaded file at (end_at file at) to w piece → IsPieceThere unread_ok at piece file
unloaded_there unread_ok file at to w piece right below otherwise (inl (is, leads)) =
    subst (λ (x : Found). IsPieceOf unread_ok file at piece.end (value_of_found x)) (sym is)
    (contradicted_there unread_ok file at to piece.end right below leads)
unloaded_there unread_ok file at to w piece right below otherwise (inr (is, ends, none)) =
    subst (λ (x : Found). IsPieceOf unread_ok file at piece.end (value_of_found x)) (sym is)
    (subst (λ (e : ℕ). IsPieceOf unread_ok file at e (pieces.Skipped w)) (sym ends) (otherwise (none_contradicts file at to below none)))

pub unloaded_landing : (bytes : Option (List ℕ)) (begin end to place : ℕ) (w : Why) (piece : NextPiece) → IsSkipped piece place why.Contradicted
    → IfSome bytes (λ file. LeadsTo file begin end begin to (Some place)) → IfSome bytes (λ file. IsUnloaded file begin end to w piece)
unloaded_landing None begin end to place w piece is first = tt
unloaded_landing (Some file) begin end to place w piece is first =
    subst (λ (p : NextPiece). IsUnloaded file begin end to w p) (sym is) (inl (refl, first))

pub unloaded_none : (bytes : Option (List ℕ)) (begin end to : ℕ) (w : Why) (piece : NextPiece) → IsSkipped piece to w
    → IfSome bytes (λ file. LeadsTo file begin end begin to None) → IfSome bytes (λ file. IsUnloaded file begin end to w piece)
unloaded_none None begin end to w piece is none = tt
unloaded_none (Some file) begin end to w piece is none = subst (λ (p : NextPiece). IsUnloaded file begin end to w p) (sym is) (inr (refl, refl, none))

-- such a piece ends further on
pub skipped_onward : (walk : Progress) (to : ℕ) (w : Why) (piece : NextPiece) → IsSkipped piece to w → IsOnward walk.size walk.place to
    → IsPieceFrom walk piece
skipped_onward walk to w piece is onward = subst (IsPieceFrom walk) (sym is) (record { onward = onward; intact = tt })

-- a chunk that the file doesn't have to its end
pub truncated_piece : (bytes : Option (List ℕ)) (unread_ok : Bool) (size at : ℕ) (h : Header) (piece : NextPiece) → IsSized bytes (Some size) → IsHeader h
    → IfSome bytes (HasRightHead h at) → size < end_by at (value_of_header h)
    → IfSome bytes (λ file. IsUnloaded file at (end_by at (value_of_header h)) size why.Truncated piece)
    → IfSome bytes (IsPieceThere unread_ok at piece)
truncated_piece None unread_ok size at h piece sized fits right past unloaded = tt
truncated_piece (Some file) unread_ok size at h piece sized fits right past unloaded =
    let ends : end_by at (value_of_header h) ≡ end_at file at = end_by-at file at h fits right.1 in
    let cut : Applies file at why.Truncated = omega (arith, ends, past, sized) in
    unloaded_there unread_ok file at size why.Truncated piece right.0
    (λ b p n c. omega (arith, sized, stands_within file b p n c.stands))
    (λ none. (inr (right.0.0, inr (right.0.1.0, inr (none, inl (cut, refl)))), sized))
    (subst (λ (e : ℕ). IsUnloaded file at e size why.Truncated piece) ends unloaded)

-- the size of its data, as the header says
pub says_size : (file : List ℕ) (at : ℕ) (h : Header) → IsHeader h → HasRightHead h at file → h.data_size ≡ (header_at file at).data_size
says_size file at h fits right = ap (λ (v : HeaderValue). v.data_size) (sym (header_at-header file at h fits right.1))

-- a chunk that has too much data
pub too_large_piece : (bytes : Option (List ℕ)) (unread_ok : Bool) (size at end : ℕ) (h : Header) (piece : NextPiece) → IsSized bytes (Some size) → IsHeader h
    → IfSome bytes (HasRightHead h at) → end ≡ end_by at (value_of_header h) → end ≤ size → max_data_size < h.data_size
    → IfSome bytes (λ file. IsUnloaded file at end end why.TooLarge piece)
    → IfSome bytes (IsPieceThere unread_ok at piece)
too_large_piece None unread_ok size at end h piece sized fits right is within large unloaded = tt
too_large_piece (Some file) unread_ok size at end h piece sized fits right is within large unloaded =
    let ends : end ≡ end_at file at = is ∙ end_by-at file at h fits right.1 in
    let whole : ¬ Applies file at why.Truncated = λ cut. absurd (omega (arith, ends, within, sized, cut)) in
    let applies : Applies file at why.TooLarge = subst (λ (v : ℕ). max_data_size < v) (says_size file at h fits right) large in
    unloaded_there unread_ok file at end why.TooLarge piece right.0
    (λ b p n c. omega (arith, ends, c.below))
    (λ none. (inr (right.0.0, inr (right.0.1.0, inr (none, inr (whole, inl (applies, refl))))), ends))
    (subst (λ (e : ℕ). IsUnloaded file at e end why.TooLarge piece) ends unloaded)

-- a chunk of which a block within tells otherwise
pub contradicted_piece : (bytes : Option (List ℕ)) (unread_ok : Bool) (at end place : ℕ) (h : Header) (piece : NextPiece) → IsHeader h
    → IfSome bytes (HasRightHead h at) → end ≡ end_by at (value_of_header h) → IsSkipped piece place why.Contradicted
    → IfSome bytes (λ file. LeadsTo file at end at end (Some place))
    → IfSome bytes (IsPieceThere unread_ok at piece)
contradicted_piece None unread_ok at end place h piece fits right is skipped first = tt
contradicted_piece (Some file) unread_ok at end place h piece fits right is skipped first =
    let ends : end ≡ end_at file at = is ∙ end_by-at file at h fits right.1 in
    skipped_there unread_ok file at place why.Contradicted piece skipped
    (contradicted_there unread_ok file at end place right.0 (λ b p n c. omega (arith, ends, c.below))
    (subst (λ (e : ℕ). LeadsTo file at e at end (Some place)) ends first))

-- the reasons before those of content
abbrev early_reasons : List Why
early_reasons = why.Short ∷ why.HeaderHash ∷ why.Contradicted ∷ why.Truncated ∷ why.TooLarge ∷ []

early_none : (file : List ℕ) (at : ℕ) → NoneOf (Applies file at) loading_reasons → ¬ SkipsFor file at why.Contradicted
    → NoneOf (SkipsFor file at) early_reasons
early_none file at none agrees = (none.0, (none.1.0, (agrees, (none.1.1.0, (none.1.1.1.0, tt)))))

-- a reason of content passes over the chunk at a place
content_passes : (unread_ok : Bool) (file : List ℕ) (at : ℕ) (first : Why)
    → IsFirstOf (ContentApplies (header_at file at).data_hash (chunk_at file at)) (content_reasons unread_ok) first
    → IsFirstOf (SkipsFor file at) (content_reasons unread_ok) first
content_passes false file at first is = is
content_passes true file at first is = is

content_none : (unread_ok : Bool) (file : List ℕ) (at : ℕ)
    → NoneOf (ContentApplies (header_at file at).data_hash (chunk_at file at)) (content_reasons unread_ok)
    → NoneOf (SkipsFor file at) (content_reasons unread_ok)
content_none false file at none = none
content_none true file at none = none

-- up to its end
skips_first : (P : Why → Type 0) (file : List ℕ) (at to : ℕ) (reasons : List Why) (first : Why)
    → AllByRecursion (λ w. SkipsTo file at w to) reasons → IsFirstOf P reasons first → SkipsTo file at first to
skips_first P file at to [] first each is = absurd is
skips_first P file at to (w ∷ reasons) first each (inl (applies, same)) =
    subst (λ (x : Why). SkipsTo file at x to) (sym same) each.0
skips_first P file at to (w ∷ reasons) first each (inr (not, later)) = skips_first P file at to reasons first each.1 later

content_skips : (unread_ok : Bool) (file : List ℕ) (at : ℕ) → AllByRecursion (λ w. SkipsTo file at w (end_at file at)) (content_reasons unread_ok)
content_skips false file at = (refl, (refl, (refl, (refl, (refl, tt)))))
content_skips true file at = (refl, (refl, (refl, tt)))

-- the same reasons, of the same hash and the same chunk
same_first : (unread_ok : Bool) (hash other : ℕ) (k l : ChunkValue) (first : Why) → hash ≡ other → k ≡ l
    → IsFirstOf (ContentApplies hash k) (content_reasons unread_ok) first → IsFirstOf (ContentApplies other l) (content_reasons unread_ok) first
same_first unread_ok hash other k l first same is h =
    subst (λ (c : ChunkValue). IsFirstOf (ContentApplies other c) (content_reasons unread_ok) first) is
    (subst (λ (x : ℕ). IsFirstOf (ContentApplies x k) (content_reasons unread_ok) first) same h)

same_none : (unread_ok : Bool) (hash other : ℕ) (k l : ChunkValue) → hash ≡ other → k ≡ l
    → NoneOf (ContentApplies hash k) (content_reasons unread_ok) → NoneOf (ContentApplies other l) (content_reasons unread_ok)
same_none unread_ok hash other k l same is h =
    subst (λ (c : ChunkValue). NoneOf (ContentApplies other c) (content_reasons unread_ok)) is
    (subst (λ (x : ℕ). NoneOf (ContentApplies x k) (content_reasons unread_ok)) same h)

-- the chunk at a place is the one that was read, and no reason before those of content applies
record IsThere (file : List ℕ) (at : ℕ) (chunk : Chunk) : Type 0 where
  early : NoneOf (SkipsFor file at) early_reasons
  hash : chunk.header.data_hash ≡ (header_at file at).data_hash
  value : value_of_chunk chunk ≡ chunk_at file at

all_none : (unread_ok : Bool) (file : List ℕ) (at : ℕ) (chunk : Chunk) → IsThere file at chunk
    → NoneOf (ContentApplies chunk.header.data_hash (value_of_chunk chunk)) (content_reasons unread_ok)
    → NoneOf (SkipsFor file at) (walk_reasons unread_ok)
all_none unread_ok file at chunk there none =
    none_behind (SkipsFor file at) early_reasons (content_reasons unread_ok) there.early
    (content_none unread_ok file at (same_none unread_ok _ _ _ _ there.hash there.value none))

-- what is kept there
kept_there : (walk : Progress) (file : List ℕ) (at : ℕ) (k : ChunkValue) (d : IsDecided (IsSimpleChunk k))
    → NoneOf (SkipsFor file at) (walk_reasons walk.unread_ok) → pieces.IsFoundAs walk.unread_ok (chunk_at file at) (kept_by k d)
    → IsPieceOf walk.unread_ok file at (end_at file at) (kept_by k d)
kept_there walk file at k (inl (records, simple)) none found = (none, refl, found)
kept_there walk file at k (inr other) none found = (none, refl, found)

read_there : (walk : Progress) (file : List ℕ) (at : ℕ) (chunk : Chunk) (w : Found) → IsThere file at chunk → IsReadAs walk chunk w
    → IsPieceOf walk.unread_ok file at (end_at file at) (value_of_found w)
read_there walk file at chunk (what.Skipped reason) there first =
    let here = same_first walk.unread_ok _ _ _ _ reason there.hash there.value first in (
      first_behind (SkipsFor file at) early_reasons (content_reasons walk.unread_ok) reason there.early (content_passes walk.unread_ok file at reason here),
      skips_first _ file at (end_at file at) (content_reasons walk.unread_ok) reason (content_skips walk.unread_ok file at) here,
    )
read_there walk file at chunk (what.Records records same) there read =
    let given : pieces.PieceKind = pieces.Records records (value_of_chunk same) in
    (all_none walk.unread_ok file at chunk there read.0, refl, subst (λ (k : ChunkValue). pieces.IsFoundAs walk.unread_ok k given) there.value read.1)
read_there walk file at chunk (what.Kept same unread) there read =
    let kept : pieces.PieceKind = kept_as (value_of_chunk same) in
    kept_there walk file at (value_of_chunk same) (records_decided (value_of_chunk same))
    (all_none walk.unread_ok file at chunk there read.0) (subst (λ (k : ChunkValue). pieces.IsFoundAs walk.unread_ok k kept) there.value read.1)
read_there walk file at chunk what.SignatureOrPadding there read =
    (all_none walk.unread_ok file at chunk there read.0, refl, subst (λ (k : ChunkValue). pieces.IsFoundAs walk.unread_ok k pieces.SignatureOrPadding) there.value read.1)

-- a chunk that was read
pub read_piece : (bytes : Option (List ℕ)) (walk : Progress) (size at end : ℕ) (h : Header) (chunk : Chunk) (piece : NextPiece)
    → IsSized bytes (Some size) → IsHeader h → IfSome bytes (HasRightHead h at) → end ≡ end_by at (value_of_header h) → end ≤ size
    → h.data_size ≤ max_data_size → chunk.header ≡ h
    → IfSome bytes (λ file. (chunk.bytes ≡ data_at file at h.data_size) × LeadsTo file at end at end None)
    → piece.end ≡ end → IsReadAs walk chunk piece.what → IfSome bytes (IsPieceThere walk.unread_ok at piece)
read_piece None walk size at end h chunk piece sized fits right is within small same loaded ends read = tt
read_piece (Some file) walk size at end h chunk piece sized fits right is within small same loaded ends read =
    let end_is : end ≡ end_at file at = is ∙ end_by-at file at h fits right.1 in
    let passing = none_unpassed (Some file) size at h sized fits right (omega (arith, is, within)) in
    let loading = none_loading (Some file) at h fits right.1 passing small in
    let none : LeadsTo file at (end_at file at) at end None = subst (λ (e : ℕ). LeadsTo file at e at end None) end_is loaded.1 in
    let there : IsThere file at chunk = record {
      early = early_none file at loading (none_contradicts file at end (λ b p n c. omega (arith, end_is, c.below)) none);
      hash = ap (λ (x : Header). x.data_hash) same ∙ hash_of-at file at h fits right.1;
      value = ap (λ (x : Header). value_of x chunk.bytes) same ∙ value_of-at file at h chunk.bytes fits right.1 loaded.0;
    } in
    subst (λ (e : ℕ). IsPieceOf walk.unread_ok file at e (value_of_found piece.what)) (sym (ends ∙ end_is))
    (read_there walk file at chunk piece.what there read)

-- where it ends, whether or not the file shows its bytes
pub onward_end : (size at : ℕ) (h : Header) (end : ℕ) → end ≡ end_by at (value_of_header h) → end ≤ size → IsOnward size at end
onward_end size at h end is within = record {
  past = omega (arith, is, chunk_end_of_above at (40 + h.data_size) h.num_records (omega arith));
  within = within;
  boundary = inl (subst IsBoundary (sym is) (chunk_end_of_boundary at (40 + h.data_size) h.num_records));
}

-- its chunk ends there
chunk_ends : (at end : ℕ) (h : Header) (chunk : Chunk) → chunk.header ≡ h → end ≡ end_by at (value_of_header h)
    → end ≡ end_of_chunk at (value_of_chunk chunk)
chunk_ends at end h chunk same is =
    let size : length chunk.bytes ≡ h.data_size = chunk.sized ∙ ap (λ (x : Header). x.data_size) same in
    let records : chunk.header.num_records ≡ h.num_records = ap (λ (x : Header). x.num_records) same in
    rw (size, records) is

-- what is known of one that is kept tells whether it is left unread
kept_unread : (decodes : Bool) (k : ChunkValue) (unread : Bool) → length k.«data» ≤ max_data_size → IsKeptAs decodes k unread
    → unread ≡ is_unread k
kept_unread decodes k true small (inl compressed) = sym (is_unread-unread k (small, inr compressed))
kept_unread decodes k true small (inr transposed) = sym (is_unread-unread k (small, inl transposed))
kept_unread decodes k false small (inl metadata) = sym (is_unread-plain k (small, inr (inr (inl metadata))))
kept_unread decodes k false small (inr (judged, simple)) = sym (is_unread-plain k (small, inl simple))

-- and where records are decoded that it holds none
kept_holds_none : (decodes : Bool) (k : ChunkValue) (unread : Bool) → IsKeptAs decodes k unread → decodes ≡ true → ¬ IsSimpleChunk k
kept_holds_none decodes k true (inl compressed) is simple = compressed_holds_none k compressed simple
kept_holds_none decodes k true (inr transposed) is simple = omega (arith, transposed, simple.1.kind)
kept_holds_none decodes k false (inl metadata) is simple = omega (arith, metadata.0, simple.1.kind)
kept_holds_none decodes k false (inr (judged, holds)) is simple = cc (sym judged ∙ is)

-- and is intact
read_intact : (walk : Progress) (at end : ℕ) (h : Header) (chunk : Chunk) (w : Found) → chunk.header ≡ h → end ≡ end_by at (value_of_header h)
    → IsChunk (value_of_chunk chunk) → h.data_size ≤ max_data_size → IsReadAs walk chunk w → HasIntact walk.decodes at end w
read_intact walk at end h chunk (what.Skipped reason) same is sound small read = tt
read_intact walk at end h chunk what.SignatureOrPadding same is sound small read = tt
read_intact walk at end h chunk (what.Kept kept unread) same is sound small read =
    let few : length chunk.bytes ≤ max_data_size = omega (arith, chunk.sized, ap (λ (x : Header). x.data_size) same, small) in
    subst (λ (c : Chunk). HasIntact walk.decodes at end (what.Kept c unread)) (sym read.2.0) (
      chunk_ends at end h chunk same is,
      record { right = right_hash walk.unread_ok chunk read.0; sound = sound; small = few },
      kept_unread walk.decodes (value_of_chunk chunk) unread few read.2.1,
      kept_holds_none walk.decodes (value_of_chunk chunk) unread read.2.1,
    )
read_intact walk at end h chunk (what.Records records given) same is sound small read =
    subst (λ (c : Chunk). HasIntact walk.decodes at end (what.Records records c)) (sym read.2) (
      chunk_ends at end h chunk same is,
      record {
        right = right_hash walk.unread_ok chunk read.0;
        sound = sound;
        small = omega (arith, chunk.sized, ap (λ (x : Header). x.data_size) same, small);
      },
      read.1.0,
    )

pub read_from : (walk : Progress) (end : ℕ) (h : Header) (chunk : Chunk) (piece : NextPiece)
    → end ≡ end_by walk.place (value_of_header h) → end ≤ walk.size → h.data_size ≤ max_data_size → chunk.header ≡ h → IsChunk (value_of_chunk chunk)
    → piece.end ≡ end → IsReadAs walk chunk piece.what → IsPieceFrom walk piece
read_from walk end h chunk piece is within small same sound ends read = record {
  onward = onward_end walk.size walk.place h piece.end (ends ∙ is) (omega (arith, ends, within));
  intact = read_intact walk walk.place piece.end h chunk piece.what same (ends ∙ is) sound small read;
}

-- the end by a header, of which one past 2 ^ 63 isn't told
pub end_past : (told : Option ℕ) (size end : ℕ) → IfSome told (λ e. size < e) → size ≤ 2 ^ 63 → IsEndOf told end → size < end
end_past None size end past small is = omega (arith, small, is)
end_past (Some e) size end past small is = omega (arith, past, is)
