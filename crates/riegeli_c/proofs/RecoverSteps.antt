-- The pieces of a file that is lent, as they are told to C.
use Rattle.std.proofs.Common.{◌≡◌, ◌∙◌, ℕ, ◌<◌, ◌≤◌, ◌⊎◌, Bool, true, false, List, length, refl, sym, ap, subst, inl, inr, arith}
use Rattle.std.specs.List.{concat}
use Rattle.chunk_header.proofs.Decided.{IsDecided}
use Rattle.chunk_header.proofs.DecidedRecords.{records_decided}
use Rattle.chunk_header.specs.Chunks.{ChunkValue}
use Rattle.chunk_header.specs.SimpleChunks.{IsSimpleChunk, IsCompressed}
use Rattle.chunk_header.specs.Views.{value_of_chunk}
use Rattle.chunk_header.specs.declared.Chunk.{Chunk}
use Rattle.meta_chunk.specs.Files.{IsTransposed, is_unread, max_data_size}
use Rattle.meta_chunk.specs.Kinds.{IsMetadata}
use Rattle.chunk_reader.specs.declared.reasons.Why.{Why}
use Rattle.chunk_reader.proofs.Verdicts.{is_unread-plain, is_unread-unread}
use Rattle.damage_skip.specs.Pieces.{PieceKind, Records, Kept, SignatureOrPadding, Skipped, IsPieceOf, records_of}
use Rattle.damage_skip.specs.Steps.{HasIntact, kept_by, kept_as, value_of_found}
use Rattle.damage_skip.specs.declared.pieces.Found.{Found}
use Rattle.damage_skip.specs.declared.pieces.Found.TheVariants as found
use Rattle.damage_skip.proofs.OnePiece.{piece_one}
use Rattle.riegeli_c.specs.Chunks.{AreGiven, IsTooSmall}
use Rattle.riegeli_c.specs.Finding.{what_found, why_found, records_found, IsStatusFound}
use Rattle.riegeli_c.specs.Recovers.{TellsPiece, IsStatusOf}
use Rattle.riegeli_c.specs.declared.recovering.PieceTold.{PieceTold}

-- a chunk that is kept and holds no records is kept as it is
kept_by-none : (k : ChunkValue) (d : IsDecided (IsSimpleChunk k)) → ¬ IsSimpleChunk k → kept_by k d ≡ Kept k
kept_by-none k (inl simple) none = absurd (none simple)
kept_by-none k (inr other) none = refl

kept_as-none : (k : ChunkValue) → ¬ IsSimpleChunk k → kept_as k ≡ Kept k
kept_as-none k none = kept_by-none k (records_decided k) none

-- its number is by whether it is left unread
kept_number : (k : ChunkValue) (chunk : Chunk) (unread : Bool) → length k.«data» ≤ max_data_size → unread ≡ is_unread k
    → (IsMetadata k ⊎ ((true ≡ true) × (IsCompressed k ⊎ IsTransposed k)))
    → (IsMetadata k × (what_found (found.Kept chunk unread) ≡ 2)) ⊎ ((IsCompressed k ⊎ IsTransposed k) × (what_found (found.Kept chunk unread) ≡ 3))
kept_number k chunk unread small is (inl metadata) =
    inl (metadata, ap (λ (b : Bool). what_found (found.Kept chunk b)) (is ∙ is_unread-plain k (small, inr (inr (inl metadata)))))
kept_number k chunk unread small is (inr (kept, inl compressed)) =
    inr (inl compressed, ap (λ (b : Bool). what_found (found.Kept chunk b)) (is ∙ is_unread-unread k (small, inr compressed)))
kept_number k chunk unread small is (inr (kept, inr transposed)) =
    inr (inr transposed, ap (λ (b : Bool). what_found (found.Kept chunk b)) (is ∙ is_unread-unread k (small, inl transposed)))

-- what is told of a piece that was found
pub piece_told : (file : List ℕ) (place end : ℕ) (what : Found) (told : PieceTold) → IsPieceOf true file place end (value_of_found what)
    → HasIntact true place end what → told.begin ≡ place → told.end ≡ end → told.what ≡ what_found what → told.why ≡ why_found what
    → told.records ≡ length (records_found what) → told.bytes ≡ length (concat (records_found what))
    → TellsPiece file place (value_of_found what) told
piece_told file place end (found.Records records chunk) told piece intact begins ends number reason count bytes = record {
  begin = begins;
  piece = subst (λ (e : ℕ). IsPieceOf true file place e (Records records (value_of_chunk chunk))) (sym ends) piece;
  numbers = (number, reason);
  count = count;
  bytes = bytes;
}
piece_told file place end (found.Kept chunk unread) told piece intact begins ends number reason count bytes =
    let k : ChunkValue = value_of_chunk chunk in
    let same : kept_as k ≡ Kept k = kept_as-none k (intact.3 refl) in
    let kept : IsPieceOf true file place end (Kept k) = subst (λ (kind : PieceKind). IsPieceOf true file place end kind) same piece in
    let is = subst (λ (c : ChunkValue). IsMetadata c ⊎ ((true ≡ true) × (IsCompressed c ⊎ IsTransposed c))) (sym kept.2.1) kept.2.0 in
    let numbers = subst (λ (n : ℕ). (IsMetadata k × (n ≡ 2)) ⊎ ((IsCompressed k ⊎ IsTransposed k) × (n ≡ 3))) (sym number)
    (kept_number k chunk unread intact.1.small intact.2 is) in
    subst (λ (kind : PieceKind). TellsPiece file place kind told) (sym same) (record {
      begin = begins;
      piece = subst (λ (e : ℕ). IsPieceOf true file place e (Kept k)) (sym ends) kept;
      numbers = (numbers, reason);
      count = count;
      bytes = bytes;
    })
piece_told file place end found.SignatureOrPadding told piece intact begins ends number reason count bytes = record {
  begin = begins;
  piece = subst (λ (e : ℕ). IsPieceOf true file place e SignatureOrPadding) (sym ends) piece;
  numbers = (number, reason);
  count = count;
  bytes = bytes;
}
piece_told file place end (found.Skipped why) told piece intact begins ends number reason count bytes = record {
  begin = begins;
  piece = subst (λ (e : ℕ). IsPieceOf true file place e (Skipped why)) (sym ends) piece;
  numbers = (number, reason);
  count = count;
  bytes = bytes;
}

-- its records
records_same : (place end : ℕ) (what : Found) → HasIntact true place end what → records_of (value_of_found what) ≡ records_found what
records_same place end (found.Records records chunk) intact = refl
records_same place end (found.Kept chunk unread) intact = ap records_of (kept_as-none (value_of_chunk chunk) (intact.3 refl))
records_same place end found.SignatureOrPadding intact = refl
records_same place end (found.Skipped why) intact = refl

-- given, of a chunk
pub chunk_given : (place end : ℕ) (what : Found) (values ends given_values given_ends : List ℕ) (status : ℕ) → HasIntact true place end what
    → IsStatusFound what values ends status → status ≡ 0 → AreGiven (records_found what) given_values given_ends
    → (what_found what < 4) × AreGiven (records_of (value_of_found what)) given_values given_ends
chunk_given place end (found.Records records chunk) values ends v e status intact is zero given = (omega arith, given)
chunk_given place end (found.Kept chunk false) values ends v e status intact is zero given =
    (omega arith, subst (λ (rs : List (List ℕ)). AreGiven rs v e) (sym (records_same place end (found.Kept chunk false) intact)) given)
chunk_given place end (found.Kept chunk true) values ends v e status intact is zero given =
    (omega arith, subst (λ (rs : List (List ℕ)). AreGiven rs v e) (sym (records_same place end (found.Kept chunk true) intact)) given)
chunk_given place end found.SignatureOrPadding values ends v e status intact is zero given = (omega arith, given)
chunk_given place end (found.Skipped why) values ends v e status intact is zero given = absurd (omega (arith, is, zero))

-- a region is told by its status
pub region_found : (what : Found) (values ends : List ℕ) (status : ℕ) → IsStatusFound what values ends status → status ≡ 1
    → (why : Why) × (what ≡ found.Skipped why)
region_found (found.Skipped why) values ends status is one = (why, refl)
region_found (found.Records records chunk) values ends status (inl given) one = absurd (omega (arith, given.0, one))
region_found (found.Records records chunk) values ends status (inr small) one = absurd (omega (arith, small.0, one))
region_found (found.Kept chunk unread) values ends status (inl given) one = absurd (omega (arith, given.0, one))
region_found (found.Kept chunk unread) values ends status (inr small) one = absurd (omega (arith, small.0, one))
region_found found.SignatureOrPadding values ends status (inl given) one = absurd (omega (arith, given.0, one))
region_found found.SignatureOrPadding values ends status (inr small) one = absurd (omega (arith, small.0, one))

-- so is too little room
small_found : (what : Found) (values ends : List ℕ) (status : ℕ) → IsStatusFound what values ends status → status ≡ 4
    → IsTooSmall (records_found what) values ends
small_found (found.Skipped why) values ends status is four = absurd (omega (arith, is, four))
small_found (found.Records records chunk) values ends status (inl given) four = absurd (omega (arith, given.0, four))
small_found (found.Records records chunk) values ends status (inr small) four = small.1
small_found (found.Kept chunk unread) values ends status (inl given) four = absurd (omega (arith, given.0, four))
small_found (found.Kept chunk unread) values ends status (inr small) four = small.1
small_found found.SignatureOrPadding values ends status (inl given) four = absurd (omega (arith, given.0, four))
small_found found.SignatureOrPadding values ends status (inr small) four = small.1

pub too_small : (place end : ℕ) (what : Found) (values ends : List ℕ) (status : ℕ) → HasIntact true place end what
    → IsStatusFound what values ends status → status ≡ 4 → IsTooSmall (records_of (value_of_found what)) values ends
too_small place end what values ends status intact is four =
    subst (λ (rs : List (List ℕ)). IsTooSmall rs values ends) (sym (records_same place end what intact)) (small_found what values ends status is four)

-- the status of what was found is that of the piece
status_same : (place end : ℕ) (what : Found) (values ends : List ℕ) (status : ℕ) → HasIntact true place end what
    → IsStatusFound what values ends status → IsStatusOf (value_of_found what) values ends status
status_same place end (found.Skipped why) values ends status intact is = inl is
status_same place end (found.Records records chunk) values ends status intact (inl given) = inl given
status_same place end (found.Records records chunk) values ends status intact (inr small) = inr (inl small)
status_same place end (found.Kept chunk unread) values ends status intact (inl given) =
    subst (λ (kind : PieceKind). IsStatusOf kind values ends status) (sym (kept_as-none (value_of_chunk chunk) (intact.3 refl))) (inl given)
status_same place end (found.Kept chunk unread) values ends status intact (inr small) =
    subst (λ (kind : PieceKind). IsStatusOf kind values ends status) (sym (kept_as-none (value_of_chunk chunk) (intact.3 refl))) (inr (inl small))
status_same place end found.SignatureOrPadding values ends status intact (inl given) = inl given
status_same place end found.SignatureOrPadding values ends status intact (inr small) = inr (inl small)

-- which is one at its place
pub status_there : (file : List ℕ) (place end other : ℕ) (what : Found) (kind : PieceKind) (values ends : List ℕ) (status : ℕ)
    → IsPieceOf true file place end (value_of_found what) → HasIntact true place end what → IsStatusFound what values ends status
    → IsPieceOf true file place other kind → IsStatusOf kind values ends status
status_there file place end other what kind values ends status piece intact is that =
    subst (λ (k : PieceKind). IsStatusOf k values ends status) (piece_one true file place end other (value_of_found what) kind piece that).1
    (status_same place end what values ends status intact is)

-- where memory is wanting it is that of any piece
pub status_memory : (kind : PieceKind) (values ends : List ℕ) → IsStatusOf kind values ends 3
status_memory (Skipped why) values ends = inr refl
status_memory (Records records chunk) values ends = inr (inr refl)
status_memory (Kept chunk) values ends = inr (inr refl)
status_memory SignatureOrPadding values ends = inr (inr refl)

-- a piece that is told has no status for want of a place
pub found_small : (what : Found) (values ends : List ℕ) (status : ℕ) → IsStatusFound what values ends status
    → (status ≡ 0) ⊎ (status ≡ 1) ⊎ (status ≡ 4)
found_small (found.Skipped why) values ends status is = inr (inl is)
found_small (found.Records records chunk) values ends status (inl given) = inl given.0
found_small (found.Records records chunk) values ends status (inr small) = inr (inr small.0)
found_small (found.Kept chunk unread) values ends status (inl given) = inl given.0
found_small (found.Kept chunk unread) values ends status (inr small) = inr (inr small.0)
found_small found.SignatureOrPadding values ends status (inl given) = inl given.0
found_small found.SignatureOrPadding values ends status (inr small) = inr (inr small.0)
