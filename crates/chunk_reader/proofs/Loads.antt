-- The data of a chunk, which stands behind its header.
use Rattle.std.proofs.Common.{◌≡◌, ◌∙◌, ℕ, ◌+◌, ◌^◌, ◌≤◌, Option, Some, None, IfSome, IsSomeAnd, List, length, drop, refl, sym, ap, subst, arith}
use Rattle.std.proofs.lemmas.List.{drop_at}
use Rattle.block_layout.specs.Layout.{IsBoundary, end_of, chunk_end_of, usable_bytes_at}
use Rattle.block_layout.specs.NextPlaces.{IsOnBoundary, IsNextPlace}
use Rattle.block_layout.proofs.Ends.{end_of_after, end_of-more}
use Rattle.block_layout.proofs.ChunkEnds.{chunk_end_of_boundary, chunk_end_of_past_bytes}
use Rattle.block_layout.proofs.Runs.{end_of-next_place}
use Rattle.block_layout.proofs.UsableBytes.{usable_bytes_at_whole, usable_bytes_at-more}
use Rattle.chunk_reader.specs.Places.{data_at}
use Rattle.chunk_reader.specs.PlaceChecks.{HasUsableBytes}
use Rattle.chunk_reader.specs.Ends.{read_end_of}
use Rattle.chunk_reader.specs.declared.reasons.Fault.{Fault}
use Rattle.chunk_reader.specs.declared.reasons.VerifyEnd.{VerifyEnd}
use Rattle.chunk_reader.specs.declared.reasons.VerifyEnd.TheVariants as verify
use Rattle.chunk_reader.specs.declared.reasons.ReadEnd.TheVariants as read
use Rattle.chunk_reader.proofs.Rooms.{IsSized}

-- where a chunk ends, its data ended, behind its header
pub data_within : (at size num_records : ℕ) → end_of (end_of at 40) size ≤ chunk_end_of at (40 + size) num_records
data_within at size num_records =
    omega (arith, end_of-more at 40 size, chunk_end_of_past_bytes at (40 + size) num_records)

pub header_within : (at size num_records : ℕ) → end_of at 40 ≤ chunk_end_of at (40 + size) num_records
header_within at size num_records = omega (arith, data_within at size num_records, end_of_after (end_of at 40) size)

-- a boundary, as a field keeps it
pub IsOnBoundary-of : (p : ℕ) → IsBoundary p → IsOnBoundary p
IsOnBoundary-of p h = λ inside. grind arith

pub chunk_end-on_boundary : (at size num_records : ℕ) → IsOnBoundary (chunk_end_of at (40 + size) num_records)
chunk_end-on_boundary at size num_records = IsOnBoundary-of (chunk_end_of at (40 + size) num_records) (chunk_end_of_boundary at (40 + size) num_records)

-- the usable bytes behind a header are the data
own_behind : (file : List ℕ) (at size : ℕ) → end_of at 40 ≤ length file → usable_bytes_at file (end_of at 40) size ≡ data_at file at size
own_behind file at size within =
    let header = usable_bytes_at file at 40 in
    let count : length header ≡ 40 = (usable_bytes_at_whole file at 40 (omega (arith, end_of_after at 40))).1 within in
    sym (ap (drop 40) (usable_bytes_at-more file at 40 size within) ∙ drop_at header (usable_bytes_at file (end_of at 40) size) 40 count)

-- so what was read there is the data
pub data_given : (bytes : Option (List ℕ)) (told : Option ℕ) (at size end : ℕ) (buf : List ℕ) → IsSized bytes told
    → IsSomeAnd told (λ size. end ≤ size) → end_of at 40 ≤ end
    → IfSome bytes (λ file. buf ≡ usable_bytes_at file (end_of at 40) size)
    → IfSome bytes (λ file. buf ≡ data_at file at size)
data_given None told at size end buf sized within header given = tt
data_given (Some file) None at size end buf sized within header given = elim within [ ]
data_given (Some file) (Some told) at size end buf sized within header given = given ∙ own_behind file at size (omega arith)

-- and what holds of these bytes holds of the data
pub taken_data : (bytes now : Option (List ℕ)) (told : Option ℕ) (P : List ℕ → Type 0) (at size end : ℕ) → now ≡ bytes → IsSized bytes told
    → IsSomeAnd told (λ whole. end ≤ whole) → end_of at 40 ≤ end
    → IfSome now (λ file. P (usable_bytes_at file (end_of at 40) size))
    → IfSome bytes (λ file. P (data_at file at size))
taken_data None now told P at size end same sized within header taken = tt
taken_data (Some file) None told P at size end same sized within header taken = cc
taken_data (Some file) (Some other) told P at size end same sized within header taken =
    let is : other ≡ file = cc in
    let given : usable_bytes_at file (end_of at 40) size ≡ data_at file at size =
    data_given (Some file) told at size end (usable_bytes_at file (end_of at 40) size) sized within header refl in
    subst P given (subst (λ (f : List ℕ). P (usable_bytes_at f (end_of at 40) size)) is taken)

-- an end that refuses refused before too
pub refused_before : (end : VerifyEnd) (fault : Fault) → read.Refused fault ≡ read_end_of end → end ≡ verify.Refused fault
refused_before (verify.Refused other) fault same = cc
refused_before verify.Store fault same = cc

-- a chunk that ends within the told size begins within reach, and its data has room
pub begin_in_reach : (told : Option ℕ) (at size num_records : ℕ)
    → IsSomeAnd told (λ whole. (whole ≤ 2 ^ 60) × (chunk_end_of at (40 + size) num_records ≤ whole)) → at ≤ 2 ^ 60
begin_in_reach None at size num_records h = elim h [ ]
begin_in_reach (Some whole) at size num_records h =
    omega (arith, h.0, h.1, header_within at size num_records, end_of_after at 40)

pub room_for_data : (told : Option ℕ) (at size num_records : ℕ)
    → IsSomeAnd told (λ whole. (whole ≤ 2 ^ 60) × (chunk_end_of at (40 + size) num_records ≤ whole)) → HasUsableBytes told (end_of at 40) size
room_for_data None at size num_records h = elim h [ ]
room_for_data (Some whole) at size num_records h =
    (omega (arith, h.0, h.1, data_within at size num_records), omega (arith, h.1, data_within at size num_records))

pub ends_within : (told : Option ℕ) (at size num_records : ℕ)
    → IsSomeAnd told (λ whole. (whole ≤ 2 ^ 60) × (chunk_end_of at (40 + size) num_records ≤ whole))
    → IsSomeAnd told (λ whole. chunk_end_of at (40 + size) num_records ≤ whole)
ends_within None at size num_records h = elim h [ ]
ends_within (Some whole) at size num_records h = h.1

-- the data begins where usable bytes can
pub next_behind : (at : ℕ) → IsBoundary at → IsNextPlace (end_of at 40)
next_behind at h = end_of-next_place at 40 (λ inside. grind arith)
