-- A chunk that is judged while its data comes in pieces.
use Rattle.std.proofs.Common.{◌≡◌, ◌∙◌, ◌+◌, ◌<◌, ◌≤◌, ℕ, Bool, true, false, Result, Option, Some, None, IfSome, IsSomeAnd, Ok, Err, List, [], ◌∷◌, ◌++◌, length, refl, sym, ap, subst, inl, inr, arith}
use Rattle.highway_hash.specs.Riegeli.{riegeli_hash}
use Rattle.std.proofs.lemmas.Bool.{cases_eq}
use Rattle.record_values.specs.Bytes.{AreBytes}
use Rattle.block_layout.specs.Layout.{IsBoundary, end_of, chunk_end_of}
use Rattle.block_layout.proofs.ChunkEnds.{chunk_end_of_boundary, chunk_end_of_past_records}
use Rattle.block_layout.proofs.Ends.{end_of_after, end_of_room}
use Rattle.chunk_header.specs.Chunks.{ChunkValue}
use Rattle.chunk_header.specs.declared.Header.{Header}
use Rattle.chunk_header.specs.Views.{value_of}
use Rattle.meta_chunk.specs.Files.{IsPlain, IsUnread, is_unread, totals_of}
use Rattle.chunk_reader.specs.Heads.{IsFoundHead}
use Rattle.chunk_reader.specs.Reasons.{HasBadContents, Applies, IsFirstOf, loading_reasons}
use Rattle.chunk_reader.specs.Faults.{IsAllowed, IsVerdict, BeginsWithSignature}
use Rattle.chunk_reader.specs.Pieces.{HasTaken, TellsUnread, IsVerifiedIn}
use Rattle.chunk_reader.specs.declared.piece_judge.PieceJudge.{PieceJudge}
use Rattle.chunk_reader.specs.declared.reasons.Why.TheVariants as why
use Rattle.chunk_reader.proofs.AllowedChunks.{allowed_good, allowed_named}
use Rattle.chunk_reader.proofs.NoReasonLaid.{allowed_where_none}
use Rattle.chunk_reader.specs.declared.verifying.Verified.{Verified}
use Rattle.chunk_reader.specs.declared.reasons.Why.{Why}
use Rattle.chunk_reader.specs.declared.reasons.Fault.{Fault}
use Rattle.record_values.specs.declared.file_totals.Totals.{Totals}
use Rattle.chunk_reader.specs.Places.{end_at, data_at, chunk_at}
use Rattle.chunk_reader.specs.PlaceChecks.{HaveHeadersOf, IsFirstWrong}
use Rattle.chunk_reader.proofs.PassedChunks.{length-data_at, IsLaid-right}
use Rattle.chunk_reader.proofs.Loads.{header_within, IsOnBoundary-of}
use Rattle.chunk_reader.proofs.ReadingSteps.{next_read, next-le, unread-le}
use Rattle.chunk_reader.specs.Progress.{ReaderValue, totals_with_chunk, AreInBounds, AreReadFrom}
use Rattle.chunk_reader.specs.Readers.{GoesOn, IsNextPassed}
use Rattle.chunk_reader.proofs.Rooms.{IsSized}
use Rattle.chunk_reader.proofs.Verdicts.{verdict_loading, verdict_block, verdict_content, value_of-at, end_by-at, hash_of-at, none_at, is_unread-plain, is_unread-unread}

-- what is told of a chunk by what it is
pub tells_plain : (hash : ℕ) (k : ChunkValue) → riegeli_hash k.«data» ≡ hash → IsPlain k → TellsUnread hash k (Ok false)
tells_plain hash k right plain =
    (sym (is_unread-plain k plain), (λ wrong. wrong right, (allowed_good true k (inl plain), (allowed_named true k (inl plain), tt))))

pub tells_unread : (hash : ℕ) (k : ChunkValue) → riegeli_hash k.«data» ≡ hash → IsUnread k → TellsUnread hash k (Ok true)
tells_unread hash k right unread =
    (sym (is_unread-unread k unread), (λ wrong. wrong right, (allowed_good true k (inr unread), (allowed_named true k (inr unread), tt))))

pub tells_contents : (hash : ℕ) (k : ChunkValue) → riegeli_hash k.«data» ≡ hash → HasBadContents k → TellsUnread hash k (Err why.Contents)
tells_contents hash k right bad = inr (λ wrong. wrong right, inl (bad, refl))

-- the header of a chunk that the file has was found at a place
pub record IsFound (bytes : Option (List ℕ)) (at end : ℕ) (h : Header) : Type 0 where
  pub head : IsFoundHead loading_reasons bytes at h end
  pub whole : IfSome bytes (λ file. end ≤ length file)

-- a chunk that ends within the told size ends within the bytes that are shown
pub whole_in : (bytes : Option (List ℕ)) (told : Option ℕ) (end : ℕ) → IsSized bytes told → IsSomeAnd told (λ size. end ≤ size)
    → IfSome bytes (λ file. end ≤ length file)
whole_in None told end sized within = tt
whole_in (Some file) None end sized within = elim within [ ]
whole_in (Some file) (Some size) end sized within = omega (arith, within, sized)

-- the chunk there is refused where its header can't be found, and at its first wrong block
pub refused_loading : (bytes : Option (List ℕ)) (at : ℕ) (fault : Fault) → fault.at ≡ at
    → IfSome bytes (λ file. IsFirstOf (Applies file at) loading_reasons fault.why) → IfSome bytes (λ file. IsVerdict true file at fault)
refused_loading None at fault here first = tt
refused_loading (Some file) at fault here first = verdict_loading true file at fault first here

pub refused_block : (bytes now : Option (List ℕ)) (at end : ℕ) (h : Header) (fault : Fault) → IsFound bytes at end h → now ≡ bytes
    → fault.why ≡ why.BlockHeader → IfSome now (λ file. IsFirstWrong file at end at end fault.at)
    → IfSome bytes (λ file. IsVerdict true file at fault)
refused_block None now at end h fault found same reason wrong = tt
refused_block (Some file) None at end h fault found same reason wrong = cc
refused_block (Some file) (Some other) at end h fault found same reason wrong =
    let is : other ≡ file = cc in
    verdict_block true file at end fault found.head.none (found.head.ends ∙ end_by-at file at h found.head.fits found.head.header)
    (subst (λ (f : List ℕ). IsFirstWrong f at end at end fault.at) is wrong) reason

-- the data of that chunk was judged, and the headers of its blocks are right
pub record IsThrough (bytes : Option (List ℕ)) (at end : ℕ) (h : Header) (judge : PieceJudge) (told : Result Bool Why) : Type 0 where
  pub header : judge.header ≡ h
  pub taken : IfSome bytes (λ file. HasTaken judge (data_at file at h.data_size))
  pub right : IfSome bytes (λ file. HaveHeadersOf file at end at end)
  pub tells : (taken : List ℕ) → HasTaken judge taken → length taken ≡ judge.header.data_size
      → TellsUnread judge.header.data_hash (value_of judge.header taken) told

-- so it is told of the chunk
tells_data : (file : List ℕ) (at end : ℕ) (h : Header) (judge : PieceJudge) (told : Result Bool Why)
    → IsFound (Some file) at end h → IsThrough (Some file) at end h judge told
    → TellsUnread h.data_hash (value_of h (data_at file at h.data_size)) told
tells_data file at end h judge told found through =
    let whole : length (data_at file at h.data_size) ≡ h.data_size =
    length-data_at file at h.data_size h.num_records (omega (arith, found.head.ends, found.whole)) in
    let P : Header → Type 0 = λ x. (taken : List ℕ) → HasTaken judge taken → length taken ≡ x.data_size
    → TellsUnread x.data_hash (value_of x taken) told in
    let tells : P h = subst P through.header through.tells in
    tells (data_at file at h.data_size) through.taken whole

blocks_at : (file : List ℕ) (at end : ℕ) (h : Header) → IsFound (Some file) at end h → HaveHeadersOf file at end at end
    → HaveHeadersOf file at (end_at file at) at (end_at file at)
blocks_at file at end h found right =
    subst (λ (e : ℕ). HaveHeadersOf file at e at e) (found.head.ends ∙ end_by-at file at h found.head.fits found.head.header) right

pub passed : (bytes : Option (List ℕ)) (at : ℕ) (judge : PieceJudge) (v : Verified)
    → IsFound bytes at v.end v.header → IsThrough bytes at v.end v.header judge (Ok v.unread)
    → IfSome bytes (λ file. IsVerifiedIn true file at v)
passed None at judge v found through = tt
passed (Some file) at judge v found through =
    let h = v.header in
    let told = tells_data file at v.end h judge (Ok v.unread) found through in
    let bytes : List ℕ = data_at file at h.data_size in
    let is : value_of h bytes ≡ chunk_at file at = value_of-at file at h bytes found.head.fits found.head.header refl in
    let «data» : bytes ≡ (chunk_at file at).«data» = ap (λ (c : ChunkValue). c.«data») is in
    let ends : v.end ≡ end_at file at = found.head.ends ∙ end_by-at file at h found.head.fits found.head.header in
    let blocks : HaveHeadersOf file at (end_at file at) at (end_at file at) = blocks_at file at v.end h found through.right in
    let hash : riegeli_hash bytes ≡ h.data_hash =
    elim (cases_eq (riegeli_hash bytes) h.data_hash) [ inl right ↦ right | inr differs ↦ absurd (told.1.0 differs) ] in
    record {
      laid = IsLaid-right file at h (record {
        sound = found.head.fits;
        header = found.head.header;
        whole = omega (arith, sym ends, found.whole);
        bytes = subst AreBytes «data» through.taken.are_bytes;
        hash = ap riegeli_hash (sym «data») ∙ hash ∙ hash_of-at file at h found.head.fits found.head.header;
        blocks = blocks;
      });
      none = none_at true file at h bytes found.head.fits found.head.header refl found.head.none blocks told.1;
      end = ends;
      header = ap (value_of h) (sym «data») ∙ is;
      unread = told.0 ∙ ap is_unread is;
    }

pub refused_content : (bytes : Option (List ℕ)) (at end : ℕ) (h : Header) (judge : PieceJudge) (fault : Fault)
    → IsFound bytes at end h → IsThrough bytes at end h judge (Err fault.why) → fault.at ≡ at
    → IfSome bytes (λ file. IsVerdict true file at fault)
refused_content None at end h judge fault found through here = tt
refused_content (Some file) at end h judge fault found through here =
    verdict_content true file at h.data_hash (value_of h (data_at file at h.data_size)) fault found.head.none
    (blocks_at file at end h found through.right)
    (hash_of-at file at h found.head.fits found.head.header)
    (value_of-at file at h (data_at file at h.data_size) found.head.fits found.head.header refl)
    (tells_data file at end h judge (Err fault.why) found through) here

-- where such a chunk ends
pub verified_end : (size at end data_size records : ℕ) → end ≡ chunk_end_of at (40 + data_size) records → end ≤ size
    → IsBoundary end × (end_of at 40 ≤ end) × (end ≤ size) × (at + records ≤ end)
verified_end size at end data_size records ends within = (
  subst IsBoundary (sym ends) (chunk_end_of_boundary at (40 + data_size) records),
  omega (arith, header_within at data_size records),
  within,
  omega (arith, chunk_end_of_past_records at (40 + data_size) records),
)

-- the first chunk ends at 64 or further on, and so does each behind it
first_header_end : end_of 0 40 ≡ 64
unfolding end_of
first_header_end = refl

signed_end : (at end : ℕ) → (0 < at → 64 ≤ at) → end_of at 40 ≤ end → 64 ≤ end
signed_end at end signed behind =
    elim (cases_eq at 0) [
      | inl front ↦ omega (arith, first_header_end, subst (λ (p : ℕ). end_of p 40 ≤ end) front behind)
      | inr further ↦ omega (arith, signed (omega arith), end_of_after at 40)
    ]

-- so totals stay in their bounds with one chunk more
pub verified_totals : (size : ℕ) (totals : Totals) (v : Verified) → AreInBounds size totals
    → IsBoundary v.end × (end_of totals.bytes 40 ≤ v.end) × (v.end ≤ size) × (totals.bytes + v.header.num_records ≤ v.end)
    → AreInBounds size (totals_with_chunk totals v.end v.header.num_records v.unread)
verified_totals size totals v h (boundary, behind, within, room) =
    let past : totals.bytes + 40 ≤ v.end = omega (arith, end_of_room totals.bytes 40) in record {
      within = within;
      boundary = IsOnBoundary-of v.end boundary;
      signed = λ some. signed_end totals.bytes v.end h.signed behind;
      chunks = omega (arith, h.chunks);
      records = next-le totals.bytes v.end totals.records v.header.num_records v.unread room h.records;
      unread = unread-le totals.bytes v.end totals.unread v.unread past h.unread;
    }

-- and where they are those of some chunks, go on with that one more
pub verified_goes_on : (unread_ok : Bool) (bytes : Option (List ℕ)) (totals : Totals) (v : Verified) → IfSome bytes BeginsWithSignature
    → IfSome bytes (λ file. IsVerifiedIn unread_ok file totals.bytes v)
    → IfSome bytes (λ file. GoesOn unread_ok file totals (totals_with_chunk totals v.end v.header.num_records v.unread) (chunk_at file totals.bytes))
verified_goes_on unread_ok None totals v begins here = tt
verified_goes_on unread_ok (Some file) totals v begins here =
    λ ks chain counts.
    let k : ChunkValue = chunk_at file totals.bytes in
    let next = next_read unread_ok ks file totals.bytes v.end k v.unread begins chain refl here.end here.laid here.none here.unread in
    let records : v.header.num_records ≡ k.num_records = ap (λ (c : ChunkValue). c.num_records) here.header in (
      next.0,
      ap (λ (t : Totals). totals_with_chunk t v.end v.header.num_records v.unread) counts
          ∙ ap (λ (n : ℕ). totals_with_chunk (totals_of ks) v.end n v.unread) records
          ∙ next.1,
    )

pub verified_read : (unread_ok : Bool) (bytes : Option (List ℕ)) (totals : Totals) (v : Verified) → IfSome bytes BeginsWithSignature
    → IfSome bytes (λ file. IsVerifiedIn unread_ok file totals.bytes v) → IfSome bytes (λ file. AreReadFrom unread_ok file totals)
    → IfSome bytes (λ file. AreReadFrom unread_ok file (totals_with_chunk totals v.end v.header.num_records v.unread))
verified_read unread_ok None totals v begins here read = tt
verified_read unread_ok (Some file) totals v begins here (ks, chain, counts) =
    let next = verified_goes_on unread_ok (Some file) totals v begins here ks chain counts in
    (ks ++ chunk_at file totals.bytes ∷ [], next.0, next.1)

-- which is the next chunk of a reader
pub verified_next : (bytes : Option (List ℕ)) (before after : ReaderValue) (v : Verified) → IfSome bytes BeginsWithSignature
    → IfSome bytes (λ file. IsVerifiedIn before.unread_ok file before.totals.bytes v) → end_of before.totals.bytes 40 ≤ v.end
    → after.totals ≡ totals_with_chunk before.totals v.end v.header.num_records v.unread → IsNextPassed bytes before after v.header
verified_next bytes before after v begins here behind counts = record {
  moved = omega (arith, behind, end_of_room before.totals.bytes 40, ap (λ (t : Totals). t.bytes) counts);
  given = given bytes begins here;
} where
  given : (bytes : Option (List ℕ)) → IfSome bytes BeginsWithSignature
      → IfSome bytes (λ file. IsVerifiedIn before.unread_ok file before.totals.bytes v)
      → IfSome bytes (λ file. (k : ChunkValue) × (value_of v.header k.«data» ≡ k) × IsAllowed before.unread_ok k
      × GoesOn before.unread_ok file before.totals after.totals k)
  given None begins here = tt
  given (Some file) begins here =
      let k : ChunkValue = chunk_at file before.totals.bytes in (
        k,
        here.header,
        allowed_where_none before.unread_ok file before.totals.bytes here.none,
        subst (λ (t : Totals). GoesOn before.unread_ok file before.totals t k) (sym counts)
            (verified_goes_on before.unread_ok (Some file) before.totals v begins here),
      )
