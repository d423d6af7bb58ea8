-- In a file without fault a search by key finds a record that doesn't stand before, behind one that does.
use Rattle.std.proofs.Common.{◌≡◌, ◌∙◌, ◌⊎◌, ℕ, ◌+◌, ◌-◌, ◌*◌, ◌^◌, ◌<◌, ◌≤◌, Option, Some, None, Result, Ok, Err, IfOk, IfSome, List, [], ◌∷◌, ◌++◌, length, sym, ap, subst, inl, inr, arith}
use Rattle.std.specs.Prelude.{slice_get}
use Rattle.std.specs.List.{AllByRecursion}
use Rattle.std.proofs.lemmas.Bool.{cases_lt}
use Rattle.std.proofs.lemmas.List.{length-append, nil_from_length}
use Rattle.std.proofs.lemmas.Option.{same_Some, slice_get_within}
use Rattle.chunk_header.specs.Chunks.{ChunkValue}
use Rattle.meta_chunk.specs.Files.{IsPlain, IsWellFormed, IsReadable, HoldEach, ArePlaced, begin_of, placed_from}
use Rattle.meta_chunk.proofs.Begins.{begin_of_rises, begin_of_rises_by}
use Rattle.chunk_reader.specs.Holders.{ArePlacesBetween}
use Rattle.chunk_reader.specs.Places.{header_at}
use Rattle.chunk_reader.specs.PositionSearches.{HasRecordsAt}
use Rattle.chunk_reader.specs.declared.reasons.Fault.{Fault}
use Rattle.chunk_reader.proofs.Blocks.{stands_within}
use Rattle.chunk_reader.proofs.WellFormedFiles.{readable_of_well_formed}
use Rattle.chunk_reader.proofs.HeadersTell.{passed_below, last_end, stands_below, told_end, told_records, told_is, places_are, lies_of}
use Rattle.chunk_reader.proofs.Rooms.{IsSized}
use Rattle.record_seek.specs.Found.{IsKeyFound, BytesStandBefore, OnlyFrontStandsBefore}
use Rattle.record_seek.specs.Met.{IsMetFault, HaveNoRecords}
use Rattle.record_seek.specs.Steps.{EndBefore, AreReadTo, IsReadRecord, IsReadOn, IsFirstFrom, placed_of}
use Rattle.record_seek.specs.declared.chunk_records.Found.{Found}
use Rattle.record_seek.proofs.Finding.{IsBeginFrom, BeginsBefore}
use Rattle.record_seek.proofs.MetPlaces.{no_met_fault}
use Rattle.record_seek.proofs.OneFound.{found_in_order}
use Rattle.record_seek.proofs.PlacedRecords.{records_before, holds_there, none_before_first, placed-stands, length-placed, records_before_next}
use Rattle.record_seek.proofs.ReadingOn.{item_at}
use Rattle.record_seek.proofs.Ways.{same_told}

-- the record of this number is the first, or it stands before
abbrev pub IsLow : (Before : List ℕ → Type 0) → List (ℕ × List ℕ) → ℕ → Type 0
IsLow Before placed i = (i ≡ 0) ⊎ ((r : ℕ × List ℕ) × (slice_get placed i ≡ Some r) × Before r.1)

-- the record right before that of this number stands before
abbrev pub IsBehind : (Before : List ℕ → Type 0) → List (ℕ × List ℕ) → ℕ → Type 0
IsBehind Before placed i = (last : ℕ × List ℕ) × (slice_get placed (i - 1) ≡ Some last) × Before last.1

module _ (Before : List ℕ → Type 0) (ks : List ChunkValue) (file : List ℕ) (well_formed : IsWellFormed ks file) (plain : AllByRecursion IsPlain ks) (lists : List (List (List ℕ))) (each : HoldEach ks lists) where
  -- chunks without records hold none
  none_more : (places : List ℕ) (h to : ℕ) → ArePlacesBetween file (begin_of ks h) to places → HaveNoRecords file places
      → records_before lists (h + length places) ≡ records_before lists h
  none_more [] h to same none =
      let index : h + length {A = ℕ} [] ≡ h = omega arith in
      ap (records_before lists) index
  none_more (place ∷ places) h to (same, passed, rest) none =
      let k = stands_below ks file well_formed h (passed_below file (begin_of ks h) passed) in
      let count : (header_at file place).num_records ≡ k.0.num_records =
      ap (λ (p : ℕ). (header_at file p).num_records) same ∙ told_records ks file well_formed h k.0 k.1 in
      let next : records_before lists (h + 1) ≡ records_before lists h + k.0.num_records = records_before_next ks lists h k.0 plain each k.1 in
      let on : records_before lists (h + 1 + length places) ≡ records_before lists (h + 1) =
      none_more places (h + 1) to (subst (λ (p : ℕ). ArePlacesBetween file p to places) (told_end ks file well_formed h k.0 k.1) rest) none.1 in
      let index : h + length (place ∷ places) ≡ h + 1 + length places = omega arith in
      ap (records_before lists) index ∙ omega (arith, on, next, count, none.0)

  -- a record of a chunk stands among those of the file
  record_stands : (j place number : ℕ) (records : List (List ℕ)) (r : List ℕ) → place ≡ begin_of ks j → place < length file
      → HasRecordsAt file place records → slice_get records number ≡ Some r
      → slice_get (placed_from 0 ks lists) (records_before lists j + number) ≡ Some (place + number, r)
  record_stands j place number records r is below holds stands =
      let (k, at, simple) = holds_there ks file well_formed j place records is below holds in
      placed-stands 0 ks lists j k records number r each at simple stands
      ∙ ap (λ (p : ℕ). Some (p + number, r)) (sym is)

  -- the place of a chunk among those between two others, by its number
  place_at : (front : List ℕ) (h place to : ℕ) (rest : List ℕ) → ArePlacesBetween file (begin_of ks h) to (front ++ place ∷ rest)
      → (place ≡ begin_of ks (h + length front)) × (place < length file) × ArePlacesBetween file (begin_of ks (h + length front + 1)) to rest
  place_at [] h place to rest (same, passed, behind) =
      let below : begin_of ks h < length file = passed_below file (begin_of ks h) passed in
      let k = stands_below ks file well_formed h below in
      let index : h ≡ h + length {A = ℕ} [] = omega arith in (
        same ∙ ap (begin_of ks) index,
        omega (arith, same, below),
        subst (λ (p : ℕ). ArePlacesBetween file p to rest) (told_end ks file well_formed h k.0 k.1 ∙ ap (λ (i : ℕ). begin_of ks (i + 1)) index) behind,
      )
  place_at (p ∷ front) h place to rest (same, passed, behind) =
      let k = stands_below ks file well_formed h (passed_below file (begin_of ks h) passed) in
      let index : h + 1 + length front ≡ h + length (p ∷ front) = omega arith in
      subst (λ (i : ℕ). (place ≡ begin_of ks i) × (place < length file) × ArePlacesBetween file (begin_of ks (i + 1)) to rest) index
      (place_at front (h + 1) place to rest
      (subst (λ (q : ℕ). ArePlacesBetween file q to (front ++ place ∷ rest)) (told_end ks file well_formed h k.0 k.1) behind))

  -- a last record that stands before is right before the next
  end_behind : (h to : ℕ) (places : List ℕ) → ArePlacesBetween file (begin_of ks h) to places → EndBefore Before file places
      → IsBehind Before (placed_from 0 ks lists) (records_before lists (h + length places))
  end_behind h to places between end =
      let e : ℕ = h + length end.front in
      let at = place_at end.front h end.place to end.rest (subst (ArePlacesBetween file (begin_of ks h) to) end.parts between) in
      let (k, there, simple) = holds_there ks file well_formed e end.place end.records at.0 at.1 end.holds in
      let next : records_before lists (e + 1) ≡ records_before lists e + k.num_records = records_before_next ks lists e k plain each there in
      let on : records_before lists (e + 1 + length end.rest) ≡ records_before lists (e + 1) = none_more end.rest (e + 1) to at.2 end.none_behind in
      let count : e + 1 + length end.rest ≡ h + length places =
      omega (arith, ap length end.parts, length-append end.front (end.place ∷ end.rest)) in
      let all : records_before lists (h + length places) ≡ records_before lists (e + 1 + length end.rest) = ap (records_before lists) (sym count) in
      let some : length end.records - 1 < length end.records = slice_get_within end.records (length end.records - 1) end.last end.last_there in
      let index : records_before lists e + (length end.records - 1) ≡ records_before lists (h + length places) - 1 =
      omega (arith, next, on, all, some, simple.num_records) in (
        (end.place + (length end.records - 1), end.last),
        subst (λ (i : ℕ). slice_get (placed_from 0 ks lists) i ≡ Some (end.place + (length end.records - 1), end.last)) index
            (record_stands e end.place (length end.records - 1) end.records end.last at.0 at.1 end.holds end.last_there),
        end.before,
      )

  -- chunks that are read from one on hold no records up to another, or the last one stands before
  read_to : (h to : ℕ) → h ≤ length ks → AreReadTo Before file (begin_of ks h) to
      → (j : ℕ) × (to ≡ begin_of ks j)
      × ((records_before lists j ≡ records_before lists h) ⊎ IsBehind Before (placed_from 0 ks lists) (records_before lists j))
  read_to h to inside read =
      let there = places_are ks file well_formed read.places h to inside read.between in (
        h + length read.places,
        there.1,
        elim read.last [
          | inl none ↦ inl (none_more read.places h to read.between none)
          | inr end ↦ inr (end_behind h to read.places read.between end)
        ],
      )

  -- the first record from a chunk on, which stands before
  first_low : (h : ℕ) (bytes : List ℕ) → h ≤ length ks → IsFirstFrom file (begin_of ks h) bytes → Before bytes
      → IsLow Before (placed_from 0 ks lists) (records_before lists h)
  first_low h bytes inside first before =
      let there = places_are ks file well_formed first.places h first.place inside first.between in
      let j : ℕ = h + length first.places in
      let index : records_before lists j + 0 ≡ records_before lists h =
      omega (arith, none_more first.places h first.place first.between first.none_before) in
      inr (
        (first.place + 0, bytes),
        subst (λ (i : ℕ). slice_get (placed_from 0 ks lists) i ≡ Some (first.place + 0, bytes)) index
            (record_stands j first.place 0 first.records bytes there.1 (passed_below file first.place first.whole) first.holds first.stands),
        before,
      )

  -- so is the first one from the chunk on that reading begins at
  begins_low : (low begin : ℕ) → length file ≤ 2 ^ 60 → BeginsBefore Before low file → IsBeginFrom low begin file
      → (h : ℕ) × (begin ≡ begin_of ks h) × (h ≤ length ks) × IsLow Before (placed_from 0 ks lists) (records_before lists h)
  begins_low low begin reach before (inl (first, front)) = (0, front, omega arith, inl (none_before_first lists))
  begins_low low begin reach (inl first) (inr (past, told)) = absurd (omega (arith, first, past))
  begins_low low begin reach (inr (other, also, (bytes, is_first, stands))) (inr (past, told)) =
      let (previous, next, there, is) = told in
      let block : ℕ = low * 65536 in
      let holder = lies_of ks file well_formed block (omega (arith, stands_within file block previous next there)) in
      let begins : begin ≡ begin_of ks holder.0 = told_is ks file well_formed block begin holder.0 reach there.is_block holder.1 told in
      let same : other ≡ begin_of ks holder.0 = told_is ks file well_formed block other holder.0 reach there.is_block holder.1 also in
      let inside : holder.0 ≤ length ks = omega (arith, holder.1.number) in (
        holder.0,
        begins,
        inside,
        first_low holder.0 bytes inside (subst (λ (b : ℕ). IsFirstFrom file b bytes) same is_first) stands,
      )

  -- the record that is found
  pub record_found : (h : ℕ) (found : Found) → h ≤ length ks → IsLow Before (placed_from 0 ks lists) (records_before lists h)
      → IsReadRecord Before file (begin_of ks h) found
      → IsKeyFound (BytesStandBefore Before) (placed_from 0 ks lists) (Some (found.position, found.bytes))
  record_found h found inside low read =
      let (j, is, behind) = read_to h read.place inside read.read in
      let below : read.place < length file = passed_below file read.place read.whole in
      let i : ℕ = records_before lists j + read.number in
      let stands : slice_get (placed_from 0 ks lists) i ≡ Some (found.position, found.bytes) =
      record_stands j read.place read.number read.records found.bytes is below read.holds read.stands
      ∙ ap (λ (p : ℕ). Some (p, found.bytes)) (sym read.position) in (
        read.apart,
        (
          i,
          stands,
          elim (cases_lt 0 read.number) [
            | inl later ↦
                let within : read.number < length read.records = slice_get_within read.records read.number found.bytes read.stands in
                let last = item_at read.records (read.number - 1) (omega (arith, within)) in
                let index : records_before lists j + (read.number - 1) ≡ i - 1 = omega (arith, later) in
                inr (
                  (read.place + (read.number - 1), last.0),
                  subst (λ (n : ℕ). slice_get (placed_from 0 ks lists) n ≡ Some (read.place + (read.number - 1), last.0)) index
                      (record_stands j read.place (read.number - 1) read.records last.0 is below read.holds last.1),
                  read.before (read.number - 1) last.0 (omega (arith, later)) last.1,
                )
            | inr first ↦ elim behind [
              | inr last ↦
                  let index : records_before lists j ≡ i = omega (arith, first) in
                  inr (subst (IsBehind Before (placed_from 0 ks lists)) index last)
              | inl same ↦
                  let index : records_before lists h ≡ i = omega (arith, same, first) in
                  elim low [
                    | inl none ↦ inl (omega (arith, index, none))
                    | inr (r, there, before) ↦
                        let at : slice_get (placed_from 0 ks lists) i ≡ Some r =
                        subst (λ (n : ℕ). slice_get (placed_from 0 ks lists) n ≡ Some r) index there in
                        absurd (read.apart (subst (BytesStandBefore Before) (same_Some r (found.position, found.bytes) (sym at ∙ stands)) before))
                  ]
            ]
          ],
        ),
      )

  -- nothing is found where no record is left
  pub none_found : (h : ℕ) → h ≤ length ks → IsLow Before (placed_from 0 ks lists) (records_before lists h)
      → AreReadTo Before file (begin_of ks h) (length file) → IsKeyFound (BytesStandBefore Before) (placed_from 0 ks lists) None
  none_found h inside low read =
      let (j, is, behind) = read_to h (length file) inside read in
      let past : length ks ≤ j =
      elim (cases_lt j (length ks)) [
        | inl less ↦
            absurd (omega (arith, is, begin_of_rises_by ks j less, begin_of_rises ks (j + 1) (length ks) (omega (arith, less)), last_end ks file well_formed))
        | inr past ↦ past
      ] in
      let all : length (placed_from 0 ks lists) ≡ records_before lists j = length-placed 0 ks lists j each past in
      elim behind [
        | inr last ↦ inr (subst (IsBehind Before (placed_from 0 ks lists)) (sym all) last)
        | inl same ↦ elim low [
          | inl none ↦ inl (nil_from_length (placed_from 0 ks lists) (omega (arith, all, same, none)))
          | inr (r, there, before) ↦
              absurd (omega (arith, slice_get_within (placed_from 0 ks lists) (records_before lists h) r there, all, same))
        ]
      ]

  key_found : (low begin : ℕ) (found : Option Found) → length file ≤ 2 ^ 60 → BeginsBefore Before low file → IsBeginFrom low begin file → IsReadOn Before file begin found
      → IsKeyFound (BytesStandBefore Before) (placed_from 0 ks lists) (placed_of found)
  key_found low begin None reach before start read =
      let (h, is, inside, first) = begins_low low begin reach before start in
      none_found h inside first (subst (λ (b : ℕ). AreReadTo Before file b (length file)) is read)
  key_found low begin (Some found) reach before start read =
      let (h, is, inside, first) = begins_low low begin reach before start in
      record_found h found inside first (subst (λ (b : ℕ). IsReadRecord Before file b found) is read)

-- what is found among a file's records
abbrev IsFoundIn : (Before : List ℕ → Type 0) → Option Found → List ℕ → Type 0
IsFoundIn Before found file =
    (ks : List ChunkValue) (placed : List (ℕ × List ℕ)) → IsReadable ks file → ArePlaced ks placed
    → IsKeyFound (BytesStandBefore Before) placed (placed_of found)

found_in : (Before : List ℕ → Type 0) (bytes now then : Option (List ℕ)) (size low begin : ℕ) (found : Option Found) → now ≡ bytes → then ≡ bytes
    → IsSized bytes (Some size) → size ≤ 2 ^ 60 → IfSome bytes (BeginsBefore Before low) → IfSome now (IsBeginFrom low begin)
    → IfSome then (λ file. IsReadOn Before file begin found) → IfSome bytes (IsFoundIn Before found)
found_in Before None now then size low begin found same also sized reach before from read = tt
found_in Before (Some file) now then size low begin found same also sized reach before from read =
    let start : IsBeginFrom low begin file = same_told (IsBeginFrom low begin) (Some file) now same from in
    let on : IsReadOn Before file begin found = same_told (λ f. IsReadOn Before f begin found) (Some file) then also read in
    λ ks placed whole are.
    let (well_formed, plain) = (readable_of_well_formed ks file).1 whole in
    subst (λ (xs : List (ℕ × List ℕ)). IsKeyFound (BytesStandBefore Before) xs (placed_of found)) (sym are.2)
    (key_found Before ks file well_formed plain are.0 are.1 low begin found (omega (arith, sized, reach)) before start on)

pub found-in : {E : Type 0} (Before : List ℕ → Type 0) (bytes now then : Option (List ℕ)) (size low begin : ℕ) (result : Result (Option Found) E)
    → now ≡ bytes → then ≡ bytes → IsSized bytes (Some size) → size ≤ 2 ^ 60 → IfSome bytes (BeginsBefore Before low)
    → IfSome now (IsBeginFrom low begin) → IfOk result (λ found. IfSome then (λ file. IsReadOn Before file begin found))
    → IfOk result (λ found. IfSome bytes (IsFoundIn Before found))
found-in Before bytes now then size low begin (Ok found) same also sized reach before from read =
    found_in Before bytes now then size low begin found same also sized reach before from read
found-in Before bytes now then size low begin (Err end) same also sized reach before from read = tt

-- where only a front of them stands before, it is the first behind that
pub in-order : {E : Type 0} (Before : List ℕ → Type 0) (bytes : Option (List ℕ)) (result : Result (Option Found) E)
    → IfOk result (λ found. IfSome bytes (IsFoundIn Before found))
    → IfOk result (λ found. IfSome bytes (λ file. (ks : List ChunkValue) (placed : List (ℕ × List ℕ)) (count : ℕ) → IsReadable ks file → ArePlaced ks placed
    → OnlyFrontStandsBefore (BytesStandBefore Before) placed count → placed_of found ≡ slice_get placed count))
in-order Before bytes (Err end) found = tt
in-order Before None (Ok found) is = tt
in-order Before (Some file) (Ok found) is =
    λ ks placed count whole are front. (found_in_order (BytesStandBefore Before) placed count front (placed_of found)).0 (is ks placed whole are)

-- and a fault is met in a file with a fault alone
pub met-not_whole : (bytes : Option (List ℕ)) (size : ℕ) (fault : Fault) → IsSized bytes (Some size) → size ≤ 2 ^ 60
    → IfSome bytes (λ file. IsMetFault file fault) → IfSome bytes (λ file. (ks : List ChunkValue) → ¬ IsReadable ks file)
met-not_whole None size fault sized reach met = tt
met-not_whole (Some file) size fault sized reach met =
    λ ks whole. no_met_fault ks file fault ((readable_of_well_formed ks file).1 whole).0 whole (omega (arith, sized, reach)) met
