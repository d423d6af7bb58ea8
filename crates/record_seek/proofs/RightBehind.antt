-- What a search by key gives comes right behind a record that stands before, or is the first one.
use Rattle.std.proofs.Common.{◌≡◌, ◌⊎◌, ℕ, ◌*◌, ◌<◌, Option, Some, None, IfSome, List, length, sym, subst, inl, inr, arith}
use Rattle.std.specs.Prelude.{slice_get}
use Rattle.std.proofs.lemmas.Bool.{cases_lt}
use Rattle.std.proofs.lemmas.Option.{slice_get_within}
use Rattle.chunk_header.specs.SimpleChunks.{IsSimple}
use Rattle.chunk_header.proofs.OneList.{records_are_one}
use Rattle.chunk_reader.specs.Holders.{ArePlacesBetween}
use Rattle.chunk_reader.specs.Places.{header_at, chunk_at}
use Rattle.chunk_reader.specs.PositionSearches.{HasRecordsAt}
use Rattle.chunk_reader.proofs.HeadersTell.{passed_below}
use Rattle.record_seek.specs.Met.{IsMetRecord, LeadsWithoutRecords, LeadsPastAll}
use Rattle.record_seek.specs.Steps.{AreReadTo, IsReadRecord, IsFirstFrom}
use Rattle.record_seek.specs.declared.chunk_records.Found.{Found}
use Rattle.record_seek.proofs.Finding.{IsBeginFrom, BeginsBefore, met-on, begin_met, told_one}
use Rattle.record_seek.proofs.OneHolder.{StopsAt, stops_are_one}
use Rattle.record_seek.proofs.OneSearch.{same_record}
use Rattle.record_seek.proofs.Ways.{same_told}

-- the header of a chunk in which a record stands counts some
some_there : (file : List ℕ) (place : ℕ) (records : List (List ℕ)) (number : ℕ) (bytes : List ℕ) → HasRecordsAt file place records
    → slice_get records number ≡ Some bytes → 0 < (header_at file place).num_records
some_there file place records number bytes holds stands =
    omega (arith, holds.holds.num_records, slice_get_within records number bytes stands)

-- chunks that are read lead to a place so, unless the first record from where reading begins is in the chunk there
led_to : (Before : List ℕ → Type 0) (file : List ℕ) (low begin to : ℕ) → BeginsBefore Before low file → IsBeginFrom low begin file
    → AreReadTo Before file begin to → StopsAt (λ place. (header_at file place).num_records ≡ 0) file to
    → ((bytes : List ℕ) (first : IsFirstFrom file begin bytes) → Before bytes → ¬ (to ≡ first.place))
    → LeadsWithoutRecords file to ⊎ LeadsPastAll file to Before
led_to Before file low begin to before start read stops elsewhere =
    elim read.last [
      | inr end ↦ inr (record {
        begin = begin;
        front = end.front;
        place = end.place;
        rest = end.rest;
        records = end.records;
        last = end.last;
        from = elim start [
          | inl first ↦ inl first.1
          | inr told ↦ inr (low * 65536, told.1)
        ];
        between = subst (ArePlacesBetween file begin to) end.parts read.between;
        none_behind = end.none_behind;
        holds = end.holds;
        last_there = end.last_there;
        before = end.before;
      })
      | inl none ↦ elim start [
        | inl first ↦
            inl (read.places, subst (λ (b : ℕ). ArePlacesBetween file b to read.places) first.1 read.between, none)
        | inr told ↦ elim before [
          | inl zero ↦ absurd (omega (arith, zero, told.0))
          | inr (other, there, (bytes, is_first, stands)) ↦
              let same : other ≡ begin = told_one file (low * 65536) other begin there told.1 in
              let first : IsFirstFrom file begin bytes = subst (λ (b : ℕ). IsFirstFrom file b bytes) same is_first in
              let at : to ≡ first.place =
              stops_are_one (λ place. (header_at file place).num_records ≡ 0) file read.places first.places begin to first.place read.between none
              first.between first.none_before stops
              (λ whole few. omega (arith, few, some_there file first.place first.records 0 bytes first.holds first.stands)) in
              absurd (elsewhere bytes first stands at)
        ]
      ]
    ]

-- nothing is answered where no record is read that doesn't stand before
pub nothing-left : (Before : List ℕ → Type 0) (bytes now then : Option (List ℕ)) (low begin : ℕ) → now ≡ bytes → then ≡ bytes
    → IfSome bytes (BeginsBefore Before low) → IfSome now (IsBeginFrom low begin)
    → IfSome then (λ file. AreReadTo Before file begin (length file))
    → IfSome bytes (λ file. LeadsWithoutRecords file (length file) ⊎ LeadsPastAll file (length file) Before)
nothing-left Before None now then low begin same also before from read = tt
nothing-left Before (Some file) now then low begin same also before from read =
    led_to Before file low begin (length file) before (same_told (IsBeginFrom low begin) (Some file) now same from)
    (same_told (λ f. AreReadTo Before f begin (length f)) (Some file) then also read)
    (λ whole few. omega (arith, passed_below file (length file) whole))
    (λ bytes first stands at. omega (arith, at, passed_below file first.place first.whole))

-- the first record from where reading begins, which stands before, isn't the first that is read and doesn't
other_record : (Before : List ℕ → Type 0) (file : List ℕ) (begin : ℕ) (found : Found) (read : IsReadRecord Before file begin found) → read.number ≡ 0
    → (bytes : List ℕ) (first : IsFirstFrom file begin bytes) → Before bytes → ¬ (read.place ≡ first.place)
other_record Before file begin found read front bytes first stands at =
    let same : first.records ≡ read.records =
    records_are_one (chunk_at file read.place) first.records read.records
    (subst (λ (p : ℕ). IsSimple (chunk_at file p) first.records) (sym at) first.holds.holds) read.holds.holds in
    let one : bytes ≡ found.bytes = same_record first.records read.records 0 read.number bytes found.bytes same (sym front) first.stands read.stands in
    read.apart (subst Before one stands)

-- the record that is read is behind one that stands before, or the first one
met_record : (Before : List ℕ → Type 0) (file : List ℕ) (low begin : ℕ) (found : Found) → BeginsBefore Before low file → IsBeginFrom low begin file
    → IsReadRecord Before file begin found → IsMetRecord file Before (found.position, found.bytes)
met_record Before file low begin found before start read = record {
  place = read.place;
  records = read.records;
  number = read.number;
  met = met-on file read.read.places begin read.place (begin_met file low begin start) read.read.between;
  holds = read.holds;
  stands = read.stands;
  position = read.position;
  before = read.before;
  behind = elim (cases_lt 0 read.number) [
    | inl later ↦ inl later
    | inr first ↦
        let some : 0 < (header_at file read.place).num_records =
        some_there file read.place read.records read.number found.bytes read.holds read.stands in
        inr (led_to Before file low begin read.place before start read.read (λ whole few. omega (arith, few, some))
        (other_record Before file begin found read (omega (arith, first))))
  ];
}

pub record-met : (Before : List ℕ → Type 0) (bytes now then : Option (List ℕ)) (low begin : ℕ) (found : Found) → now ≡ bytes → then ≡ bytes
    → IfSome bytes (BeginsBefore Before low) → IfSome now (IsBeginFrom low begin) → IfSome then (λ file. IsReadRecord Before file begin found)
    → IfSome bytes (λ file. IsMetRecord file Before (found.position, found.bytes))
record-met Before None now then low begin found same also before from read = tt
record-met Before (Some file) now then low begin found same also before from read =
    met_record Before file low begin found before (same_told (IsBeginFrom low begin) (Some file) now same from)
    (same_told (λ f. IsReadRecord Before f begin found) (Some file) then also read)
