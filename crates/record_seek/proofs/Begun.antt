-- Where the chunk begins of a record that is found.
use Rattle.std.proofs.Common.{◌≡◌, ◌∙◌, ℕ, ◌+◌, ◌-◌, Option, Some, None, Result, Ok, Err, IfOk, IfSome, List, subst, ap, inl, inr, sym, arith}
use Rattle.std.specs.Prelude.{slice_get}
use Rattle.chunk_reader.specs.PositionSearches.{HasRecordsAt, AnswersAt}
use Rattle.record_seek.specs.Begins.{StandsInChunk, StandsIfFound}
use Rattle.record_seek.specs.Met as met
use Rattle.record_seek.specs.Met.{IsMetBySearch}
use Rattle.record_seek.specs.Steps.{AreRecordsAt, IsNumbered, IsReadRecord, IsReadOn}
use Rattle.record_seek.specs.declared.chunk_records.Found.{Found}
use Rattle.record_seek.specs.declared.chunk_records.ChunkRecords.{ChunkRecords}
use Rattle.record_seek.proofs.Finding.{IsBeginFrom, begin_met, met-on}
use Rattle.record_seek.proofs.Ways.{same_told}

-- the record of a number of the chunk at a place stands in the chunk there
stands_in : (file : List ℕ) (place number : ℕ) (records : List (List ℕ)) (found : Found) → IsMetBySearch file place → HasRecordsAt file place records
    → slice_get records number ≡ Some found.bytes → found.position ≡ place + number → found.begin ≡ place → StandsInChunk file found
stands_in file place number records found here holds stands position begin =
    let same : number ≡ found.position - found.begin = omega (arith, position, begin) in
    record {
      met = subst (IsMetBySearch file) (sym begin) here;
      behind = omega (arith, position, begin);
      stands = record {
        records = records;
        holds = subst (λ (p : ℕ). HasRecordsAt file p records) (sym begin) holds;
        stands = ap (slice_get records) (sym same) ∙ stands;
      };
    }

-- so does one that is read
pub reads-begun : {E : Type 0} (Before : List ℕ → Type 0) (bytes now then : Option (List ℕ)) (low from : ℕ) (result : Result (Option Found) E)
    → now ≡ bytes → then ≡ bytes → IfSome now (IsBeginFrom low from)
    → IfOk result (λ found. IfSome then (λ file. IsReadOn Before file from found)) → IfOk result (StandsIfFound bytes)
reads-begun Before bytes now then low from (Err end) same also start read = tt
reads-begun Before bytes now then low from (Ok None) same also start read = tt
reads-begun Before None now then low from (Ok (Some found)) same also start read = tt
reads-begun Before (Some file) now then low from (Ok (Some found)) same also start read =
    let begun : IsBeginFrom low from file = same_told (IsBeginFrom low from) (Some file) now same start in
    let there : IsReadRecord Before file from found = same_told (λ f. IsReadRecord Before f from found) (Some file) then also read in
    stands_in file there.place there.number there.records found
    (met-on file there.read.places from there.place (begin_met file low from begun) there.read.between)
    there.holds there.stands there.position there.begin

-- and one of the chunk that answers
answering_met : (file : List ℕ) (at place : ℕ) → AnswersAt file at place → IsMetBySearch file place
answering_met file at place answers =
    let searched = answers.searched in
    let way = searched.holds.on_way in
    met-on file searched.places searched.holder place
    (met-on file way.places way.begin searched.holder (met.told way.told) way.between) searched.between

pub numbered-begun : (bytes now : Option (List ℕ)) (at place number : ℕ) (held : ChunkRecords) (found : Option Found) → now ≡ bytes
    → IfSome bytes (λ file. AnswersAt file at place) → held.begin ≡ place → IfSome now (λ file. AreRecordsAt file held)
    → IsNumbered held.records held.begin number found → StandsIfFound bytes found
numbered-begun bytes now at place number held None same answers begin there numbered = tt
numbered-begun None now at place number held (Some found) same answers begin there numbered = tt
numbered-begun (Some file) now at place number held (Some found) same answers begin there (stands, position, starts) =
    let here : AreRecordsAt file held = same_told (λ f. AreRecordsAt f held) (Some file) now same there in
    let has : AnswersAt file at held.begin = subst (AnswersAt file at) (sym begin) answers in
    elim here.records [
      | inl simple ↦
          stands_in file held.begin number held.records found (answering_met file at held.begin has)
          (record { without_fault = here.none; holds = simple }) stands position starts
      | inr none ↦ absurd (omega (arith, none.0, has.has.0))
    ]
