-- What a search by position gives, and what it takes.
use Rattle.std.proofs.Common.{◌≡◌, ◌∙◌, ℕ, ◌+◌, ◌-◌, ◌*◌, ◌^◌, ◌<◌, ◌≤◌, false, Option, Some, None, IfSome, List, [], length, refl, sym, ap, subst, inl, inr, arith}
use Rattle.std.specs.Prelude.{slice_get}
use Rattle.chunk_header.specs.Chunks.{ChunkValue}
use Rattle.meta_chunk.specs.Files.{IsWellFormed, begin_of, LiesIn}
use Rattle.meta_chunk.proofs.Begins.{begin_of_rises}
use Rattle.chunk_reader.specs.Faults.{IsVerdict}
use Rattle.chunk_reader.specs.Holders.{IsHolder, IsHolderFault}
use Rattle.chunk_reader.specs.Places.{end_at}
use Rattle.chunk_reader.specs.Reasons.{Applies, NoneOf, unpassed_reasons, loading_reasons}
use Rattle.chunk_reader.specs.SearchBounds.{position_bound}
use Rattle.chunk_reader.specs.PositionSearches.{HasRecordsAt, SearchComesTo, AnswersAt, SearchGives, IsSearchFault}
use Rattle.chunk_reader.specs.declared.reasons.Fault.{Fault}
use Rattle.chunk_reader.specs.declared.reasons.ReadEnd.TheVariants as read
use Rattle.chunk_reader.proofs.HeadersTell.{stands_below, passed_below, told_end, holder_is}
use Rattle.chunk_reader.proofs.Rooms.{IsSized}
use Rattle.record_seek.specs.Ends.{read_end_of_holder}
use Rattle.record_seek.specs.Found.{IsAnsweringNumber}
use Rattle.record_seek.specs.Steps.{IsAnswer, AreRecordsAt, IsNumbered, placed_of}
use Rattle.record_seek.specs.declared.chunk_records.Found.{Found}
use Rattle.record_seek.specs.declared.chunk_records.ChunkRecords.{ChunkRecords}
use Rattle.record_seek.specs.declared.holders.HolderEnd.{HolderEnd}
use Rattle.record_seek.specs.declared.holders.HolderEnd.TheVariants as holder
use Rattle.record_seek.proofs.ChunkRecords.{strict_none_loading}
use Rattle.record_seek.proofs.Searching.{search_within, answers_is}
use Rattle.record_seek.proofs.Ways.{same_told, IsRefusedAt}

-- a fault comes from one before
pub refused_before : (end : HolderEnd) (fault : Fault) → read.Refused fault ≡ read_end_of_holder end → end ≡ holder.Refused fault
refused_before (holder.Refused other) fault same = cc
refused_before holder.Store fault same = cc

-- that of the search for the holder
pub refused-holder : (bytes : Option (List ℕ)) (at : ℕ) (fault : Fault) → IfSome bytes (λ file. IsHolderFault file at fault)
    → IfSome bytes (λ file. IsSearchFault file at fault)
refused-holder None at fault refused = tt
refused-holder (Some file) at fault refused = inl refused

-- of the search on from there
pub refused-search : (bytes now : Option (List ℕ)) (size at begin : ℕ) (fault : Fault) → now ≡ bytes → IsSized bytes (Some size)
    → IfSome bytes (λ file. IsHolder file at begin)
    → IfSome now (λ file. IsHolder file at begin → SearchComesTo file at fault.at × (fault.at < size) × IsRefusedAt fault file)
    → IfSome bytes (λ file. IsSearchFault file at fault)
refused-search None now size at begin fault same sized holds refused = tt
refused-search (Some file) now size at begin fault same sized holds refused =
    let on = same_told (λ f. IsHolder f at begin → SearchComesTo f at fault.at × (fault.at < size) × IsRefusedAt fault f) (Some file) now same refused in
    let (search, below, first) = on holds in
    inr (inl (search, omega (arith, sized, below), first))

-- the chunk that answers, or none
pub answers : (bytes now : Option (List ℕ)) (at begin : ℕ) (found is : Option ℕ) → now ≡ bytes → found ≡ is
    → IfSome bytes (λ file. IsHolder file at begin) → IfSome now (λ file. IsHolder file at begin → IsAnswer file at found)
    → IfSome bytes (λ file. IsAnswer file at is)
answers None now at begin found is same same_found holds answer = tt
answers (Some file) now at begin found is same same_found holds answer =
    subst (IsAnswer file at) same_found (same_told (λ f. IsHolder f at begin → IsAnswer f at found) (Some file) now same answer holds)

-- its fault
pub refused-answer : (bytes now : Option (List ℕ)) (at place : ℕ) (fault : Fault) → now ≡ bytes → IfSome bytes (λ file. AnswersAt file at place)
    → IfSome now (λ file. IsVerdict false file place fault) → IfSome bytes (λ file. IsSearchFault file at fault)
refused-answer None now at place fault same answer refused = tt
refused-answer (Some file) now at place fault same answer refused =
    inr (inr (place, answer, same_told (λ f. IsVerdict false f place fault) (Some file) now same refused))

-- its record
simple_given : (file : List ℕ) (at number : ℕ) (held : ChunkRecords) (found : Option Found) → number ≡ at - held.begin → AnswersAt file at held.begin
    → HasRecordsAt file held.begin held.records → IsNumbered held.records held.begin number found → SearchGives file at (placed_of found)
simple_given file at number held None is answer there few =
    absurd (omega (arith, is, few, there.holds.num_records, answer.has.0, answer.has.1))
simple_given file at number held (Some found) is answer there (stands, position, begin) = record {
  place = held.begin;
  records = held.records;
  answers = answer;
  holds = there;
  record_there = subst (λ (n : ℕ). slice_get held.records n ≡ Some found.bytes) is stands;
  position_there = omega (arith, is, position);
}

record_given : (file : List ℕ) (at number : ℕ) (held : ChunkRecords) (found : Option Found) → number ≡ at - held.begin → AnswersAt file at held.begin
    → AreRecordsAt file held → IsNumbered held.records held.begin number found → SearchGives file at (placed_of found)
record_given file at number held found is answer there numbered =
    elim there.records [
      | inl simple ↦ simple_given file at number held found is answer (record { without_fault = there.none; holds = simple }) numbered
      | inr none ↦ absurd (omega (arith, none.0, answer.has.0))
    ]

pub gives-answer : (bytes now : Option (List ℕ)) (at place number : ℕ) (held : ChunkRecords) (found : Option Found) → now ≡ bytes
    → number ≡ at - place → IfSome bytes (λ file. AnswersAt file at place) → held.begin ≡ place → IfSome now (λ file. AreRecordsAt file held)
    → IsNumbered held.records held.begin number found → IfSome bytes (λ file. SearchGives file at (placed_of found))
gives-answer None now at place number held found same is answer begin there numbered = tt
gives-answer (Some file) now at place number held found same is answer begin there numbered =
    record_given file at number held found (omega (arith, is, begin)) (subst (AnswersAt file at) (sym begin) answer)
    (same_told (λ f. AreRecordsAt f held) (Some file) now same there) numbered

-- or nothing up to the file's end
pub gives-nothing : (bytes : Option (List ℕ)) (at : ℕ) → IfSome bytes (λ file. SearchComesTo file at (length file))
    → IfSome bytes (λ file. SearchGives file at None)
gives-nothing None at searched = tt
gives-nothing (Some file) at searched = inr searched

-- want of memory is that for the chunk that answers
pub memory-for : (bytes now : Option (List ℕ)) (at place : ℕ) → now ≡ bytes → IfSome bytes (λ file. AnswersAt file at place)
    → IfSome now (λ file. NoneOf (Applies file place) loading_reasons)
    → IfSome bytes (λ file. (p : ℕ) × AnswersAt file at p × NoneOf (Applies file p) loading_reasons)
memory-for None now at place same answer none = tt
memory-for (Some file) now at place same answer none =
    (place, answer, same_told (λ f. NoneOf (Applies f place) loading_reasons) (Some file) now same none)

pub memory-in : (bytes now : Option (List ℕ)) (at place : ℕ) (held : ChunkRecords) → now ≡ bytes → IfSome bytes (λ file. AnswersAt file at place)
    → held.begin ≡ place → IfSome now (λ file. AreRecordsAt file held)
    → IfSome bytes (λ file. (p : ℕ) × AnswersAt file at p × NoneOf (Applies file p) loading_reasons)
memory-in None now at place held same answer begin there = tt
memory-in (Some file) now at place held same answer begin there = (
  held.begin,
  subst (AnswersAt file at) (sym begin) answer,
  strict_none_loading file held.begin (same_told (λ f. AreRecordsAt f held) (Some file) now same there).none,
)

-- so much a search takes of a file of chunks: to find the holder, and the chunk that answers
abbrev pub HoldersTake : (spent now : ℕ) → List ℕ → Type 0
HoldersTake spent now file = (ks : List ChunkValue) → IsWellFormed ks file → now ≤ spent + 65640

abbrev pub HeadersTake : (at begin now then : ℕ) → List ℕ → Type 0
HeadersTake at begin now then file =
    (ks : List ChunkValue) (h j : ℕ) → IsWellFormed ks file → LiesIn ks at h → begin ≡ begin_of ks h → IsAnsweringNumber ks at j
    → then ≤ now + 40 * (j + 1 - h)

abbrev pub SearchTakes : (at spent now : ℕ) → List ℕ → Type 0
SearchTakes at spent now file =
    (ks : List ChunkValue) (h j : ℕ) → IsWellFormed ks file → LiesIn ks at h → IsAnsweringNumber ks at j
    → now ≤ spent + position_bound ks h j

-- the holder is no further than the chunk that answers
holder_first : (ks : List ChunkValue) (file : List ℕ) → IsWellFormed ks file → (at h j : ℕ) → LiesIn ks at h → IsAnsweringNumber ks at j → h ≤ j
holder_first ks file well_formed at h j lies answering =
    omega (arith, search_within ks file well_formed at h lies [] (begin_of ks h) j refl tt answering)

pub takes-holder : (bytes : Option (List ℕ)) (at spent now : ℕ) → IfSome bytes (HoldersTake spent now) → IfSome bytes (SearchTakes at spent now)
takes-holder None at spent now holder = tt
takes-holder (Some file) at spent now holder = λ ks h j well_formed lies answering. omega (arith, holder ks well_formed)

pub takes-headers : (bytes bytes_now : Option (List ℕ)) (size at begin spent now then : ℕ) → bytes_now ≡ bytes → IsSized bytes (Some size)
    → size ≤ 2 ^ 60 → IfSome bytes (λ file. IsHolder file at begin) → IfSome bytes (HoldersTake spent now)
    → IfSome bytes_now (HeadersTake at begin now then) → IfSome bytes (SearchTakes at spent then)
takes-headers None bytes_now size at begin spent now then same sized reach holds holder headers = tt
takes-headers (Some file) bytes_now size at begin spent now then same sized reach holds holder headers =
    let more = same_told (HeadersTake at begin now then) (Some file) bytes_now same headers in
    λ ks h j well_formed lies answering.
    let is : begin ≡ begin_of ks h = holder_is ks file well_formed at begin h (omega (arith, sized, reach)) lies holds in
    omega (arith, holder ks well_formed, more ks h j well_formed lies is answering, holder_first ks file well_formed at h j lies answering)

-- and that chunk itself
pub takes-record : (bytes bytes_now bytes_then : Option (List ℕ)) (size at begin place spent now then last : ℕ) → bytes_now ≡ bytes → bytes_then ≡ bytes
    → IsSized bytes (Some size) → size ≤ 2 ^ 60 → IfSome bytes (λ file. IsHolder file at begin) → IfSome bytes (HoldersTake spent now)
    → IfSome bytes_now (HeadersTake at begin now then) → IfSome bytes (λ file. AnswersAt file at place)
    → IfSome bytes_then (λ file. NoneOf (Applies file place) unpassed_reasons → last + place ≤ then + end_at file place)
    → IfSome bytes (SearchTakes at spent last)
takes-record None bytes_now bytes_then size at begin place spent now then last same also sized reach holds holder headers answer chunk = tt
takes-record (Some file) bytes_now bytes_then size at begin place spent now then last same also sized reach holds holder headers answer chunk =
    let more = same_told (HeadersTake at begin now then) (Some file) bytes_now same headers in
    let whole = same_told (λ f. NoneOf (Applies f place) unpassed_reasons → last + place ≤ then + end_at f place) (Some file) bytes_then also chunk in
    λ ks h j well_formed lies answering.
    let limit : length file ≤ 2 ^ 60 = omega (arith, sized, reach) in
    let is : begin ≡ begin_of ks h = holder_is ks file well_formed at begin h limit lies holds in
    let there : place ≡ begin_of ks j = answers_is ks file well_formed limit at h lies place j answer answering in
    let k = stands_below ks file well_formed j (omega (arith, there, passed_below file place answer.whole)) in
    let end : end_at file place ≡ begin_of ks (j + 1) = ap (end_at file) there ∙ told_end ks file well_formed j k.0 k.1 in
    let rises : begin_of ks j ≤ begin_of ks (j + 1) = begin_of_rises ks j (j + 1) (omega arith) in
    omega (
      arith,
      holder ks well_formed,
      more ks h j well_formed lies is answering,
      holder_first ks file well_formed at h j lies answering,
      whole answer.whole,
      there,
      end,
      rises,
    )
