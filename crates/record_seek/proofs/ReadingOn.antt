-- Reading on from chunk to chunk.
use Rattle.std.proofs.Common.{◌≡◌, ◌∙◌, ◌⊎◌, ℕ, ◌+◌, ◌-◌, ◌*◌, ◌<◌, ◌≤◌, ◌↔◌, Bool, IsTrue, true, false, Option, Some, None, Result, Ok, Err, IfOk, IfSome, List, [], ◌∷◌, ◌++◌, length, refl, sym, ap, subst, inl, inr, arith}
use Rattle.std.specs.Prelude.{slice_get}
use Rattle.std.proofs.lemmas.List.{length-append}
use Rattle.std.proofs.lemmas.Option.{slice_get_cases}
use Rattle.chunk_header.specs.SimpleChunks.{IsSimple}
use Rattle.chunk_reader.specs.Faults.{IsVerdict}
use Rattle.chunk_reader.specs.Holders.{ArePlacesBetween}
use Rattle.chunk_reader.specs.Places.{header_at, end_at, chunk_at}
use Rattle.chunk_reader.specs.Reasons.{Applies, NoneOf, IsFirstOf, unpassed_reasons, loading_reasons}
use Rattle.chunk_reader.specs.PositionSearches.{HasRecordsAt}
use Rattle.chunk_reader.specs.declared.reasons.Fault.{Fault}
use Rattle.chunk_reader.proofs.Rooms.{IsSized}
use Rattle.record_seek.specs.Met.{HaveNoRecords}
use Rattle.record_seek.specs.Steps.{IsPassedAt, AreRecordsAt, IsFirstBefore, IsFirstNot, EndBefore, AreReadTo, IsReadRecord, IsFaultOn, LoadsOn, IsFirstFrom, AreFirstRecords, NoneFrom, AreNextRecords, IsPaidOn, IsLook}
use Rattle.record_seek.specs.declared.chunk_records.Found.{Found}
use Rattle.record_seek.specs.declared.chunk_records.ChunkRecords.{ChunkRecords}
use Rattle.record_seek.specs.declared.passes.Passed.{Passed}
use Rattle.record_seek.proofs.ChunkRecords.{strict_none_loading}
use Rattle.record_seek.proofs.Searching.{all-push}
use Rattle.record_seek.proofs.Ways.{between-push, same_told}

-- a list with one more at its end, and with one more in front of a part of it
push-parts : (front rest : List ℕ) (x y : ℕ) → (front ++ x ∷ rest) ++ y ∷ [] ≡ front ++ x ∷ (rest ++ y ∷ [])
push-parts [] rest x y = refl
push-parts (z ∷ front) rest x y = ap (λ (zs : List ℕ). z ∷ zs) (push-parts front rest x y)

none-push : (file places : List ℕ) (place : ℕ) → HaveNoRecords file places → (header_at file place).num_records ≡ 0
    → HaveNoRecords file (places ++ place ∷ [])
none-push file places place none here = all-push (λ p. (header_at file p).num_records ≡ 0) places place none here

-- chunks without records come to a place, each of which cost its header
pub record IsEmptyTo (file : List ℕ) (from to spent now : ℕ) : Type 0 where
  pub places : List ℕ
  pub between : ArePlacesBetween file from to places
  pub none : HaveNoRecords file places
  pub paid : now ≤ spent + 40 * length places

pub empty-begun : (bytes : Option (List ℕ)) (from spent : ℕ) → IfSome bytes (λ file. IsEmptyTo file from from spent spent)
empty-begun None from spent = tt
empty-begun (Some file) from spent = record { places = []; between = refl; none = tt; paid = omega arith }

pub empty-on : (bytes bytes_now : Option (List ℕ)) (from place : ℕ) (chunk : Passed) (spent now then : ℕ) → bytes_now ≡ bytes
    → IfSome bytes (λ file. IsEmptyTo file from place spent now) → IfSome bytes_now (λ file. IsPassedAt file place chunk) → chunk.num_records ≤ 0
    → then ≤ now + 40 → IfSome bytes (λ file. IsEmptyTo file from chunk.end spent then)
empty-on None bytes_now from place chunk spent now then same empty passed few more = tt
empty-on (Some file) bytes_now from place chunk spent now then same empty passed few more =
    let here : IsPassedAt file place chunk = same_told (λ f. IsPassedAt f place chunk) (Some file) bytes_now same passed in
    record {
      places = empty.places ++ place ∷ [];
      between = subst (λ (p : ℕ). ArePlacesBetween file from p (empty.places ++ place ∷ [])) (sym here.end)
          (between-push file empty.places from place empty.between here.none);
      none = none-push file empty.places place empty.none (omega (arith, few, here.num_records));
      paid = omega (arith, more, empty.paid, length-append empty.places (place ∷ []));
    }

-- up to the first chunk with records
pub first-records : (bytes bytes_now bytes_then : Option (List ℕ)) (from place : ℕ) (chunk : Passed) (spent now then last : ℕ) (held : ChunkRecords) → bytes_now ≡ bytes
    → bytes_then ≡ bytes → IfSome bytes (λ file. IsEmptyTo file from place spent now) → IfSome bytes_now (λ file. IsPassedAt file place chunk)
    → 0 < chunk.num_records → then ≤ now + 40 → held.begin ≡ place → IfSome bytes_then (λ file. AreRecordsAt file held)
    → IfSome bytes_then (λ file. NoneOf (Applies file place) unpassed_reasons → last + place ≤ then + end_at file place)
    → IfSome bytes (λ file. AreFirstRecords file from spent last held)
first-records None bytes_now bytes_then from place chunk spent now then last held same also empty passed some more at there read = tt
first-records (Some file) bytes_now bytes_then from place chunk spent now then last held same also empty passed some more at there read =
    let here : IsPassedAt file place chunk = same_told (λ f. IsPassedAt f place chunk) (Some file) bytes_now same passed in
    let is : AreRecordsAt file held = same_told (λ f. AreRecordsAt f held) (Some file) bytes_then also there in
    let whole = same_told (λ f. NoneOf (Applies f place) unpassed_reasons → last + place ≤ then + end_at f place) (Some file) bytes_then also read in
    let count : chunk.num_records ≡ (chunk_at file held.begin).num_records =
    here.num_records ∙ ap (λ (p : ℕ). (chunk_at file p).num_records) (sym at) in
    let simple : IsSimple (chunk_at file held.begin) held.records = elim is.records [
      | inl simple ↦ simple
      | inr none ↦ absurd (omega (arith, some, count, none.0))
    ] in
    record {
      places = empty.places;
      between = subst (λ (p : ℕ). ArePlacesBetween file from p empty.places) (sym at) empty.between;
      none_before = empty.none;
      whole = subst (λ (p : ℕ). NoneOf (Applies file p) unpassed_reasons) (sym at) here.none;
      end = is.end;
      holds = record { without_fault = is.none; holds = simple };
      some = omega (arith, some, count, simple.num_records);
      paid = omega (arith, whole here.none, is.end, ap (end_at file) at, at, more, empty.paid);
    }

-- of whose first record it is asked whether it stands before
first_there : (Before : List ℕ → Type 0) (file : List ℕ) (from spent now : ℕ) (held : ChunkRecords) (before : Bool)
    → AreFirstRecords file from spent now held → IsFirstBefore Before held.records before
    → (bytes : List ℕ) × IsFirstFrom file from bytes × (IsTrue before ↔ Before bytes)
first_there Before file from spent now held before first (inr (empty, never)) = absurd (omega (arith, first.some, ap length empty))
first_there Before file from spent now held before first (inl (bytes, stands, asked)) = (
  bytes,
  record {
    place = held.begin;
    places = first.places;
    records = held.records;
    between = first.between;
    none_before = first.none_before;
    whole = first.whole;
    holds = first.holds;
    stands = stands;
  },
  asked,
)

pub ok_at : {X E : Type 0} (P : X → Type 0) (result : Result X E) (x : X) → IfOk result P → result ≡ Ok x → P x
ok_at P (Ok found) x holds is = subst (λ (r : Result _ _). IfOk r P) is holds
ok_at P (Err end) x holds is = cc

pub some_at : {X : Type 0} (P : X → Type 0) (o : Option X) (x : X) → IfSome o P → o ≡ Some x → P x
some_at P (Some found) x holds is = subst (λ (o : Option _). IfSome o P) is holds
some_at P None x holds is = cc

-- and that is what a look tells
pub look-first : (Before : List ℕ → Type 0) (bytes : Option (List ℕ)) (begin spent now : ℕ) (next : Option ChunkRecords) (held : ChunkRecords) (before : Bool)
    → next ≡ Some held → IfSome bytes (λ file. AreNextRecords file begin spent now next) → IsFirstBefore Before held.records before
    → IfSome bytes (IsLook Before (record { begin = begin; before = before }))
look-first Before None begin spent now next held before is first asked = tt
look-first Before (Some file) begin spent now next held before is first asked =
    let (bytes, there, asks) = first_there Before file begin spent now held before (subst (AreNextRecords file begin spent now) is first) asked in
    record {
      before = λ answer. (bytes, there, asks.0 answer);
      not_before = λ answer.
          inl (
            bytes,
            there,
            λ stands.
                let other : before ≡ true = asks.1 stands in
                absurd (cc),
          );
    }

-- or there is none up to the file's end
pub look-none : (Before : List ℕ → Type 0) (bytes : Option (List ℕ)) (begin spent now : ℕ) (next : Option ChunkRecords) → next ≡ None
    → IfSome bytes (λ file. AreNextRecords file begin spent now next) → IfSome bytes (IsLook Before (record { begin = begin; before = false }))
look-none Before None begin spent now next none is = tt
look-none Before (Some file) begin spent now next none is =
    let to_end : NoneFrom file begin = subst (AreNextRecords file begin spent now) none is in
    record { before = λ answer. absurd (cc); not_before = λ _. inr to_end }

pub empty-ended : (bytes : Option (List ℕ)) (size from place spent now : ℕ) → IsSized bytes (Some size) → place ≤ size → size ≤ place
    → IfSome bytes (λ file. IsEmptyTo file from place spent now) → IfSome bytes (λ file. NoneFrom file from)
empty-ended None size from place spent now sized within past empty = tt
empty-ended (Some file) size from place spent now sized within past empty =
    let end : place ≡ length file = omega (arith, sized, within, past) in
    (empty.places, subst (λ (p : ℕ). ArePlacesBetween file from p empty.places) end empty.between, empty.none)

-- so much is handed out for that
pub paid-header : (bytes : Option (List ℕ)) (from place spent now then : ℕ) → IfSome bytes (λ file. IsEmptyTo file from place spent now)
    → then ≤ now + 40 → IfSome bytes (IsPaidOn from spent then)
paid-header None from place spent now then empty more = tt
paid-header (Some file) from place spent now then empty more = record {
  place = place;
  places = empty.places;
  between = empty.between;
  none_before = empty.none;
  paid = inl (omega (arith, more, empty.paid));
}

pub paid-chunk : (bytes bytes_now bytes_then : Option (List ℕ)) (from place : ℕ) (chunk : Passed) (spent now then last : ℕ) → bytes_now ≡ bytes
    → bytes_then ≡ bytes → IfSome bytes (λ file. IsEmptyTo file from place spent now) → IfSome bytes_now (λ file. IsPassedAt file place chunk)
    → 0 < chunk.num_records → then ≤ now + 40
    → IfSome bytes_then (λ file. NoneOf (Applies file place) unpassed_reasons → last + place ≤ then + end_at file place)
    → IfSome bytes (IsPaidOn from spent last)
paid-chunk None bytes_now bytes_then from place chunk spent now then last same also empty passed some more read = tt
paid-chunk (Some file) bytes_now bytes_then from place chunk spent now then last same also empty passed some more read =
    let here : IsPassedAt file place chunk = same_told (λ f. IsPassedAt f place chunk) (Some file) bytes_now same passed in
    let whole = same_told (λ f. NoneOf (Applies f place) unpassed_reasons → last + place ≤ then + end_at f place) (Some file) bytes_then also read in
    record {
      place = place;
      places = empty.places;
      between = empty.between;
      none_before = empty.none;
      paid = inr (here.none, omega (arith, some, here.num_records), omega (arith, whole here.none, more, empty.paid));
    }

-- a fault of the next chunk header
unpassed_verdict : (file : List ℕ) (place : ℕ) (fault : Fault) → fault.at ≡ place → IsFirstOf (Applies file place) unpassed_reasons fault.why
    → IsVerdict false file place fault
unpassed_verdict file place fault at (inl (short, is)) = (inl (short, is), rw is at)
unpassed_verdict file place fault at (inr (not_short, inl (hash, is))) = (inr (not_short, inl (hash, is)), rw is at)
unpassed_verdict file place fault at (inr (not_short, inr (right, inl (cut, is)))) = (inr (not_short, inr (right, inl (cut, is))), rw is at)
unpassed_verdict file place fault at (inr (not_short, inr (right, inr (whole, none)))) = absurd none

-- the chunks on the way, whatever they hold
abbrev pub IsComeTo : (from place : ℕ) → List ℕ → Type 0
IsComeTo from place file = (places : List ℕ) × ArePlacesBetween file from place places

pub empty-come : (bytes : Option (List ℕ)) (from place spent now : ℕ) → IfSome bytes (λ file. IsEmptyTo file from place spent now)
    → IfSome bytes (IsComeTo from place)
empty-come None from place spent now empty = tt
empty-come (Some file) from place spent now empty = (empty.places, empty.between)

pub read-come : (Before : List ℕ → Type 0) (bytes : Option (List ℕ)) (from place : ℕ) → IfSome bytes (λ file. AreReadTo Before file from place)
    → IfSome bytes (IsComeTo from place)
read-come Before None from place read = tt
read-come Before (Some file) from place read = (read.places, read.between)

pub fault-header : (bytes now : Option (List ℕ)) (size from place : ℕ) (fault : Fault) → now ≡ bytes → IsSized bytes (Some size) → place < size
    → IfSome bytes (IsComeTo from place)
    → (fault.at ≡ place) × IfSome now (λ file. IsFirstOf (Applies file place) unpassed_reasons fault.why)
    → IfSome bytes (λ file. IsFaultOn file from fault)
fault-header None now size from place fault same sized below come refused = tt
fault-header (Some file) now size from place fault same sized below come refused = record {
  place = place;
  places = come.0;
  between = come.1;
  below = omega (arith, sized, below);
  verdict = unpassed_verdict file place fault refused.0
      (same_told (λ f. IsFirstOf (Applies f place) unpassed_reasons fault.why) (Some file) now same refused.1);
}

-- or of the chunk that is judged
pub fault-chunk : (bytes now : Option (List ℕ)) (size from place : ℕ) (fault : Fault) → now ≡ bytes → IsSized bytes (Some size) → place < size
    → IfSome bytes (IsComeTo from place) → IfSome now (λ file. IsVerdict false file place fault)
    → IfSome bytes (λ file. IsFaultOn file from fault)
fault-chunk None now size from place fault same sized below come refused = tt
fault-chunk (Some file) now size from place fault same sized below come refused = record {
  place = place;
  places = come.0;
  between = come.1;
  below = omega (arith, sized, below);
  verdict = same_told (λ f. IsVerdict false f place fault) (Some file) now same refused;
}

-- or its data may be read
pub loads-on : (bytes now : Option (List ℕ)) (from place : ℕ) → now ≡ bytes → IfSome bytes (IsComeTo from place)
    → IfSome now (λ file. NoneOf (Applies file place) loading_reasons) → IfSome bytes (λ file. LoadsOn file from)
loads-on None now from place same come none = tt
loads-on (Some file) now from place same come none =
    (place, come.0, come.1, same_told (λ f. NoneOf (Applies f place) loading_reasons) (Some file) now same none)

-- a fault or such a chunk further on
between_append : (file ps qs : List ℕ) (from place to : ℕ) → ArePlacesBetween file from place ps → ArePlacesBetween file place to qs
    → ArePlacesBetween file from to (ps ++ qs)
between_append file [] qs from place to same rest = subst (λ (p : ℕ). ArePlacesBetween file p to qs) (sym same) rest
between_append file (p ∷ ps) qs from place to (same, passed, rest) further =
    (same, passed, between_append file ps qs (end_at file from) place to rest further)

pub fault-further : (bytes now : Option (List ℕ)) (from place : ℕ) (fault : Fault) → now ≡ bytes → IfSome bytes (IsComeTo from place)
    → IfSome now (λ file. IsFaultOn file place fault) → IfSome bytes (λ file. IsFaultOn file from fault)
fault-further None now from place fault same come refused = tt
fault-further (Some file) now from place fault same come refused =
    let on : IsFaultOn file place fault = same_told (λ f. IsFaultOn f place fault) (Some file) now same refused in
    record {
      place = on.place;
      places = come.0 ++ on.places;
      between = between_append file come.0 on.places from place on.place come.1 on.between;
      below = on.below;
      verdict = on.verdict;
    }

pub loads-further : (bytes now : Option (List ℕ)) (from place : ℕ) → now ≡ bytes → IfSome bytes (IsComeTo from place)
    → IfSome now (λ file. LoadsOn file place) → IfSome bytes (λ file. LoadsOn file from)
loads-further None now from place same come loads = tt
loads-further (Some file) now from place same come loads =
    let (at, places, between, none) = same_told (λ f. LoadsOn f place) (Some file) now same loads in
    (at, come.0 ++ places, between_append file come.0 places from place at come.1 between, none)

pub loads-first : (bytes : Option (List ℕ)) (from spent now : ℕ) (next : Option ChunkRecords) (held : ChunkRecords) → next ≡ Some held
    → IfSome bytes (λ file. AreNextRecords file from spent now next) → IfSome bytes (λ file. LoadsOn file from)
loads-first None from spent now next held is first = tt
loads-first (Some file) from spent now next held is first =
    let there : AreFirstRecords file from spent now held = subst (AreNextRecords file from spent now) is first in
    (held.begin, there.places, there.between, strict_none_loading file held.begin there.holds.without_fault)

-- records are read from chunk to chunk
pub read-begun : (Before : List ℕ → Type 0) (bytes : Option (List ℕ)) (from : ℕ) → IfSome bytes (λ file. AreReadTo Before file from from)
read-begun Before None from = tt
read-begun Before (Some file) from = record { places = []; between = refl; last = inl tt }

-- past a chunk without records
last-empty : (Before : List ℕ → Type 0) (file places : List ℕ) (place : ℕ) → (header_at file place).num_records ≡ 0
    → HaveNoRecords file places ⊎ EndBefore Before file places
    → HaveNoRecords file (places ++ place ∷ []) ⊎ EndBefore Before file (places ++ place ∷ [])
last-empty Before file places place here (inl none) = inl (none-push file places place none here)
last-empty Before file places place here (inr end) = inr (record {
  front = end.front;
  place = end.place;
  rest = end.rest ++ place ∷ [];
  records = end.records;
  last = end.last;
  parts = ap (λ (ps : List ℕ). ps ++ place ∷ []) end.parts ∙ push-parts end.front end.rest end.place place;
  none_behind = none-push file end.rest place end.none_behind here;
  holds = end.holds;
  last_there = end.last_there;
  before = end.before;
})

pub read_empty : (Before : List ℕ → Type 0) (file : List ℕ) (from place : ℕ) → AreReadTo Before file from place
    → NoneOf (Applies file place) unpassed_reasons → (header_at file place).num_records ≡ 0 → AreReadTo Before file from (end_at file place)
read_empty Before file from place read none few = record {
  places = read.places ++ place ∷ [];
  between = between-push file read.places from place read.between none;
  last = last-empty Before file read.places place few read.last;
}

read_empties : (Before : List ℕ → Type 0) (file : List ℕ) (from place to : ℕ) (places : List ℕ) → AreReadTo Before file from place
    → ArePlacesBetween file place to places → HaveNoRecords file places → AreReadTo Before file from to
read_empties Before file from place to [] read same none = subst (AreReadTo Before file from) same read
read_empties Before file from place to (p ∷ places) read (same, passed, rest) none =
    read_empties Before file from (end_at file place) to places
    (read_empty Before file from place read passed (ap (λ (q : ℕ). (header_at file q).num_records) (sym same) ∙ none.0)) rest none.1

pub item_at : {R : Type 0} (records : List R) (i : ℕ) → i < length records → (r : R) × (slice_get records i ≡ Some r)
item_at records i within =
    elim (slice_get_cases records i).1 [
      | inl (r, inside, at, same) ↦ (r, at)
      | inr (past, none) ↦ absurd (omega (arith, past, within))
    ]

-- past one whose records stand before
pub read_records : (Before : List ℕ → Type 0) (file : List ℕ) (from place : ℕ) (records : List (List ℕ)) → AreReadTo Before file from place
    → NoneOf (Applies file place) unpassed_reasons → 0 < length records → HasRecordsAt file place records
    → IsFirstNot Before records place None → AreReadTo Before file from (end_at file place)
read_records Before file from place records read none some holds all =
    let last = item_at records (length records - 1) (omega (arith, some)) in
    record {
      places = read.places ++ place ∷ [];
      between = between-push file read.places from place read.between none;
      last = inr (record {
        front = read.places;
        place = place;
        rest = [];
        records = records;
        last = last.0;
        parts = refl;
        none_behind = tt;
        holds = holds;
        last_there = last.1;
        before = all (length records - 1) last.0 last.1;
      });
    }

pub read-records : (Before : List ℕ → Type 0) (bytes now : Option (List ℕ)) (from place spent paid : ℕ) (next : Option ChunkRecords) (held : ChunkRecords) (found : Option Found) → now ≡ bytes
    → IfSome bytes (λ file. AreReadTo Before file from place) → next ≡ Some held → IfSome now (λ file. AreNextRecords file place spent paid next)
    → found ≡ None → IsFirstNot Before held.records held.begin found → IfSome bytes (λ file. AreReadTo Before file from held.end)
read-records Before None now from place spent paid next held found same read is first none all = tt
read-records Before (Some file) now from place spent paid next held found same read is first none all =
    let there : AreFirstRecords file place spent paid held =
    subst (AreNextRecords file place spent paid) is (same_told (λ f. AreNextRecords f place spent paid next) (Some file) now same first) in
    subst (AreReadTo Before file from) (sym there.end)
    (read_records Before file from held.begin held.records
    (read_empties Before file from place held.begin there.places read there.between there.none_before) there.whole there.some there.holds
    (subst (IsFirstNot Before held.records held.begin) none all))

-- to a record that doesn't
pub read_record : (Before : List ℕ → Type 0) (file : List ℕ) (from place : ℕ) (records : List (List ℕ)) (found : Found) → AreReadTo Before file from place
    → NoneOf (Applies file place) unpassed_reasons → HasRecordsAt file place records → IsFirstNot Before records place (Some found)
    → IsReadRecord Before file from found
read_record Before file from place records found read none holds (number, stands, position, begin, apart, before) = record {
  place = place;
  records = records;
  number = number;
  read = read;
  whole = none;
  holds = holds;
  stands = stands;
  position = position;
  begin = begin;
  apart = apart;
  before = before;
}

pub read-found : (Before : List ℕ → Type 0) (bytes now : Option (List ℕ)) (from place spent paid : ℕ) (next : Option ChunkRecords) (held : ChunkRecords) (found : Option Found) (f : Found) → now ≡ bytes
    → IfSome bytes (λ file. AreReadTo Before file from place) → next ≡ Some held → IfSome now (λ file. AreNextRecords file place spent paid next)
    → found ≡ Some f → IsFirstNot Before held.records held.begin found → IfSome bytes (λ file. IsReadRecord Before file from f)
read-found Before None now from place spent paid next held found f same read is first some not = tt
read-found Before (Some file) now from place spent paid next held found f same read is first some not =
    let there : AreFirstRecords file place spent paid held =
    subst (AreNextRecords file place spent paid) is (same_told (λ f. AreNextRecords f place spent paid next) (Some file) now same first) in
    read_record Before file from held.begin held.records f
    (read_empties Before file from place held.begin there.places read there.between there.none_before) there.whole there.holds
    (subst (IsFirstNot Before held.records held.begin) some not)

-- or to the file's end
pub read-ended : (Before : List ℕ → Type 0) (bytes now : Option (List ℕ)) (from place spent paid : ℕ) (next : Option ChunkRecords) → now ≡ bytes
    → IfSome bytes (λ file. AreReadTo Before file from place) → next ≡ None → IfSome now (λ file. AreNextRecords file place spent paid next)
    → IfSome bytes (λ file. AreReadTo Before file from (length file))
read-ended Before None now from place spent paid next same read is none = tt
read-ended Before (Some file) now from place spent paid next same read is none =
    let end : NoneFrom file place =
    subst (AreNextRecords file place spent paid) is (same_told (λ f. AreNextRecords f place spent paid next) (Some file) now same none) in
    read_empties Before file from place (length file) end.0 read end.1 end.2
