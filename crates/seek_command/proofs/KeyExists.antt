-- In each list of bytes a search for a key may find a record or nothing, or be refused.
use Rattle.std.proofs.Common.{◌≡◌, ◌∙◌, ◌⊎◌, ℕ, zero, suc, ◌+◌, ◌<◌, ◌≤◌, Bool, true, false, Option, Some, None, List, [], ◌∷◌, length, refl, sym, subst, inl, inr, arith}
use Rattle.std.specs.Prelude.{slice_get}
use Rattle.std.proofs.lemmas.Bool.{cases_lt}
use Rattle.std.proofs.lemmas.Option.{same_Some}
use Rattle.chunk_header.specs.Chunks.{ChunkValue}
use Rattle.meta_chunk.specs.Files.{IsPlain, IsReadable, ArePlaced, begin_of}
use Rattle.chunk_reader.specs.Places.{header_at, end_at, chunk_at}
use Rattle.chunk_reader.specs.Reasons.{Applies, NoneOf, IsFirstOf, unpassed_reasons, strict_reasons}
use Rattle.chunk_reader.specs.PositionSearches.{HasRecordsAt}
use Rattle.chunk_reader.specs.declared.reasons.Fault.{Fault}
use Rattle.chunk_reader.proofs.ChainSteps.{each_at}
use Rattle.chunk_reader.proofs.FaultsDecided.{judged}
use Rattle.chunk_reader.proofs.WellFormedFiles.{readable_of_well_formed}
use Rattle.chunk_reader.proofs.HeadersTell.{laid_at, places_are, stands_below}
use Rattle.chunk_reader.proofs.NoReason.{no_reason, none_is_first}
use Rattle.chunk_reader.proofs.NoReasonLaid.{allowed_where_none}
use Rattle.chunk_reader.proofs.PassedChunks.{end_at_after}
use Rattle.record_seek.specs.Found.{IsKeyFound, BytesStandBefore}
use Rattle.record_seek.specs.Steps.{AreReadTo, IsReadOn, IsFaultOn, placed_of}
use Rattle.record_seek.specs.declared.chunk_records.Found.{Found}
use Rattle.record_seek.proofs.Finding.{fault-met}
use Rattle.record_seek.proofs.FoundByKey.{record_found, none_found}
use Rattle.record_seek.proofs.JudgedSearch.{holds_counted}
use Rattle.record_seek.proofs.OneFound.{found_in_order}
use Rattle.record_seek.proofs.PlacedRecords.{none_before_first}
use Rattle.record_seek.proofs.ReadingOn.{read_empty, read_records, read_record}
use Rattle.record_seek.proofs.RightBehind.{nothing-left, record-met}
use Rattle.seek_command.specs.Searches.{is_below, IsBelow, MayFind, IsKeyFault}

-- of the records of a number below one each is less than the key
abbrev AreBelow : (key : List ℕ) → List (List ℕ) → ℕ → Type 0
AreBelow key records count = (i : ℕ) (bytes : List ℕ) → i < count → slice_get records i ≡ Some bytes → IsBelow key bytes

-- the first of some records that isn't less
record IsFirst (key : List ℕ) (records : List (List ℕ)) : Type 0 where
  number : ℕ
  bytes : List ℕ
  stands : slice_get records number ≡ Some bytes
  apart : ¬ IsBelow key bytes
  before : AreBelow key records number

-- or each is
abbrev AllBelow : (key : List ℕ) → List (List ℕ) → Type 0
AllBelow key records = (i : ℕ) (bytes : List ℕ) → slice_get records i ≡ Some bytes → IsBelow key bytes

before_next : (key r : List ℕ) (records : List (List ℕ)) (count : ℕ) → IsBelow key r → AreBelow key records count → AreBelow key (r ∷ records) (suc count)
before_next key r records count first rest zero bytes less there = subst (IsBelow key) (same_Some r bytes there) first
before_next key r records count first rest (suc i) bytes less there = rest i bytes (omega (arith, less)) there

all_next : (key r : List ℕ) (records : List (List ℕ)) → IsBelow key r → AllBelow key records → AllBelow key (r ∷ records)
all_next key r records first rest zero bytes there = subst (IsBelow key) (same_Some r bytes there) first
all_next key r records first rest (suc i) bytes there = rest i bytes there

first_next : (key r : List ℕ) (records : List (List ℕ)) (less : Bool) → is_below key r ≡ less → IsFirst key records ⊎ AllBelow key records
    → IsFirst key (r ∷ records) ⊎ AllBelow key (r ∷ records)
first_next key r records false is rest =
    inl (record {
      number = 0;
      bytes = r;
      stands = refl;
      apart = λ below. cc (sym is ∙ below);
      before = λ i bytes less there. absurd (omega (arith, less));
    })
first_next key r records true is (inl first) =
    inl (record {
      number = suc first.number;
      bytes = first.bytes;
      stands = first.stands;
      apart = first.apart;
      before = before_next key r records first.number is first.before;
    })
first_next key r records true is (inr all) = inr (all_next key r records is all)

first_not : (key : List ℕ) (records : List (List ℕ)) → IsFirst key records ⊎ AllBelow key records
first_not key [] = inr (λ i bytes there. absurd (cc there))
first_not key (r ∷ records) = first_next key r records (is_below key r) refl (first_not key records)

-- the chunk at a place without fault is passed
is_passed : (file : List ℕ) (place : ℕ) → NoneOf (Applies file place) (strict_reasons false) → NoneOf (Applies file place) unpassed_reasons
is_passed file place none = (none.0, (none.1.0, (none.1.1.0, tt)))

-- where it ends lies in the file
end_within : (file : List ℕ) (place : ℕ) → NoneOf (Applies file place) (strict_reasons false) → end_at file place ≤ length file
end_within file place none =
    elim (cases_lt (length file) (end_at file place)) [
      | inl past ↦ absurd (none.1.1.0 past)
      | inr within ↦ within
    ]

-- reading on from the file's front comes to a record, to the end, or to a fault
abbrev IsReadOrNot : (key file : List ℕ) → Type 0
IsReadOrNot key file = ((found : Option Found) × IsReadOn (IsBelow key) file 0 found) ⊎ ((fault : Fault) × IsFaultOn file 0 fault)

module _ (key file : List ℕ) where
  ended : (place : ℕ) → place ≤ length file → length file ≤ place → AreReadTo (IsBelow key) file 0 place → IsReadOrNot key file
  ended place within past read =
      let end : place ≡ length file = omega (arith, within, past) in
      inl (None, subst (AreReadTo (IsBelow key) file 0) end read)

  read_from : (most place : ℕ) → length file ≤ place + most → place ≤ length file → AreReadTo (IsBelow key) file 0 place → IsReadOrNot key file
  read_from zero place near within read = ended place within (omega (arith, near)) read
  read_from (suc most) place near within read =
      elim (cases_lt place (length file)) [
        | inr past ↦ ended place within past read
        | inl below ↦ elim (judged false file place) [
          | inl (fault, verdict) ↦
              inr (fault, record { place = place; places = read.places; between = read.between; below = below; verdict = verdict })
          | inr none ↦
              let passed = is_passed file place none in
              let on = read_from most (end_at file place) (omega (arith, near, end_at_after file place)) (end_within file place none) in
              elim (cases_lt 0 (header_at file place).num_records) [
                | inr few ↦
                    on (read_empty (IsBelow key) file 0 place read passed (omega (arith, few)))
                | inl some ↦
                    let (records, simple) = holds_counted (chunk_at file place) (allowed_where_none false file place none) some in
                    let holds : HasRecordsAt file place records = record { without_fault = none; holds = simple } in
                    elim (first_not key records) [
                      | inl first ↦
                          let found : Found = record { begin = place; position = place + first.number; bytes = first.bytes } in
                          inl (
                            Some found,
                            read_record (IsBelow key) file 0 place records found read passed holds
                                (first.number, first.stands, refl, refl, first.apart, first.before),
                          )
                      | inr all ↦
                          on (read_records (IsBelow key) file 0 place records read passed (omega (arith, some, simple.num_records)) holds all)
                    ]
              ]
        ]
      ]

  read_or_not : IsReadOrNot key file
  read_or_not = read_from (length file) 0 (omega arith) (omega arith) (record { places = []; between = refl; last = inl tt })

  -- what is read so may be found
  among : (found : Option Found) → IsReadOn (IsBelow key) file 0 found → (ks : List ChunkValue) (placed : List (ℕ × List ℕ))
      → IsReadable ks file → ArePlaced ks placed → IsKeyFound (BytesStandBefore (IsBelow key)) placed (placed_of found)
  among None read ks placed whole are =
      let (well_formed, plain) = (readable_of_well_formed ks file).1 whole in
      subst (λ (xs : List (ℕ × List ℕ)). IsKeyFound (BytesStandBefore (IsBelow key)) xs None) (sym are.2)
      (none_found (IsBelow key) ks file well_formed plain are.0 are.1 0 (omega arith) (inl (none_before_first are.0)) read)
  among (Some found) read ks placed whole are =
      let (well_formed, plain) = (readable_of_well_formed ks file).1 whole in
      subst (λ (xs : List (ℕ × List ℕ)). IsKeyFound (BytesStandBefore (IsBelow key)) xs (Some (found.position, found.bytes))) (sym are.2)
      (record_found (IsBelow key) ks file well_formed plain are.0 are.1 0 found (omega arith) (inl (none_before_first are.0)) read)

  may_find : (found : Option Found) → IsReadOn (IsBelow key) file 0 found → MayFind key file (placed_of found)
  may_find None read = record {
    among = among None read;
    in_order = λ ks placed count whole are front.
        (found_in_order (BytesStandBefore (IsBelow key)) placed count front None).0 (among None read ks placed whole are);
    apart = tt;
    met = tt;
    none = λ is. nothing-left (IsBelow key) (Some file) (Some file) (Some file) 0 0 refl refl (inl refl) (inl (refl, refl)) read;
  }
  may_find (Some found) read = record {
    among = among (Some found) read;
    in_order = λ ks placed count whole are front.
        (found_in_order (BytesStandBefore (IsBelow key)) placed count front (Some (found.position, found.bytes))).0 (among (Some found) read ks placed whole are);
    apart = read.apart;
    met = record-met (IsBelow key) (Some file) (Some file) (Some file) 0 0 found refl refl (inl refl) (inl (refl, refl)) read;
    none = λ is. absurd (cc is);
  }

  -- and no file without fault has a fault on the way
  whole_not : (fault : Fault) → IsFaultOn file 0 fault → (ks : List ChunkValue) → ¬ IsReadable ks file
  whole_not fault on ks whole =
      let (well_formed, plain) = (readable_of_well_formed ks file).1 whole in
      let j : ℕ = 0 + length on.places in
      let there = places_are ks file well_formed on.places 0 on.place (omega arith) on.between in
      let k = stands_below ks file well_formed j (omega (arith, there.1, on.below)) in
      let none = no_reason false (begin_of ks j) k.0 file (begin_of ks (j + 1)) (laid_at ks file well_formed j k.0 k.1)
      (each_at IsPlain ks j k.0 whole.1.each k.1) in
      none_is_first (Applies file (begin_of ks j)) (strict_reasons false) fault.why none
      (subst (λ (p : ℕ). IsFirstOf (Applies file p) (strict_reasons false) fault.why) there.1 on.verdict.0)

  pub found_or_refused : ((found : Option (ℕ × List ℕ)) × MayFind key file found) ⊎ ((fault : Fault) × IsKeyFault file fault)
  found_or_refused =
      elim read_or_not [
        | inl (found, read) ↦ inl (placed_of found, may_find found read)
        | inr (fault, on) ↦ inr (
          fault,
          record {
            met = fault-met (Some file) (Some file) (Some file) 0 0 fault refl refl (inl (refl, refl)) on;
            not_whole = whole_not fault on;
          },
        )
      ]
