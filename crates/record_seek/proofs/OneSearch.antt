-- A search by position has one answer at most.
use Rattle.std.proofs.Common.{◌≡◌, ◌∙◌, ◌⊎◌, ℕ, ◌-◌, ◌<◌, false, Option, Some, None, List, length, refl, sym, ap, subst, inl, inr, arith}
use Rattle.std.specs.Prelude.{slice_get}
use Rattle.std.proofs.lemmas.Option.{same_Some}
use Rattle.chunk_header.specs.SimpleChunks.{IsSimple}
use Rattle.chunk_header.proofs.OneList.{records_are_one}
use Rattle.chunk_reader.specs.Faults.{IsVerdict}
use Rattle.chunk_reader.specs.Holders.{ArePlacesBetween, IsHolderFault}
use Rattle.chunk_reader.specs.Places.{chunk_at}
use Rattle.chunk_reader.specs.Reasons.{Applies, NoneOf, strict_reasons}
use Rattle.chunk_reader.specs.PositionSearches.{MayAnswerAt, SearchComesTo, AnswersAt, IsSought, SearchGives, IsSearchFault}
use Rattle.chunk_reader.specs.declared.reasons.Fault.{Fault}
use Rattle.chunk_reader.proofs.FileFaults.{verdict_is_one}
use Rattle.chunk_reader.proofs.HeadersTell.{passed_below}
use Rattle.chunk_reader.proofs.NoReason.{none_is_first}
use Rattle.record_seek.proofs.OneHolder.{StopsAt, stops_are_one, refused_stops, holder_is_one, holder_or_fault, verdict_unpassed, holder_fault_is_one}

-- a search goes no further than to a place: no chunk is passed there, or the one there answers
record SearchStopsAt (file : List ℕ) (position place : ℕ) : Type 0 where
  comes : SearchComesTo file position place
  stops : StopsAt (λ passed. ¬ MayAnswerAt file position passed) file place

-- it stops at one
stop_is_one : (file : List ℕ) (position a b : ℕ) → SearchStopsAt file position a → SearchStopsAt file position b → a ≡ b
stop_is_one file position a b search other =
    let same : search.comes.holder ≡ other.comes.holder =
    holder_is_one file position search.comes.holder other.comes.holder search.comes.holds other.comes.holds in
    stops_are_one (λ passed. ¬ MayAnswerAt file position passed) file search.comes.places other.comes.places other.comes.holder a b
    (subst (λ (p : ℕ). ArePlacesBetween file p a search.comes.places) same search.comes.between) search.comes.none
    other.comes.between other.comes.none search.stops other.stops

-- at the chunk that answers
answer_stops : (file : List ℕ) (position place : ℕ) → AnswersAt file position place → SearchStopsAt file position place
answer_stops file position place answers = record { comes = answers.searched; stops = λ none not. not answers.has }

-- or at the file's end
end_stops : (file : List ℕ) (position : ℕ) → SearchComesTo file position (length file) → SearchStopsAt file position (length file)
end_stops file position searched = record {
  comes = searched;
  stops = λ none not. omega (arith, passed_below file (length file) none);
}

-- or where its fault is the verdict
record IsFaultAt (file : List ℕ) (position : ℕ) (fault : Fault) (place : ℕ) : Type 0 where
  at : SearchStopsAt file position place
  below : place < length file
  verdict : IsVerdict false file place fault

-- a fault of the search: that of the search for the holder, or one behind the holder
fault_cases : (file : List ℕ) (position : ℕ) (fault : Fault) → IsSearchFault file position fault
    → IsHolderFault file position fault ⊎ ((place : ℕ) × IsFaultAt file position fault place)
fault_cases file position fault (inl unheld) = inl unheld
fault_cases file position fault (inr (inl (searched, below, first))) =
    inr (
      fault.at,
      record {
        at = record {
          comes = searched;
          stops = refused_stops (λ passed. ¬ MayAnswerAt file position passed) file fault.at fault.why first;
        };
        below = below;
        verdict = verdict_unpassed file fault first;
      },
    )
fault_cases file position fault (inr (inr (place, answers, verdict))) =
    inr (
      place,
      record {
        at = answer_stops file position place answers;
        below = passed_below file place answers.whole;
        verdict = verdict;
      },
    )

-- it has one below the file's end alone
pub fault_below : (file : List ℕ) (position : ℕ) (fault : Fault) → IsSearchFault file position fault → position < length file
fault_below file position fault (inl (inl (below, refused))) = below
fault_below file position fault (inl (inr (way, first))) = way.below
fault_below file position fault (inr (inl (searched, below, first))) = searched.holds.on_way.below
fault_below file position fault (inr (inr (place, answers, verdict))) = answers.searched.holds.on_way.below

-- at one number of one list stands one record
pub same_record : (rs ss : List (List ℕ)) (m n : ℕ) (r s : List ℕ) → rs ≡ ss → m ≡ n → slice_get rs m ≡ Some r → slice_get ss n ≡ Some s → r ≡ s
same_record rs ss m n r s same also here there =
    same_Some r s (sym here ∙ ap (λ (list : List (List ℕ)). slice_get list m) same ∙ ap (slice_get ss) also ∙ there)

-- the record that is found is one
sought_is_one : (file : List ℕ) (position : ℕ) (found other : ℕ × List ℕ) → IsSought file position found → IsSought file position other
    → found ≡ other
sought_is_one file position (at, bytes) (there, others) sought also =
    let same : sought.place ≡ also.place =
    stop_is_one file position sought.place also.place (answer_stops file position sought.place sought.answers)
    (answer_stops file position also.place also.answers) in
    let records : sought.records ≡ also.records =
    records_are_one (chunk_at file also.place) sought.records also.records
    (subst (λ (p : ℕ). IsSimple (chunk_at file p) sought.records) same sought.holds.holds) also.holds.holds in
    let same_bytes : bytes ≡ others =
    same_record sought.records also.records (position - sought.place) (position - also.place) bytes others records
    (ap (λ (p : ℕ). position - p) same) sought.record_there also.record_there in
    let same_position : at ≡ there = omega (arith, same, sought.position_there, also.position_there) in
    cc (same_position, same_bytes)

-- a record isn't found where nothing is
found_or_nothing : (file : List ℕ) (position : ℕ) (found : ℕ × List ℕ) → IsSought file position found → ¬ SearchGives file position None
found_or_nothing file position found sought (inl past) = omega (arith, past, sought.answers.searched.holds.on_way.below)
found_or_nothing file position found sought (inr searched) =
    let same : sought.place ≡ length file =
    stop_is_one file position sought.place (length file) (answer_stops file position sought.place sought.answers)
    (end_stops file position searched) in
    omega (arith, same, passed_below file sought.place sought.answers.whole)

-- so what is given is one
pub given_is_one : (file : List ℕ) (position : ℕ) (a b : Option (ℕ × List ℕ)) → SearchGives file position a → SearchGives file position b → a ≡ b
given_is_one file position None None gives also = refl
given_is_one file position None (Some found) gives sought = absurd (found_or_nothing file position found sought gives)
given_is_one file position (Some found) None sought gives = absurd (found_or_nothing file position found sought gives)
given_is_one file position (Some found) (Some other) sought also = ap Some (sought_is_one file position found other sought also)

-- where a search has come from a holder there is no fault of the search for it
held : (file : List ℕ) (position place : ℕ) (fault : Fault) → SearchComesTo file position place → ¬ IsHolderFault file position fault
held file position place fault searched = holder_or_fault file position searched.holder fault searched.holds

-- what is given isn't refused
sought_or_fault : (file : List ℕ) (position : ℕ) (found : ℕ × List ℕ) (fault : Fault) → IsSought file position found
    → ¬ IsSearchFault file position fault
sought_or_fault file position found fault sought refused =
    elim (fault_cases file position fault refused) [
      | inl unheld ↦ held file position sought.place fault sought.answers.searched unheld
      | inr (place, behind) ↦
          let same : sought.place ≡ place =
          stop_is_one file position sought.place place (answer_stops file position sought.place sought.answers) behind.at in
          none_is_first (Applies file place) (strict_reasons false) fault.why
          (subst (λ (p : ℕ). NoneOf (Applies file p) (strict_reasons false)) same sought.holds.without_fault) behind.verdict.0
    ]

ended_or_fault : (file : List ℕ) (position : ℕ) (fault : Fault) → SearchComesTo file position (length file)
    → ¬ IsSearchFault file position fault
ended_or_fault file position fault searched refused =
    elim (fault_cases file position fault refused) [
      | inl unheld ↦ held file position (length file) fault searched unheld
      | inr (place, behind) ↦
          let same : length file ≡ place =
          stop_is_one file position (length file) place (end_stops file position searched) behind.at in
          omega (arith, same, behind.below)
    ]

pub given_or_fault : (file : List ℕ) (position : ℕ) (given : Option (ℕ × List ℕ)) (fault : Fault) → SearchGives file position given
    → ¬ IsSearchFault file position fault
given_or_fault file position None fault (inl past) refused = omega (arith, past, fault_below file position fault refused)
given_or_fault file position None fault (inr searched) refused = ended_or_fault file position fault searched refused
given_or_fault file position (Some found) fault sought refused = sought_or_fault file position found fault sought refused

-- and the fault is one
pub search_fault_is_one : (file : List ℕ) (position : ℕ) (a b : Fault) → IsSearchFault file position a → IsSearchFault file position b → a ≡ b
search_fault_is_one file position a b refused also =
    elim (fault_cases file position a refused) [
      | inl unheld ↦ elim (fault_cases file position b also) [
        | inl too ↦ holder_fault_is_one file position a b unheld too
        | inr (place, behind) ↦ absurd (held file position place a behind.at.comes unheld)
      ]
      | inr (place, behind) ↦ elim (fault_cases file position b also) [
        | inl unheld ↦ absurd (held file position place b behind.at.comes unheld)
        | inr (other, there) ↦
            let same : place ≡ other = stop_is_one file position place other behind.at there.at in
            verdict_is_one false file other a b (subst (λ (p : ℕ). IsVerdict false file p a) same behind.verdict) there.verdict
      ]
    ]
