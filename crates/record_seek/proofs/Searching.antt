-- The search from the chunk that holds a position to the one that answers.
use Rattle.std.proofs.Common.{◌≡◌, ◌∙◌, ℕ, ◌+◌, ◌-◌, ◌*◌, ◌^◌, ◌<◌, ◌≤◌, Option, Some, None, IfSome, List, [], ◌∷◌, ◌++◌, length, refl, sym, ap, subst, inl, inr, arith}
use Rattle.std.specs.List.{AllByRecursion}
use Rattle.std.proofs.lemmas.Bool.{cases_lt}
use Rattle.std.proofs.lemmas.List.{length-append}
use Rattle.std.proofs.lemmas.Option.{slice_get_within}
use Rattle.chunk_header.specs.Chunks.{ChunkValue}
use Rattle.meta_chunk.specs.Files.{IsWellFormed, begin_of, LiesIn}
use Rattle.meta_chunk.proofs.Begins.{begin_of-next, begin_of_rises}
use Rattle.block_layout.proofs.ChunkEnds.{chunk_end_of_past_records}
use Rattle.chunk_reader.specs.Holders.{ArePlacesBetween, IsHolder}
use Rattle.chunk_reader.specs.Places.{header_at}
use Rattle.chunk_reader.specs.Reasons.{Applies, IsFirstOf, unpassed_reasons}
use Rattle.chunk_reader.specs.PositionSearches.{HasRecordFrom, MayAnswerAt, SearchComesTo, AnswersAt}
use Rattle.chunk_reader.specs.declared.reasons.Fault.{Fault}
use Rattle.chunk_reader.proofs.HeadersTell.{passed_below, stands_below, told_end, told_records, places_are, holder_is}
use Rattle.chunk_reader.proofs.Rooms.{IsSized}
use Rattle.record_seek.specs.Found.{MayAnswer, IsAnswering, IsAnsweringNumber}
use Rattle.record_seek.specs.Steps.{IsPassedAt}
use Rattle.record_seek.specs.declared.passes.Passed.{Passed}
use Rattle.record_seek.proofs.Ways.{between-push, same_told, IsRefusedAt, refused_there}

-- one more of which it holds
pub all-push : (P : ℕ → Type 0) (xs : List ℕ) (x : ℕ) → AllByRecursion P xs → P x → AllByRecursion P (xs ++ x ∷ [])
all-push P [] x all holds = (holds, tt)
all-push P (y ∷ xs) x all holds = (all.0, all-push P xs x all.1 holds)

-- a search has come from one place to another, past chunks that don't answer, each of which cost its header
pub record IsSearchTo (at begin place spent now : ℕ) (file : List ℕ) : Type 0 where
  pub places : List ℕ
  pub between : ArePlacesBetween file begin place places
  pub none : AllByRecursion (λ passed. ¬ MayAnswerAt file at passed) places
  pub paid : now ≤ spent + 40 * length places

searched : (at begin place spent now : ℕ) (file : List ℕ) → IsSearchTo at begin place spent now file → IsHolder file at begin
    → SearchComesTo file at place
searched at begin place spent now file search holder =
    record { holder = begin; places = search.places; holds = holder; between = search.between; none = search.none }

pub search-begun : (bytes : Option (List ℕ)) (at begin spent : ℕ) → IfSome bytes (IsSearchTo at begin begin spent spent)
search-begun None at begin spent = tt
search-begun (Some file) at begin spent = record { places = []; between = refl; none = tt; paid = omega arith }

-- past one chunk more
pub search-on : (bytes now_bytes : Option (List ℕ)) (at begin place : ℕ) (chunk : Passed) (spent now then : ℕ) → now_bytes ≡ bytes
    → IfSome bytes (IsSearchTo at begin place spent now) → IfSome now_bytes (λ file. IsPassedAt file place chunk)
    → ¬ HasRecordFrom at place chunk.num_records → then ≤ now + 40 → IfSome bytes (IsSearchTo at begin chunk.end spent then)
search-on None now_bytes at begin place chunk spent now then same search passed not more = tt
search-on (Some file) now_bytes at begin place chunk spent now then same search passed not more =
    let here : IsPassedAt file place chunk = same_told (λ f. IsPassedAt f place chunk) (Some file) now_bytes same passed in
    record {
      places = search.places ++ place ∷ [];
      between = subst (λ (p : ℕ). ArePlacesBetween file begin p (search.places ++ place ∷ [])) (sym here.end)
          (between-push file search.places begin place search.between here.none);
      none = all-push (λ passed. ¬ MayAnswerAt file at passed) search.places place search.none
          (λ may. not (subst (HasRecordFrom at place) (sym here.num_records) may));
      paid = omega (arith, more, search.paid, length-append search.places (place ∷ []));
    }

-- to the chunk that answers
pub search-found : (bytes now_bytes : Option (List ℕ)) (at begin place : ℕ) (chunk : Passed) (spent now : ℕ) → now_bytes ≡ bytes
    → IfSome bytes (IsSearchTo at begin place spent now) → IfSome now_bytes (λ file. IsPassedAt file place chunk)
    → HasRecordFrom at place chunk.num_records → IfSome bytes (λ file. IsHolder file at begin → AnswersAt file at place)
search-found None now_bytes at begin place chunk spent now same search passed has = tt
search-found (Some file) now_bytes at begin place chunk spent now same search passed has =
    let here : IsPassedAt file place chunk = same_told (λ f. IsPassedAt f place chunk) (Some file) now_bytes same passed in
    λ holder. record {
      searched = searched at begin place spent now file search holder;
      whole = here.none;
      has = subst (HasRecordFrom at place) here.num_records has;
    }

-- or to the file's end
pub search-ended : (bytes : Option (List ℕ)) (size at begin place spent now : ℕ) → IsSized bytes (Some size) → place ≤ size → size ≤ place
    → IfSome bytes (IsSearchTo at begin place spent now) → IfSome bytes (λ file. IsHolder file at begin → SearchComesTo file at (length file))
search-ended None size at begin place spent now sized within past search = tt
search-ended (Some file) size at begin place spent now sized within past search =
    let end : place ≡ length file = omega (arith, sized, within, past) in
    λ holder. subst (SearchComesTo file at) end (searched at begin place spent now file search holder)

-- or to a chunk that can't be passed
pub search-refused : (bytes now_bytes : Option (List ℕ)) (size at begin place spent now : ℕ) (fault : Fault) → now_bytes ≡ bytes
    → place < size → IfSome bytes (IsSearchTo at begin place spent now)
    → (fault.at ≡ place) × IfSome now_bytes (λ file. IsFirstOf (Applies file place) unpassed_reasons fault.why)
    → IfSome bytes (λ file. IsHolder file at begin → SearchComesTo file at fault.at × (fault.at < size) × IsRefusedAt fault file)
search-refused None now_bytes size at begin place spent now fault same below search refused = tt
search-refused (Some file) now_bytes size at begin place spent now fault same below search refused =
    let first : IsRefusedAt fault file = refused_there (Some file) now_bytes place fault same refused in
    λ holder. (
      subst (SearchComesTo file at) (sym refused.0) (searched at begin place spent now file search holder),
      omega (arith, refused.0, below),
      first,
    )

-- in a file of chunks
module _ (ks : List ChunkValue) (file : List ℕ) (well_formed : IsWellFormed ks file) (at h : ℕ) (lies : LiesIn ks at h) where
  -- no chunk before the holder answers
  pub not_before : (i : ℕ) (k : ChunkValue) → MayAnswer ks at i k → h ≤ i
  not_before i k may =
      elim (cases_lt i h) [
        | inl before ↦
            absurd (omega (
              arith,
              may.has.1,
              chunk_end_of_past_records (begin_of ks i) (40 + length k.«data») k.num_records,
              begin_of-next ks i k may.stands,
              begin_of_rises ks (i + 1) h (omega (arith, before)),
              lies.begins,
            ))
        | inr from ↦ from
      ]

  -- and none that is passed
  none_at : (places : List ℕ) (n to : ℕ) → n ≤ length ks → ArePlacesBetween file (begin_of ks n) to places
      → AllByRecursion (λ passed. ¬ MayAnswerAt file at passed) places
      → (i : ℕ) (k : ChunkValue) → n ≤ i → i < n + length places → ¬ MayAnswer ks at i k
  none_at [] n to inside same none i k from below may =
      let count : n + length {A = ℕ} [] ≡ n = omega arith in
      omega (arith, from, below, count)
  none_at (place ∷ places) n to inside (same, passed, rest) none i k from below may =
      let chunk = stands_below ks file well_formed n (passed_below file (begin_of ks n) passed) in
      elim (cases_lt n i) [
        | inl behind ↦
            none_at places (n + 1) to (omega (arith, slice_get_within ks n chunk.0 chunk.1))
            (subst (λ (p : ℕ). ArePlacesBetween file p to places) (told_end ks file well_formed n chunk.0 chunk.1) rest) none.1 i k
            (omega (arith, behind)) (omega (arith, below)) may
        | inr not ↦
            let one : i ≡ n = omega (arith, from, not) in
            let there : place ≡ begin_of ks i = same ∙ ap (begin_of ks) (sym one) in
            let count : (header_at file place).num_records ≡ k.num_records =
            ap (λ (p : ℕ). (header_at file p).num_records) there ∙ told_records ks file well_formed i k may.stands in
            absurd (none.0 (omega (arith, count, may.has.0), omega (arith, count, there, may.has.1)))
      ]

  pub none_passed : (places : List ℕ) (to : ℕ) → ArePlacesBetween file (begin_of ks h) to places
      → AllByRecursion (λ passed. ¬ MayAnswerAt file at passed) places
      → (i : ℕ) (k : ChunkValue) → MayAnswer ks at i k → h + length places ≤ i
  none_passed places to between none i k may =
      elim (cases_lt i (h + length places)) [
        | inl below ↦
            absurd (none_at places h to (omega (arith, lies.number)) between none i k (not_before i k may) below may)
        | inr past ↦ past
      ]

  -- so a search goes no further than the chunk that answers
  pub search_within : (places : List ℕ) (to j : ℕ) → ArePlacesBetween file (begin_of ks h) to places
      → AllByRecursion (λ passed. ¬ MayAnswerAt file at passed) places → IsAnsweringNumber ks at j → h + length places ≤ j
  search_within places to j between none (inl (k, answers)) = none_passed places to between none j k answers.may
  search_within places to j between none (inr (end, nothing)) =
      omega (arith, end, (places_are ks file well_formed places h to (omega (arith, lies.number)) between).0)

-- what it took
pub search-paid : (bytes : Option (List ℕ)) (at begin place spent now then : ℕ) → then ≤ now + 40
    → IfSome bytes (IsSearchTo at begin place spent now)
    → IfSome bytes (λ file. (ks : List ChunkValue) (h j : ℕ) → IsWellFormed ks file → LiesIn ks at h → begin ≡ begin_of ks h
    → IsAnsweringNumber ks at j → then ≤ spent + 40 * (j + 1 - h))
search-paid None at begin place spent now then more search = tt
search-paid (Some file) at begin place spent now then more search =
    λ ks h j well_formed lies is answers.
    let between = subst (λ (p : ℕ). ArePlacesBetween file p place search.places) is search.between in
    let within = search_within ks file well_formed at h lies search.places place j between search.none answers in
    omega (arith, within, search.paid, more)

-- in a file of chunks, the chunk that answers is the one of that number
module _ (ks : List ChunkValue) (file : List ℕ) (well_formed : IsWellFormed ks file) (reach : length file ≤ 2 ^ 60) (at h : ℕ) (lies : LiesIn ks at h) where
  -- where a search has come to
  pub searched_to : (place : ℕ) → SearchComesTo file at place → (places : List ℕ) × ArePlacesBetween file (begin_of ks h) place places
      × AllByRecursion (λ passed. ¬ MayAnswerAt file at passed) places
  searched_to place search =
      let is : search.holder ≡ begin_of ks h = holder_is ks file well_formed at search.holder h reach lies search.holds in
      (search.places, subst (λ (p : ℕ). ArePlacesBetween file p place search.places) is search.between, search.none)

  pub answering_of : (place : ℕ) → AnswersAt file at place → (j : ℕ) × (k : ChunkValue) × (place ≡ begin_of ks j) × IsAnswering ks at j k
  answering_of place answers =
      let way = searched_to place answers.searched in
      let there = places_are ks file well_formed way.0 h place (omega (arith, lies.number)) way.1 in
      let i : ℕ = h + length way.0 in
      let is : place ≡ begin_of ks i = there.1 in
      let k = stands_below ks file well_formed i (omega (arith, is, passed_below file place answers.whole)) in
      let count : (header_at file place).num_records ≡ k.0.num_records =
      ap (λ (p : ℕ). (header_at file p).num_records) is ∙ told_records ks file well_formed i k.0 k.1 in
      let may : MayAnswer ks at i k.0 = record {
        stands = k.1;
        has = (omega (arith, count, answers.has.0), omega (arith, count, is, answers.has.1));
      } in
      (i, k.0, is, record { may = may; first = λ n other has. none_passed ks file well_formed at h lies way.0 place way.1 way.2 n other has })

  pub answers_is : (place j : ℕ) → AnswersAt file at place → IsAnsweringNumber ks at j → place ≡ begin_of ks j
  answers_is place j answers (inl (k, is)) =
      let (i, other, there, also) = answering_of place answers in
      let same : i ≡ j = omega (arith, also.first j k is.may, is.first i other also.may) in
      there ∙ ap (begin_of ks) same
  answers_is place j answers (inr (end, nothing)) =
      let (i, other, there, also) = answering_of place answers in
      absurd (nothing i other also.may)
