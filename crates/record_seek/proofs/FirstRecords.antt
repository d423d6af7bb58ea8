-- In a file of chunks a search by position finds the first record there.
use Rattle.std.proofs.Common.{◌≡◌, ◌∙◌, ◌⊎◌, ℕ, zero, suc, ◌+◌, ◌-◌, ◌^◌, ◌<◌, ◌≤◌, Some, None, List, [], ◌∷◌, ◌++◌, length, take, refl, sym, ap, subst, inl, inr, arith}
use Rattle.std.specs.Prelude.{slice_get}
use Rattle.std.specs.List.{AllByRecursion, enumerate_from}
use Rattle.std.proofs.lemmas.Bool.{cases_lt}
use Rattle.std.proofs.lemmas.Option.{same_Some, slice_get_within}
use Rattle.block_layout.proofs.ChunkEnds.{chunk_end_of_past_records}
use Rattle.chunk_header.specs.Chunks.{ChunkValue}
use Rattle.chunk_header.specs.SimpleChunks.{IsSimple}
use Rattle.meta_chunk.specs.Files.{IsWellFormed, Holds, HoldEach, ArePlaced, begin_of, end_of_chunks, placed_from, LiesIn}
use Rattle.meta_chunk.specs.Laid.{end_of_chunk}
use Rattle.meta_chunk.proofs.Begins.{begin_of-next, begin_of_rises, begin_of_rises_by}
use Rattle.chunk_reader.specs.Holders.{ArePlacesBetween}
use Rattle.chunk_reader.specs.Places.{header_at, chunk_at}
use Rattle.chunk_reader.specs.PositionSearches.{MayAnswerAt, SearchComesTo, AnswersAt, IsSought, SearchGives}
use Rattle.chunk_reader.proofs.HeadersTell.{laid_at, last_end, told_end, told_records, passes, passed_below, stands_below, places_are, places_of, lies_of, holder_there}
use Rattle.chunk_reader.proofs.LaidAt.{chunk_at-laid}
use Rattle.record_seek.specs.Found.{MayAnswer, IsAnswering}
use Rattle.record_seek.specs.FirstRecords.{IsFirstAt}
use Rattle.record_seek.proofs.PlacedRecords.{records_before, placed-stands}
use Rattle.record_seek.proofs.Searching.{not_before, none_passed, searched_to, answering_of}

-- what stands in a list that another is joined to stands in one of them
stands-cases : {X : Type 0} (xs ys : List X) (i : ℕ) (x : X) → slice_get (xs ++ ys) i ≡ Some x
    → (slice_get xs i ≡ Some x) ⊎ ((j : ℕ) × (slice_get ys j ≡ Some x))
stands-cases [] ys i x stands = inr (i, stands)
stands-cases (y ∷ xs) ys zero x stands = inl stands
stands-cases (y ∷ xs) ys (suc i) x stands = stands-cases xs ys i x stands

-- the records of a chunk with their positions
enumerate-stands : (place : ℕ) (records : List (List ℕ)) (n : ℕ) (x : ℕ × List ℕ) → slice_get (enumerate_from place records) n ≡ Some x
    → (slice_get records n ≡ Some x.1) × (x.0 ≡ place + n)
enumerate-stands place [] n x stands = absurd (cc)
enumerate-stands place (r ∷ records) zero x stands =
    let same : (place, r) ≡ x = same_Some (place, r) x stands in
    (ap (λ (y : ℕ × List ℕ). Some y.1) same, omega (arith, ap (λ (y : ℕ × List ℕ). y.0) same))
enumerate-stands place (r ∷ records) (suc n) x stands =
    let rest = enumerate-stands (place + 1) records n x stands in
    (rest.0, omega (arith, rest.1))

-- each of a file's records is one of a chunk
pub record IsOfChunk (place : ℕ) (ks : List ChunkValue) (x : ℕ × List ℕ) : Type 0 where
  pub chunk : ℕ
  pub k : ChunkValue
  pub records : List (List ℕ)
  pub number : ℕ
  pub at : slice_get ks chunk ≡ Some k
  pub holds : Holds k records
  pub stands : slice_get records number ≡ Some x.1
  pub position : x.0 ≡ end_of_chunks place (take chunk ks) + number

pub placed-of : (place : ℕ) (ks : List ChunkValue) (lists : List (List (List ℕ))) (i : ℕ) (x : ℕ × List ℕ) → HoldEach ks lists
    → slice_get (placed_from place ks lists) i ≡ Some x → IsOfChunk place ks x
placed-of place [] lists i x each stands = absurd (cc)
placed-of place (y ∷ ks) [] i x each stands = elim each [ ]
placed-of place (y ∷ ks) (held ∷ lists) i x each stands =
    elim (stands-cases (enumerate_from place held) (placed_from (end_of_chunk place y) ks lists) i x stands) [
      | inl here ↦
          let there = enumerate-stands place held i x here in
          record { chunk = 0; k = y; records = held; number = i; at = refl; holds = each.0; stands = there.0; position = there.1 }
      | inr (j, behind) ↦
          let rest = placed-of (end_of_chunk place y) ks lists j x each.1 behind in
          record {
            chunk = suc rest.chunk;
            k = rest.k;
            records = rest.records;
            number = rest.number;
            at = rest.at;
            holds = rest.holds;
            stands = rest.stands;
            position = rest.position;
          }
    ]

-- so many records a chunk has
pub held_number : (k : ChunkValue) (records : List (List ℕ)) (n : ℕ) (r : List ℕ) → Holds k records → slice_get records n ≡ Some r → n < k.num_records
held_number k records n r (inl simple) stands = omega (arith, simple.num_records, slice_get_within records n r stands)
held_number k records n r (inr (none, nothing)) stands = omega (arith, ap length nothing, slice_get_within records n r stands)

module _ (ks : List ChunkValue) (file : List ℕ) (well_formed : IsWellFormed ks file) (reach : length file ≤ 2 ^ 60) (position : ℕ) where
  -- the record that is found is the first
  pub first_record : (placed : List (ℕ × List ℕ)) (found : ℕ × List ℕ) → position < length file → ArePlaced ks placed
      → IsSought file position found → IsFirstAt placed position (Some found)
  first_record placed found below (lists, each, is) sought =
      let holder = lies_of ks file well_formed position below in
      let (j, k, there, answers) = answering_of ks file well_formed reach position holder.0 holder.1 sought.place sought.answers in
      let same : chunk_at file sought.place ≡ k =
      ap (chunk_at file) there ∙ chunk_at-laid (begin_of ks j) k file (begin_of ks (j + 1)) (laid_at ks file well_formed j k answers.may.stands) in
      let simple : IsSimple k sought.records = subst (λ (c : ChunkValue). IsSimple c sought.records) same sought.holds.holds in
      let number : ℕ = position - sought.place in
      let index : ℕ = records_before lists j + number in
      let at = placed-stands 0 ks lists j k sought.records number found.1 each answers.may.stands simple sought.record_there in
      let pair : (begin_of ks j + number, found.1) ≡ found =
      ap (λ (p : ℕ). (p, found.1)) (omega (arith, there, sought.position_there)) in
      let stands : slice_get placed index ≡ Some found =
      ap (λ (xs : List (ℕ × List ℕ)). slice_get xs index) is ∙ at ∙ ap (λ (x : ℕ × List ℕ). Some x) pair in
      let few : number < k.num_records =
      omega (arith, simple.num_records, slice_get_within sought.records number found.1 sought.record_there) in (
        (index, stands),
        omega (arith, sought.position_there),
        λ i other stands past.
            let of = placed-of 0 ks lists i other each (ap (λ (xs : List (ℕ × List ℕ)). slice_get xs i) (sym is) ∙ stands) in
            let less : of.number < of.k.num_records = held_number of.k of.records of.number other.1 of.holds of.stands in
            let may : MayAnswer ks position of.chunk of.k = record {
              stands = of.at;
              has = (omega (arith, less), omega (arith, past, of.position, less));
            } in
            elim (cases_lt j of.chunk) [
              | inl behind ↦
                  omega (
                    arith,
                    of.position,
                    begin_of_rises ks (j + 1) of.chunk (omega (arith, behind)),
                    begin_of-next ks j k answers.may.stands,
                    chunk_end_of_past_records (begin_of ks j) (40 + length k.«data») k.num_records,
                    few,
                    there,
                    sought.position_there,
                  )
              | inr not ↦
                  let one : of.chunk ≡ j = omega (arith, not, answers.first of.chunk of.k may) in
                  omega (arith, of.position, ap (begin_of ks) one, past, there, sought.position_there)
            ],
      )

  -- nothing is found exactly where no chunk answers
  pub none_answers : SearchGives file position None → (i : ℕ) (k : ChunkValue) → ¬ MayAnswer ks position i k
  none_answers (inl past) i k may =
      let within : begin_of ks (i + 1) ≤ length file =
      omega (arith, begin_of_rises ks (i + 1) (length ks) (omega (arith, slice_get_within ks i k may.stands)), last_end ks file well_formed) in
      omega (
        arith,
        may.has.1,
        past,
        within,
        begin_of-next ks i k may.stands,
        chunk_end_of_past_records (begin_of ks i) (40 + length k.«data») k.num_records,
      )
  none_answers (inr searched) i k may =
      let holder = lies_of ks file well_formed position searched.holds.on_way.below in
      let way = searched_to ks file well_formed reach position holder.0 holder.1 (length file) searched in
      let there = places_are ks file well_formed way.0 holder.0 (length file) (omega (arith, holder.1.number)) way.1 in
      let past : holder.0 + length way.0 ≤ i = none_passed ks file well_formed position holder.0 holder.1 way.0 (length file) way.1 way.2 i k may in
      let stands : i < length ks = slice_get_within ks i k may.stands in
      let rises : begin_of ks (holder.0 + length way.0) ≤ begin_of ks i = begin_of_rises ks (holder.0 + length way.0) i past in
      let more : begin_of ks i + 40 ≤ begin_of ks (i + 1) = begin_of_rises_by ks i stands in
      let end : begin_of ks (i + 1) ≤ begin_of ks (length ks) = begin_of_rises ks (i + 1) (length ks) (omega (arith, stands)) in
      omega (arith, there.1, rises, more, end, last_end ks file well_formed)

  -- chunks that don't answer are passed
  all_passed : (places : List ℕ) (n to : ℕ) → n ≤ length ks → ArePlacesBetween file (begin_of ks n) to places
      → ((i : ℕ) (k : ChunkValue) → n ≤ i → i < n + length places → ¬ MayAnswer ks position i k)
      → AllByRecursion (λ passed. ¬ MayAnswerAt file position passed) places
  all_passed [] n to inside between none = tt
  all_passed (place ∷ places) n to inside (same, passed, rest) none =
      let chunk = stands_below ks file well_formed n (passed_below file (begin_of ks n) passed) in
      let count : (header_at file place).num_records ≡ chunk.0.num_records =
      ap (λ (p : ℕ). (header_at file p).num_records) same ∙ told_records ks file well_formed n chunk.0 chunk.1 in (
        (λ may. none n chunk.0 (omega arith) (omega arith) (record {
          stands = chunk.1;
          has = (omega (arith, count, may.0), omega (arith, count, same, may.1));
        })),
        all_passed places (n + 1) to (omega (arith, slice_get_within ks n chunk.0 chunk.1))
            (subst (λ (p : ℕ). ArePlacesBetween file p to places) (told_end ks file well_formed n chunk.0 chunk.1) rest)
            (λ i k from below. none i k (omega (arith, from)) (omega (arith, below))),
      )

  -- begins of different chunks differ
  same_begin : (i j : ℕ) → i ≤ length ks → j ≤ length ks → begin_of ks i ≡ begin_of ks j → i ≤ j
  same_begin i j inside within same =
      elim (cases_lt j i) [
        | inl less ↦
            absurd (omega (arith, same, begin_of_rises_by ks j (omega (arith, less, inside)), begin_of_rises ks (j + 1) i (omega (arith, less))))
        | inr not ↦ not
      ]

  -- so a search comes to each chunk before which none answers
  searched_up_to : (h n : ℕ) → LiesIn ks position h → h + n ≤ length ks
      → ((i : ℕ) (k : ChunkValue) → i < h + n → ¬ MayAnswer ks position i k) → SearchComesTo file position (begin_of ks (h + n))
  searched_up_to h n lies inside none =
      let places = places_of ks file well_formed n h inside in
      let count = places_are ks file well_formed places.0 h (begin_of ks (h + n)) (omega (arith, inside)) places.1 in
      let same : h + length places.0 ≤ h + n = same_begin (h + length places.0) (h + n) count.0 inside (sym count.1) in
      record {
        holder = begin_of ks h;
        places = places.0;
        holds = holder_there ks file well_formed position h reach lies;
        between = places.1;
        none = all_passed places.0 h (begin_of ks (h + n)) (omega (arith, inside)) places.1
            (λ i k from below. none i k (omega (arith, below, same)));
      }

  pub nothing_is_given : ((i : ℕ) (k : ChunkValue) → ¬ MayAnswer ks position i k) → SearchGives file position None
  nothing_is_given none =
      elim (cases_lt position (length file)) [
        | inl below ↦
            let holder = lies_of ks file well_formed position below in
            let all : holder.0 + (length ks - holder.0) ≡ length ks = omega (arith, holder.1.number) in
            let end : begin_of ks (holder.0 + (length ks - holder.0)) ≡ length file = ap (begin_of ks) all ∙ last_end ks file well_formed in
            inr (subst (SearchComesTo file position) end
            (searched_up_to holder.0 (length ks - holder.0) holder.1 (omega (arith, all)) (λ i k before. none i k)))
        | inr past ↦ inl past
      ]

  -- and the first that answers is found
  pub answering_there : (j : ℕ) (k : ChunkValue) → IsAnswering ks position j k → AnswersAt file position (begin_of ks j)
  answering_there j k answers =
      let stands : j < length ks = slice_get_within ks j k answers.may.stands in
      let end : begin_of ks (j + 1) ≤ length file =
      omega (arith, begin_of_rises ks (j + 1) (length ks) (omega (arith, stands)), last_end ks file well_formed) in
      let below : position < length file =
      omega (
        arith,
        answers.may.has.1,
        end,
        begin_of-next ks j k answers.may.stands,
        chunk_end_of_past_records (begin_of ks j) (40 + length k.«data») k.num_records,
      ) in
      let holder = lies_of ks file well_formed position below in
      let from : holder.0 ≤ j = not_before ks file well_formed position holder.0 holder.1 j k answers.may in
      let all : holder.0 + (j - holder.0) ≡ j = omega (arith, from) in
      let count : (header_at file (begin_of ks j)).num_records ≡ k.num_records = told_records ks file well_formed j k answers.may.stands in
      record {
        searched = subst (λ (i : ℕ). SearchComesTo file position (begin_of ks i)) all
            (searched_up_to holder.0 (j - holder.0) holder.1 (omega (arith, all, stands))
            (λ i other before may. absurd (omega (arith, before, all, answers.first i other may))));
        whole = passes ks file well_formed j k answers.may.stands;
        has = (omega (arith, count, answers.may.has.0), omega (arith, count, answers.may.has.1));
      }
