-- What is answered of files whose records were gathered.
use Rattle.std.proofs.Common.{◌≡◌, ◌≢◌, ◌∙◌, ◌⊎◌, ℕ, zero, suc, ◌+◌, ◌^◌, ◌<◌, ◌≤◌, false, Option, Result, List, [], ◌∷◌, ◌++◌, Some, None, Ok, Err, IfOk, inl, inr, map, length, refl, sym, ap, subst, arith}
use Rattle.std.specs.Prelude.{slice_get}
use Rattle.std.specs.List.{AllByRecursion, AllZip, sum_by}
use Rattle.std.specs.Option.{option_to_list}
use Rattle.std.proofs.lemmas.Slice.Zip.{AllZip-long}
use Rattle.std.proofs.lemmas.List.Sums.{sum_by-cons}
use Rattle.chunk_header.specs.Chunks.{ChunkValue}
use Rattle.meta_chunk.specs.Files.{AreRecordsOf}
use Rattle.meta_chunk.proofs.Chains.{AreLaid-one}
use Rattle.meta_chunk.proofs.Held.{AreRecordsOf-one}
use Rattle.simple_chunk.specs.Costs.{cost_of}
use Rattle.number_shares.specs.Least.{IsLeast}
use Rattle.number_shares.proofs.Lists.{all_at}
use Rattle.record_io.specs.ManyStores.{AreOnlyAsked, IfAllTell}
use Rattle.chunk_reader.specs.Faults.{HaveNoFault, IsFirstFault}
use Rattle.chunk_reader.specs.declared.reasons.Fault.{Fault}
use Rattle.chunk_reader.specs.declared.reasons.ReadEnd.{ReadEnd}
use Rattle.chunk_reader.specs.declared.reasons.ReadEnd.TheVariants as read
use Rattle.chunk_reader.proofs.ManyFiles.{first_is_one, first_or_none}
use Rattle.record_collect.specs.declared.feeding.Fed.{Fed}
use Rattle.record_collect.specs.declared.feeding.Fed.TheVariants.{Whole, Full, TooLong}
use Rattle.record_collect.specs.declared.gathering.GatherEnd.{GatherEnd}
use Rattle.record_collect.specs.declared.gathering.GatherEnd.TheVariants as gather
use Rattle.record_collect.specs.Limits.{limit}
use Rattle.record_collect.specs.Gatherings.{AreWoven, GatheredValue, IsInBounds, AreGatheredOf, AreRecordsOfEach, HasTooLong, IsTooMuch}
use Rattle.record_collect.specs.Batches.{HasLong}
use Rattle.record_collect.specs.Ends.{AreGatheredBy, IsGatheredBy, IsGatheredOf, IsInOneList, IsPassOf, TellsFirst}
use Rattle.record_collect.specs.Passes.{AreGathered, CollectorValue, HaveReceipts, PassValue, ends_of, pass_records}
use Rattle.record_collect.specs.Takings.{AreFed, EndedWithin, HasTaken, IsRead}
use Rattle.record_collect.proofs.WovenCosts.{woven-cost, woven-stands}
use Rattle.record_collect.proofs.FedThreads.{AreTakings, Taking, all-taken, answers_of, fed-asked, fed-many, first-refused, lists_of}

-- where each pass has all records of its file, these are the lists
whole_list : (row : Taking) (pass : PassValue) → row.fed ≡ Whole pass → row.list ≡ pass_records pass
whole_list row pass is = sym (subst (λ (fed : Fed). HasTaken fed row.list) is row.has).0

whole_lists : (rows : List Taking) (passes : List PassValue) → AllZip (λ answer pass. answer ≡ Ok (Whole pass)) (answers_of rows) passes
    → lists_of rows ≡ map pass_records passes
whole_lists [] [] all = refl
whole_lists [] (p ∷ passes) all = absurd all
whole_lists (row ∷ rows) [] all = absurd all
whole_lists (row ∷ rows) (p ∷ passes) all =
    let whole : row.fed ≡ Whole p = (let is = all.0 in cc) in
    ap (λ (l : List (List ℕ)). l ∷ lists_of rows) (whole_list row p whole) ∙ ap (λ (ls : List (List (List ℕ))). pass_records p ∷ ls) (whole_lists rows passes all.1)

pub gathered-whole : (files : List (List ℕ)) (passes : List PassValue) (answers : List (Result Fed ReadEnd)) (made : GatheredValue)
    → AreTakings files answers → AllZip (λ answer pass. answer ≡ Ok (Whole pass)) answers passes → AreGathered passes made → IsInBounds made
    → AreGatheredOf files made
gathered-whole files passes answers made h all are bounds =
    let each = subst (λ (l : List (Result Fed ReadEnd)). AllZip (λ answer pass. answer ≡ Ok (Whole pass)) l passes) h.of_answers all in
    record {
      lists = lists_of h.rows;
      are = h.are;
      woven = subst (λ (ls : List (List (List ℕ))). AreWoven ls made.records made.numbers) (sym (whole_lists h.rows passes each)) are.woven;
      bounds = bounds;
    }

-- what a pass has costs no more than the records of its file
pass-cost : (row : Taking) (pass : PassValue) → IsPassOf (Ok row.fed) pass → cost_of (pass_records pass) ≤ cost_of row.list
pass-cost row pass is = elim is [
  | inl whole ↦
      let fed : row.fed ≡ Whole pass = cc in
      omega (arith, ap cost_of (whole_list row pass fed))
  | inr full ↦
      let fed : row.fed ≡ Full pass = cc in
      (subst (λ (fed : Fed). HasTaken fed row.list) fed row.has).within
]

passes-cost : (rows : List Taking) (passes : List PassValue) → AllZip IsPassOf (answers_of rows) passes
    → sum_by cost_of (map pass_records passes) ≤ sum_by cost_of (lists_of rows)
passes-cost [] [] all = omega arith
passes-cost [] (p ∷ passes) all = absurd all
passes-cost (row ∷ rows) [] all = absurd all
passes-cost (row ∷ rows) (p ∷ passes) all =
    omega (
      arith,
      pass-cost row p all.0,
      passes-cost rows passes all.1,
      sum_by-cons cost_of (pass_records p) (map pass_records passes),
      sum_by-cons cost_of row.list (lists_of rows),
    )

-- and where a pass ended, the records of its file that it has not would end above the limit
pass-over : (row : Taking) (pass : PassValue) (held : ℕ) → IsPassOf (Ok row.fed) pass → pass.ended ≡ Some held
    → limit + cost_of (pass_records pass) < held + cost_of row.list
pass-over row pass held is ended = elim is [
  | inl whole ↦
      let fed : row.fed ≡ Whole pass = cc in
      let going : pass.ended ≡ None = (subst (λ (fed : Fed). HasTaken fed row.list) fed row.has).1 in
      let no : None ≡ Some held = sym going ∙ ended in
      absurd cc
  | inr full ↦
      let fed : row.fed ≡ Full pass = cc in
      let within : EndedWithin pass row.list = subst (λ (fed : Fed). HasTaken fed row.list) fed row.has in
      let same : Some within.held ≡ Some held = sym within.ended ∙ ended in
      let is : within.held ≡ held = cc in
      omega (arith, within.over, is)
]

passes-over : (rows : List Taking) (passes : List PassValue) (k held : ℕ) → AllZip IsPassOf (answers_of rows) passes → slice_get (ends_of passes) k ≡ Some held
    → limit + sum_by cost_of (map pass_records passes) < held + sum_by cost_of (lists_of rows)
passes-over [] [] k held all there = absurd cc
passes-over [] (p ∷ passes) k held all there = absurd all
passes-over (row ∷ rows) [] k held all there = absurd all
passes-over (row ∷ rows) (p ∷ passes) k held all there =
    by (λ (n : ℕ) (at : slice_get (ends_of passes) n ≡ Some held). passes-over rows passes n held all.1 at) p.ended refl k there
  where
    here : p.ended ≡ Some held → limit + sum_by cost_of (map pass_records (p ∷ passes)) < held + sum_by cost_of (lists_of (row ∷ rows))
    here ended =
        omega (
          arith,
          pass-over row p held all.0 ended,
          passes-cost rows passes all.1,
          sum_by-cons cost_of (pass_records p) (map pass_records passes),
          sum_by-cons cost_of row.list (lists_of rows),
        )

    later : limit + sum_by cost_of (map pass_records passes) < held + sum_by cost_of (lists_of rows) → limit + sum_by cost_of (map pass_records (p ∷ passes)) < held + sum_by cost_of (lists_of (row ∷ rows))
    later over =
        omega (
          arith,
          over,
          pass-cost row p all.0,
          sum_by-cons cost_of (pass_records p) (map pass_records passes),
          sum_by-cons cost_of row.list (lists_of rows),
        )

    by : ((n : ℕ) → slice_get (ends_of passes) n ≡ Some held → limit + sum_by cost_of (map pass_records passes) < held + sum_by cost_of (lists_of rows))
        → (o : Option ℕ) → p.ended ≡ o → (k : ℕ) → slice_get (option_to_list o ++ ends_of passes) k ≡ Some held → limit + sum_by cost_of (map pass_records (p ∷ passes)) < held + sum_by cost_of (lists_of (row ∷ rows))
    by others None is k there = later (others k there)
    by others (Some n) is zero there = here (is ∙ there)
    by others (Some n) is (suc k) there = later (others k there)

-- one that ended is among the numbers at which passes ended
some_end : (rows : List Taking) (passes : List PassValue) (i : ℕ) (pass : PassValue) → AllZip IsPassOf (answers_of rows) passes
    → slice_get (answers_of rows) i ≡ Some (Ok (Full pass)) → ends_of passes ≢ []
some_end [] passes i pass all there = absurd cc
some_end (row ∷ rows) [] i pass all there = absurd all
some_end (row ∷ rows) (p ∷ passes) zero pass all there =
    let fed : row.fed ≡ Full pass = cc in
    let within : EndedWithin pass row.list = subst (λ (fed : Fed). HasTaken fed row.list) fed row.has in
    let own : p ≡ pass = elim all.0 [
      | inl whole ↦ let no : Whole p ≡ Full pass = cc in absurd cc
      | inr full ↦ let same : Full p ≡ Full pass = cc in cc
    ] in
    let ended : p.ended ≡ Some within.held = ap (λ (q : PassValue). q.ended) own ∙ within.ended in
    λ none. (let no : within.held ∷ ends_of passes ≡ [] = ap (λ (o : Option ℕ). option_to_list o ++ ends_of passes) (sym ended) ∙ none in cc)
some_end (row ∷ rows) (p ∷ passes) (suc i) pass all there = by (some_end rows passes i pass all.1 there) p.ended
  where
    by : ends_of passes ≢ [] → (o : Option ℕ) → option_to_list o ++ ends_of passes ≢ []
    by others None = others
    by others (Some n) = λ none. cc

-- so the records of the files are too much where a pass ended
pub gathered-full : (files : List (List ℕ)) (passes : List PassValue) (answers : List (Result Fed ReadEnd)) (made : GatheredValue) (i : ℕ) (pass : PassValue)
    → AreTakings files answers → AreGatheredBy answers passes made → slice_get answers i ≡ Some (Ok (Full pass)) → IsTooMuch files
gathered-full files passes answers made i pass h by there =
    let each = subst (λ (l : List (Result Fed ReadEnd)). AllZip IsPassOf l passes) h.of_answers by.each in
    let some = some_end h.rows passes i pass each (subst (λ (l : List (Result Fed ReadEnd)). slice_get l i ≡ Some (Ok (Full pass))) h.of_answers there) in
    let least : IsLeast (cost_of made.records) (ends_of passes) = by.are.ended some in
    record {
      lists = lists_of h.rows;
      are = h.are;
      over = inr (omega (
        arith,
        passes-over h.rows passes least.one.0 (cost_of made.records) each least.one.1,
        woven-cost (map pass_records passes) made.records made.numbers by.are.woven,
      ));
    }

-- and so where a record of one is too long
long-at : (rows : List Taking) (i : ℕ) → slice_get (answers_of rows) i ≡ Some (Ok TooLong) → HasTooLong (lists_of rows)
long-at [] i there = absurd cc
long-at (row ∷ rows) zero there =
    let fed : row.fed ≡ TooLong = cc in
    let long : HasLong row.list = subst (λ (fed : Fed). HasTaken fed row.list) fed row.has in
    record { list_number = 0; number = long.number; list = row.list; long = long.long; one_list = refl; one_record = long.there; too_long = long.too_long }
long-at (row ∷ rows) (suc i) there =
    let h = long-at rows i there in
    record {
      list_number = suc h.list_number;
      number = h.number;
      list = h.list;
      long = h.long;
      one_list = h.one_list;
      one_record = h.one_record;
      too_long = h.too_long;
    }

gathered-long : (files : List (List ℕ)) (answers : List (Result Fed ReadEnd)) → AreTakings files answers
    → (i : ℕ) → slice_get answers i ≡ Some (Ok TooLong) → IsTooMuch files
gathered-long files answers h i there = record {
  lists = lists_of h.rows;
  are = h.are;
  over = inl (long-at h.rows i (subst (λ (l : List (Result Fed ReadEnd)). slice_get l i ≡ Some (Ok TooLong)) h.of_answers there));
}

-- there is a list of numbers for each file
many-gathered : (answers : List (Result Fed ReadEnd)) (passes : List PassValue) (made : GatheredValue) → AreGatheredBy answers passes made
    → length made.numbers ≡ length answers
many-gathered answers passes made by =
    AllZip-long (HaveReceipts made.records) passes made.numbers by.are.receipts ∙ AllZip-long IsPassOf answers passes by.each

-- files have one list of records each
pub lists_one : (files : List (List ℕ)) (a b : List (List (List ℕ))) → AreRecordsOfEach files a → AreRecordsOfEach files b → a ≡ b
lists_one [] [] [] h g = refl
lists_one [] [] (m ∷ b) h g = absurd g
lists_one [] (l ∷ a) b h g = absurd h
lists_one (file ∷ files) [] b h g = absurd h
lists_one (file ∷ files) (l ∷ a) [] h g = absurd g
lists_one (file ∷ files) (l ∷ a) (m ∷ b) ((ks, is, are), h) ((others, is', are'), g) =
    let same : ks ≡ others = AreLaid-one ks others file (length file) (omega arith) is.1.laid is'.1.laid in
    let list : l ≡ m = AreRecordsOf-one others l m (subst (λ (cs : List ChunkValue). AreRecordsOf cs l) same are) are' in
    ap (λ (r : List (List ℕ)). r ∷ a) list ∙ ap (λ (rs : List (List (List ℕ))). m ∷ rs) (lists_one files a b h g)

-- and no fault
pub none_of_each : (files : List (List ℕ)) (lists : List (List (List ℕ))) → AreRecordsOfEach files lists → HaveNoFault false files
none_of_each [] lists h = tt
none_of_each (file ∷ files) [] h = absurd h
none_of_each (file ∷ files) (l ∷ lists) ((ks, is, are), h) = ((ks, is), none_of_each files lists h)

-- files that are gathered are not too much
pub fits : (files : List (List ℕ)) (made : GatheredValue) → AreGatheredOf files made → ¬ IsTooMuch files
fits files made h much =
    let same : much.lists ≡ h.lists = lists_one files much.lists h.lists much.are h.are in
    let is : HasTooLong h.lists ⊎ (limit < sum_by cost_of h.lists) = subst (λ (ls : List (List (List ℕ))). HasTooLong ls ⊎ (limit < sum_by cost_of ls)) same much.over in
    elim is [
      | inl long ↦
          let there = woven-stands made.records h.lists made.numbers long.list_number long.number long.list long.long h.woven.each long.one_list long.one_record in
          let short : length long.long ≤ 2 ^ 24 = all_at (λ (r : List ℕ). length r ≤ 2 ^ 24) made.records there.0 long.long there.1 h.bounds.short in
          absurd (omega (arith, short, long.too_long))
      | inr more ↦ absurd (omega (arith, more, h.bounds.most, woven-cost h.lists made.records made.numbers h.woven))
    ]

-- so the first fault is told, and that the records are too much
owed-gathered : (files : List (List ℕ)) (made : GatheredValue) → AreGatheredOf files made → TellsFirst (Ok made) files
owed-gathered files made h = record {
  refused = λ index fault first. absurd (first_or_none false files index fault first (none_of_each files h.lists h.are));
  too_much = λ much. absurd (fits files made h much);
}

owed-refused : (files : List (List ℕ)) (index : ℕ) (fault : Fault) → IsFirstFault false files index fault → TellsFirst (Err (gather.Refused index fault)) files
owed-refused files index fault h = record {
  refused = λ other fault' first.
      let same = first_is_one false files index other fault fault' h first in
      inl (ap (λ (i : ℕ). Err (gather.Refused i fault)) same.0 ∙ ap (λ (f : Fault). Err (gather.Refused other f)) same.1);
  too_much = λ much. absurd (first_or_none false files index fault h (none_of_each files much.lists much.are));
}

owed-too_much : (files : List (List ℕ)) → IsTooMuch files → TellsFirst (Err gather.TooMuch) files
owed-too_much files h = record {
  refused = λ index fault first. absurd (first_or_none false files index fault first (none_of_each files h.lists h.are));
  too_much = λ much. inl refl;
}

pub owed : (files : List (List ℕ)) (result : Result GatheredValue GatherEnd) → IsGatheredOf result files → TellsFirst result files
owed files (Ok made) h = owed-gathered files made h
owed files (Err (gather.Refused index fault)) h = owed-refused files index fault h
owed files (Err gather.TooMuch) h = owed-too_much files h
owed files (Err gather.Store) h = record { refused = λ index fault first. inr (inl refl); too_much = λ much. inr (inl refl) }
owed files (Err gather.Memory) h = record { refused = λ index fault first. inr (inr refl); too_much = λ much. inr (inr refl) }

-- files that all were read to their ends
read-whole : (answers : List (Result Fed ReadEnd)) (passes : List PassValue) → AllZip (λ answer pass. answer ≡ Ok (Whole pass)) answers passes
    → AllByRecursion IsRead answers
read-whole [] [] all = tt
read-whole [] (p ∷ passes) all = absurd all
read-whole (a ∷ answers) [] all = absurd all
read-whole (a ∷ answers) (p ∷ passes) all = ((Whole p, all.0), read-whole answers passes all.1)

-- what is answered, by what is held of the stores' files
module _ {S L : Type 0} (bytes : S → Option (List ℕ)) (told : S → Option ℕ) (name : S → L) (faults : S → ℕ)
    (collector : CollectorValue) (before after : List S) (answers : List (Result Fed ReadEnd))
    (fed : AreFed bytes told name faults collector before after answers) where
  pub answers-gathered : (result : Result GatheredValue GatherEnd) → IsGatheredBy result answers → IfAllTell bytes before (IsGatheredOf result)
  answers-gathered (Ok made) (passes, by, whole) files tells =
      gathered-whole files passes answers made (all-taken bytes told name faults collector before after answers files tells fed (read-whole answers passes whole))
      whole by.are by.bounds
  answers-gathered (Err (gather.Refused index fault)) stopped files tells =
      first-refused bytes told name faults collector before after answers files index fault tells fed stopped
  answers-gathered (Err gather.TooMuch) (read, over) files tells =
      let taken = all-taken bytes told name faults collector before after answers files tells fed read in
      elim over [
        | inl (i, there) ↦ gathered-long files answers taken i there
        | inr (passes, made, i, pass, by, there) ↦ gathered-full files passes answers made i pass taken by there
      ]
  answers-gathered (Err gather.Store) h files tells = tt
  answers-gathered (Err gather.Memory) h files tells = tt

  pub answers-many : (result : Result GatheredValue GatherEnd) → IsGatheredBy result answers → IfOk result (λ made. length made.numbers ≡ length before)
  answers-many (Ok made) (passes, by, whole) =
      many-gathered answers passes made by ∙ fed-many bytes told name faults collector before after answers fed
  answers-many (Err end) h = tt

  pub answers-asked : (result : Result GatheredValue GatherEnd) → IsGatheredBy result answers
      → AreOnlyAsked bytes told name faults (result ≡ Err gather.Store) before after
  answers-asked result h = fed-asked bytes told name faults collector before after answers fed (λ is. failed_at result h is) where
    failed_at : (result : Result GatheredValue GatherEnd) → IsGatheredBy result answers → result ≡ Err gather.Store
        → (i : ℕ) × (slice_get answers i ≡ Some (Err read.Store))
    failed_at (Ok made) h is = absurd (cc is)
    failed_at (Err (gather.Refused index fault)) h is = absurd (cc is)
    failed_at (Err gather.TooMuch) h is = absurd (cc is)
    failed_at (Err gather.Store) h is = h
    failed_at (Err gather.Memory) h is = absurd (cc is)

-- in one list they are the same, or memory was short
pub listed-of : (all : GatheredValue) (result : Result GatheredValue GatherEnd) (files : List (List ℕ)) → IsInOneList result all
    → AreGatheredOf files all → IsGatheredOf result files
listed-of all (Ok made) files is gathered = subst (AreGatheredOf files) (sym is) gathered
listed-of all (Err (gather.Refused index fault)) files is gathered = absurd is
listed-of all (Err gather.TooMuch) files is gathered = absurd is
listed-of all (Err gather.Store) files is gathered = absurd is
listed-of all (Err gather.Memory) files is gathered = tt
