-- What threads were answered for halves of the stores, put together, and what it says of stores and files.
use Rattle.std.proofs.Common.{◌≡◌, ◌∙◌, ℕ, zero, suc, ◌+◌, ◌^◌, ◌≤◌, false, Option, Result, List, [], ◌∷◌, ◌++◌, Some, Ok, Err, All, IfOk, IfSome, inl, inr, map, length, refl, sym, ap, subst, arith, length-append}
use Rattle.std.specs.Prelude.{slice_get}
use Rattle.std.specs.List.{AllByRecursion, AllZip}
use Rattle.std.proofs.lemmas.List.{length-map}
use Rattle.std.proofs.lemmas.List.Elements.{All-from_recursion, recursion_from_All}
use Rattle.record_io.specs.Calls.{OnlyAsks}
use Rattle.record_io.specs.ManyStores.{AnyRose, AreOnlyAsked, AreTold}
use Rattle.record_io.proofs.ManyStores.{as_many, asks_whatever}
use Rattle.chunk_reader.specs.Faults.{IsFault, IsFirstFault}
use Rattle.chunk_reader.specs.declared.reasons.Fault.{Fault}
use Rattle.chunk_reader.specs.declared.reasons.ReadEnd.{ReadEnd}
use Rattle.chunk_reader.specs.declared.reasons.ReadEnd.TheVariants.{Refused, Store}
use Rattle.record_collect.specs.declared.feeding.Fed.{Fed}
use Rattle.record_collect.specs.Gatherings.{AreRecordsOfEach}
use Rattle.record_collect.specs.declared.feeding.Fed.TheVariants.{Whole}
use Rattle.record_collect.specs.Passes.{CollectorValue, IsReady, PassValue}
use Rattle.record_collect.specs.Takings.{AreFed, AreSized, BelongsWhere, CanBeFed, HasTaken, IsFirstStopped, IsRead, IsReadyFed, IsTakenOf}

-- what a front of the stores shows, and what the others do
pub told-front : {S X : Type 0} (tell : S → Option X) (stores a c : List S) (told x y : List X) → stores ≡ a ++ c → told ≡ x ++ y → length x ≡ length a
    → AreTold tell stores told → AreTold tell a x × AreTold tell c y
told-front {S} {X} tell stores a c told x y is put same h = halves a x same (subst (λ (ss : List S). AreTold tell ss (x ++ y)) is (subst (AreTold tell stores) put h))
  where
    halves : (a : List S) (x : List X) → length x ≡ length a → AreTold tell (a ++ c) (x ++ y) → AreTold tell a x × AreTold tell c y
    halves [] [] same h = (refl, h)
    halves [] (t ∷ x) same h = absurd (omega (arith, same))
    halves (s ∷ a) [] same h = absurd (omega (arith, same))
    halves (s ∷ a) (t ∷ x) same h =
        let head : tell s ≡ Some t = cc in
        let tail : map tell (a ++ c) ≡ map Some (x ++ y) = cc in
        let rest = halves a x (omega (arith, same)) tail in
        (ap (λ (o : Option X). o ∷ map tell a) head ∙ ap (λ (os : List (Option X)). Some t ∷ os) rest.0, rest.1)

-- what holds of all holds of a front, and of the others
pub all-front : {X : Type 0} (P : X → Type 0) (xs a c : List X) → xs ≡ a ++ c → All P xs → All P a × All P c
all-front {X} P xs a c is all =
    let both = halves a (subst (AllByRecursion P) is (recursion_from_All P xs all)) in
    (All-from_recursion P a both.0, All-from_recursion P c both.1)
  where
    halves : (a : List X) → AllByRecursion P (a ++ c) → AllByRecursion P a × AllByRecursion P c
    halves [] all = (tt, all)
    halves (x ∷ a) all = (let rest = halves a all.1 in ((all.0, rest.0), rest.1))

-- stores can be read by passes of which nothing was put yet
ready-each : (collector : CollectorValue) (passes : List PassValue) → AllByRecursion (IsReady collector) passes
    → AllByRecursion (λ (a : Result Fed ReadEnd). (fed : Fed) × (a ≡ Ok fed) × IsReadyFed collector fed) (map (λ (p : PassValue). Ok (Whole p)) passes)
ready-each collector [] all = tt
ready-each collector (p ∷ passes) all = ((Whole p, refl, (p, refl, all.0)), ready-each collector passes all.1)

pub can_be_fed : {S : Type 0} (told : S → Option ℕ) (collector : CollectorValue) (sizes : List ℕ) (passes : List PassValue) (answers : List (Result Fed ReadEnd)) (stores : List S)
    → AreSized told stores sizes → length passes ≡ length stores → All (IsReady collector) passes → answers ≡ map (λ (p : PassValue). Ok (Whole p)) passes
    → CanBeFed told collector sizes answers stores
can_be_fed told collector sizes passes answers stores sized many ready is =
    let IsFedReady : Result Fed ReadEnd → Type 0 = λ a. (fed : Fed) × (a ≡ Ok fed) × IsReadyFed collector fed in
    record {
      as_many_sizes = sym (as_many told stores sizes sized.are_told);
      as_many_answers = ap length is ∙ length-map passes (λ (p : PassValue). Ok (Whole p)) ∙ many;
      are_told = sized.are_told;
      in_reach = All-from_recursion (λ (size : ℕ). size ≤ 2 ^ 60) sizes sized.in_reach;
      ready = subst (All IsFedReady) (sym is)
          (All-from_recursion IsFedReady (map (λ (p : PassValue). Ok (Whole p)) passes) (ready-each collector passes (recursion_from_All (IsReady collector) passes ready)));
    }

-- so each half of the stores can be read where all can
pub can_be_fed-halves : {S : Type 0} (told : S → Option ℕ) (collector : CollectorValue) (sizes low high : List ℕ)
    (answers x y : List (Result Fed ReadEnd)) (stores front back : List S)
    → sizes ≡ low ++ high → answers ≡ x ++ y → stores ≡ front ++ back
    → length low ≡ length front → length x ≡ length front → CanBeFed told collector sizes answers stores
    → CanBeFed told collector low x front × CanBeFed told collector high y back
can_be_fed-halves told collector sizes low high answers x y stores front back of_sizes of_answers of_stores m k h =
    let tells = told-front told stores front back sizes low high of_stores of_sizes m h.are_told in
    let reach = all-front (λ (size : ℕ). size ≤ 2 ^ 60) sizes low high of_sizes h.in_reach in
    let ready = all-front (λ (a : Result Fed ReadEnd). (fed : Fed) × (a ≡ Ok fed) × IsReadyFed collector fed) answers x y of_answers h.ready in
    let many : length stores ≡ length front + length back = ap length of_stores ∙ length-append front back in (
      record { as_many_sizes = m; as_many_answers = k; are_told = tells.0; in_reach = reach.0; ready = ready.0 },
      record {
        as_many_sizes = omega (arith, h.as_many_sizes, ap length of_sizes ∙ length-append low high, m, many);
        as_many_answers = omega (arith, h.as_many_answers, ap length of_answers ∙ length-append x y, k, many);
        are_told = tells.1;
        in_reach = reach.1;
        ready = ready.1;
      },
    )

-- what is held of the records of a file
pub record Taking : Type 0 where
  pub list : List (List ℕ)
  pub fed : Fed
  pub has : HasTaken fed list

abbrev pub lists_of : List Taking → List (List (List ℕ))
lists_of rows = map (λ (r : Taking). r.list) rows

abbrev pub answers_of : List Taking → List (Result Fed ReadEnd)
answers_of rows = map (λ (r : Taking). Ok r.fed) rows

-- the files have no fault, and this is held of their records
pub record AreTakings (files : List (List ℕ)) (answers : List (Result Fed ReadEnd)) : Type 0 where
  pub rows : List Taking
  pub are : AreRecordsOfEach files (lists_of rows)
  pub of_answers : answers ≡ answers_of rows

-- a file that was read to its end
taken_of : (told : Option (List ℕ)) (file : List ℕ) (answer : Result Fed ReadEnd) (fed : Fed) → told ≡ Some file → answer ≡ Ok fed
    → IfOk answer (λ fed. IfSome told (λ f. IsTakenOf f fed)) → IsTakenOf file fed
taken_of told file answer fed is read h =
    subst (λ (o : Option (List ℕ)). IfSome o (λ f. IsTakenOf f fed)) is
    (subst (λ (a : Result Fed ReadEnd). IfOk a (λ p. IfSome told (λ f. IsTakenOf f p))) read h)

module _ {S L : Type 0} (bytes : S → Option (List ℕ)) (told : S → Option ℕ) (name : S → L) (faults : S → ℕ) where
  abbrev AllFed : CollectorValue → List S → List S → List (Result Fed ReadEnd) → Type 0
  AllFed = AreFed bytes told name faults

  fed_append : (collector : CollectorValue) (a b c d : List S) (x y : List (Result Fed ReadEnd))
      → AllFed collector a b x → AllFed collector c d y → AllFed collector (a ++ c) (b ++ d) (x ++ y)
  fed_append collector [] [] c d [] y h k = k
  fed_append collector [] [] c d (r ∷ x) y h k = absurd h
  fed_append collector [] (t ∷ b) c d x y h k = absurd h
  fed_append collector (s ∷ a) [] c d x y h k = absurd h
  fed_append collector (s ∷ a) (t ∷ b) c d [] y h k = absurd h
  fed_append collector (s ∷ a) (t ∷ b) c d (r ∷ x) y h k = (h.0, fed_append collector a b c d x y h.1 k)

  pub fed_halves : (collector : CollectorValue) (before after a b c d : List S) (answers x y : List (Result Fed ReadEnd))
      → before ≡ a ++ c → after ≡ b ++ d → answers ≡ x ++ y
      → AreFed bytes told name faults collector a b x → AreFed bytes told name faults collector c d y
      → AreFed bytes told name faults collector before after answers
  fed_halves collector before after a b c d answers x y is then put h k =
      subst (λ (ss : List S). AllFed collector ss after answers) (sym is)
      (subst (λ (ss : List S). AllFed collector (a ++ c) ss answers) (sym then)
      (subst (AllFed collector (a ++ c) (b ++ d)) (sym put)
      (fed_append collector a b c d x y h k)))

  -- as many answers as stores
  pub fed-many : (collector : CollectorValue) (before after : List S) (answers : List (Result Fed ReadEnd))
      → AreFed bytes told name faults collector before after answers → length answers ≡ length before
  fed-many collector [] [] [] h = refl
  fed-many collector [] [] (a ∷ answers) h = absurd h
  fed-many collector [] (t ∷ after) answers h = absurd h
  fed-many collector (s ∷ before) [] answers h = absurd h
  fed-many collector (s ∷ before) (t ∷ after) [] h = absurd h
  fed-many collector (s ∷ before) (t ∷ after) (a ∷ answers) h = ap suc (fed-many collector before after answers h.1)

  -- of which each pass belongs to the collector
  pub all_belong : (collector : CollectorValue) (before after : List S) (answers : List (Result Fed ReadEnd))
      → AreFed bytes told name faults collector before after answers → AllByRecursion (λ a. IfOk a (BelongsWhere collector)) answers
  all_belong collector [] [] [] h = tt
  all_belong collector [] [] (a ∷ answers) h = absurd h
  all_belong collector [] (t ∷ after) answers h = absurd h
  all_belong collector (s ∷ before) [] answers h = absurd h
  all_belong collector (s ∷ before) (t ∷ after) [] h = absurd h
  all_belong collector (s ∷ before) (t ∷ after) (a ∷ answers) h = (h.0.belongs, all_belong collector before after answers h.1)

  each_asked : (collector : CollectorValue) (before after : List S) (answers : List (Result Fed ReadEnd))
      → AllFed collector before after answers → AllZip (OnlyAsks bytes told name faults ⊥) before after
  each_asked collector [] [] answers h = tt
  each_asked collector [] (t ∷ after) answers h = absurd h
  each_asked collector (s ∷ before) [] answers h = absurd h
  each_asked collector (s ∷ before) (t ∷ after) [] h = absurd h
  each_asked collector (s ∷ before) (t ∷ after) (a ∷ answers) h =
      (asks_whatever bytes told name faults s t h.0.asks, each_asked collector before after answers h.1)

  rose : (collector : CollectorValue) (before after : List S) (answers : List (Result Fed ReadEnd)) (i : ℕ)
      → AllFed collector before after answers → slice_get answers i ≡ Some (Err Store) → AnyRose faults before after
  rose collector [] [] [] i h failed = absurd cc
  rose collector [] [] (a ∷ answers) i h failed = absurd h
  rose collector [] (t ∷ after) answers i h failed = absurd h
  rose collector (s ∷ before) [] answers i h failed = absurd h
  rose collector (s ∷ before) (t ∷ after) [] i h failed = absurd h
  rose collector (s ∷ before) (t ∷ after) (a ∷ answers) zero h failed = inl (h.0.asks.cause (cc))
  rose collector (s ∷ before) (t ∷ after) (a ∷ answers) (suc i) h failed = inr (rose collector before after answers i h.1 failed)

  -- the stores were only asked, and where one answered that it failed, a count rose
  pub fed-asked : {F : Type 0} (collector : CollectorValue) (before after : List S) (answers : List (Result Fed ReadEnd))
      → AreFed bytes told name faults collector before after answers → (F → (i : ℕ) × (slice_get answers i ≡ Some (Err Store)))
      → AreOnlyAsked bytes told name faults F before after
  fed-asked collector before after answers h failed = record {
    each = each_asked collector before after answers h;
    cause = λ fails. (let one = failed fails in rose collector before after answers one.0 h one.1);
  }

  -- the first answer that a file is refused has the first fault
  pub first-refused : (collector : CollectorValue) (before after : List S) (answers : List (Result Fed ReadEnd)) (files : List (List ℕ)) (index : ℕ) (fault : Fault)
      → AreTold bytes before files → AreFed bytes told name faults collector before after answers → IsFirstStopped answers index (Refused fault)
      → IsFirstFault false files index fault
  first-refused collector [] [] [] files index fault tells h first = absurd (let no = first.there in cc)
  first-refused collector [] [] (a ∷ answers) files index fault tells h first = absurd h
  first-refused collector [] (t ∷ after) answers files index fault tells h first = absurd h
  first-refused collector (s ∷ before) [] answers files index fault tells h first = absurd h
  first-refused collector (s ∷ before) (t ∷ after) [] files index fault tells h first = absurd h
  first-refused collector (s ∷ before) (t ∷ after) (a ∷ answers) [] index fault tells h first = absurd cc
  first-refused collector (s ∷ before) (t ∷ after) (a ∷ answers) (f ∷ files) zero fault tells h first =
      let is : bytes s ≡ Some f = cc in
      let there : Some a ≡ Some (Err (Refused fault)) = first.there in
      let refused : a ≡ Err (Refused fault) = cc in
      record {
        before = tt;
        file = f;
        there = refl;
        is_fault = subst (λ (o : Option (List ℕ)). IfSome o (λ g. IsFault false g fault)) is (h.0.refused fault refused);
      }
  first-refused collector (s ∷ before) (t ∷ after) (a ∷ answers) (f ∷ files) (suc index) fault tells h first =
      let is : bytes s ≡ Some f = cc in
      let others : map bytes before ≡ map Some files = cc in
      let read : IsRead a = first.before.0 in
      let taken : IsTakenOf f read.0 = taken_of (bytes s) f a read.0 is read.1 h.0.taken in
      let rest = first-refused collector before after answers files index fault others h.1 (record { before = first.before.1; there = first.there }) in
      record {
        before = ((taken.chunks, taken.is_file), rest.before);
        file = rest.file;
        there = rest.there;
        is_fault = rest.is_fault;
      }

  -- what is held, where each file was read to its end
  pub all-taken : (collector : CollectorValue) (before after : List S) (answers : List (Result Fed ReadEnd)) (files : List (List ℕ))
      → AreTold bytes before files → AreFed bytes told name faults collector before after answers → AllByRecursion IsRead answers
      → AreTakings files answers
  all-taken collector [] [] [] [] tells h read = record { rows = []; are = tt; of_answers = refl }
  all-taken collector [] [] [] (f ∷ files) tells h read = absurd cc
  all-taken collector [] [] (a ∷ answers) files tells h read = absurd h
  all-taken collector [] (t ∷ after) answers files tells h read = absurd h
  all-taken collector (s ∷ before) [] answers files tells h read = absurd h
  all-taken collector (s ∷ before) (t ∷ after) [] files tells h read = absurd h
  all-taken collector (s ∷ before) (t ∷ after) (a ∷ answers) [] tells h read = absurd cc
  all-taken collector (s ∷ before) (t ∷ after) (a ∷ answers) (f ∷ files) tells h read =
      let is : bytes s ≡ Some f = cc in
      let others : map bytes before ≡ map Some files = cc in
      let one : IsRead a = read.0 in
      let taken : IsTakenOf f one.0 = taken_of (bytes s) f a one.0 is one.1 h.0.taken in
      let row : Taking = record { list = taken.records; fed = one.0; has = taken.has } in
      let rest : AreTakings files answers = all-taken collector before after answers files others h.1 read.1 in
      record {
        rows = row ∷ rest.rows;
        are = ((taken.chunks, taken.is_file, taken.are), rest.are);
        of_answers = ap (λ (r : Result Fed ReadEnd). r ∷ answers) one.1 ∙ ap (λ (rs : List (Result Fed ReadEnd)). Ok one.0 ∷ rs) rest.of_answers;
      }
