-- What answers of stores say together.
use Rattle.std.proofs.Common.{◌≡◌, ◌∙◌, ℕ, zero, suc, Bool, false, Result, Some, Ok, Err, IfOk, All, List, [], ◌∷◌, ◌++◌, inl, inr, length, refl, sym, ap, subst}
use Rattle.std.specs.Prelude.{slice_get}
use Rattle.std.specs.List.{AllByRecursion, AllZip}
use Rattle.std.proofs.lemmas.List.Elements.{All-from_recursion}
use Rattle.chunk_reader.specs.declared.reasons.ReadEnd.{ReadEnd}
use Rattle.chunk_reader.specs.declared.reasons.ReadEnd.TheVariants as read
use Rattle.record_collect.specs.declared.feeding.Fed.{Fed}
use Rattle.record_collect.specs.declared.feeding.Fed.TheVariants.{Whole, Full, TooLong}
use Rattle.record_collect.specs.declared.gathering.GatherEnd.{GatherEnd}
use Rattle.record_collect.specs.declared.gathering.GatherEnd.TheVariants as gather
use Rattle.record_collect.specs.Ends.{ArePassesOf, IsGatheredBy, IsPassOf, gather_end_of}
use Rattle.record_collect.specs.Gatherings.{GatheredValue, IsInBounds}
use Rattle.record_collect.specs.Passes.{AreGathered, BelongsTo, CollectorValue, PassValue}
use Rattle.record_collect.specs.Takings.{BelongsWhere, IsFirstStopped, IsRead}

-- what stands behind a list, and what stands in it
pub stands-behind : {X : Type 0} (xs : List X) (y : X) (ys : List X) → slice_get (xs ++ y ∷ ys) (length xs) ≡ Some y
stands-behind [] y ys = refl
stands-behind (x ∷ xs) y ys = stands-behind xs y ys

pub stands-before : {X : Type 0} (xs ys : List X) (i : ℕ) (x : X) → slice_get xs i ≡ Some x → slice_get (xs ++ ys) i ≡ Some x
stands-before [] ys i x there = absurd cc
stands-before (z ∷ xs) ys zero x there = there
stands-before (z ∷ xs) ys (suc i) x there = stands-before xs ys i x there

-- how gathering ends by the first file that was not read to its end
pub stopped_as : (answers : List (Result Fed ReadEnd)) (at : ℕ) (end : ReadEnd) (result : GatherEnd) → result ≡ gather_end_of at end
    → IsFirstStopped answers at end → IsGatheredBy (Err result) answers
stopped_as answers at end result is first = subst (λ (r : GatherEnd). IsGatheredBy (Err r) answers) (sym is) (by_end end first)
  where
    by_end : (end : ReadEnd) → IsFirstStopped answers at end → IsGatheredBy (Err (gather_end_of at end)) answers
    by_end (read.Refused fault) first = first
    by_end read.Store first = (at, first.there)
    by_end read.Memory first = tt

-- two lists of which each has one more
zip-push : {A B : Type 0} (R : A → B → Type 0) (xs : List A) (ys : List B) (x : A) (y : B) → R x y → AllZip R xs ys → AllZip R (xs ++ x ∷ []) (ys ++ y ∷ [])
zip-push R [] [] x y h all = (h, tt)
zip-push R [] (b ∷ ys) x y h all = absurd all
zip-push R (a ∷ xs) [] x y h all = absurd all
zip-push R (a ∷ xs) (b ∷ ys) x y h all = (all.0, zip-push R xs ys x y h all.1)

-- one more pass, which ended or not
pub passes-whole : (answers : List (Result Fed ReadEnd)) (passes more : List PassValue) (are_whole : Bool) (answer : Result Fed ReadEnd) (pass : PassValue)
    → answer ≡ Ok (Whole pass) → more ≡ passes ++ pass ∷ [] → ArePassesOf answers passes are_whole → ArePassesOf (answers ++ answer ∷ []) more are_whole
passes-whole answers passes more are_whole answer pass is put h =
    subst (λ (ps : List PassValue). ArePassesOf (answers ++ answer ∷ []) ps are_whole) (sym put) (record {
      each = zip-push IsPassOf answers passes answer pass (inl is) h.each;
      whole = λ all. zip-push (λ (a : Result Fed ReadEnd) (p : PassValue). a ≡ Ok (Whole p)) answers passes answer pass is (h.whole all);
      full = λ some. (let one = h.full some in (one.0, one.1, stands-before answers (answer ∷ []) one.0 (Ok (Full one.1)) one.2));
    })

pub passes-full : (answers : List (Result Fed ReadEnd)) (passes more : List PassValue) (are_whole : Bool) (answer : Result Fed ReadEnd) (pass : PassValue)
    → answer ≡ Ok (Full pass) → more ≡ passes ++ pass ∷ [] → ArePassesOf answers passes are_whole → ArePassesOf (answers ++ answer ∷ []) more false
passes-full answers passes more are_whole answer pass is put h =
    subst (λ (ps : List PassValue). ArePassesOf (answers ++ answer ∷ []) ps false) (sym put) (record {
      each = zip-push IsPassOf answers passes answer pass (inr is) h.each;
      whole = λ all. absurd cc;
      full = λ some. (length answers, pass, stands-behind answers answer [] ∙ ap Some is);
    })

-- as many passes as files, which belong to the collector where those that were fed do, and files that were read
belongs-one : (collector : CollectorValue) (answer : Result Fed ReadEnd) (pass : PassValue) → IsPassOf answer pass → IfOk answer (BelongsWhere collector)
    → BelongsTo collector pass
belongs-one collector answer pass is h = elim is [
  | inl whole ↦ (subst (λ (a : Result Fed ReadEnd). IfOk a (BelongsWhere collector)) whole h).0
  | inr full ↦ subst (λ (a : Result Fed ReadEnd). IfOk a (BelongsWhere collector)) full h
]

belongs-each : (collector : CollectorValue) (answers : List (Result Fed ReadEnd)) (passes : List PassValue) → AllZip IsPassOf answers passes
    → AllByRecursion (λ a. IfOk a (BelongsWhere collector)) answers → AllByRecursion (BelongsTo collector) passes
belongs-each collector [] [] h all = tt
belongs-each collector [] (p ∷ passes) h all = absurd h
belongs-each collector (a ∷ answers) [] h all = absurd h
belongs-each collector (a ∷ answers) (p ∷ passes) h all =
    (belongs-one collector a p h.0 all.0, belongs-each collector answers passes h.1 all.1)

pub passes_belong : (collector : CollectorValue) (answers : List (Result Fed ReadEnd)) (passes : List PassValue) (are_whole : Bool)
    → ArePassesOf answers passes are_whole → AllByRecursion (λ a. IfOk a (BelongsWhere collector)) answers → All (BelongsTo collector) passes
passes_belong collector answers passes are_whole h all =
    All-from_recursion (BelongsTo collector) passes (belongs-each collector answers passes h.each all)

read-one : (answer : Result Fed ReadEnd) (pass : PassValue) → IsPassOf answer pass → IsRead answer
read-one answer pass is = elim is [
  | inl whole ↦ (Whole pass, whole)
  | inr full ↦ (Full pass, full)
]

read-each : (answers : List (Result Fed ReadEnd)) (passes : List PassValue) → AllZip IsPassOf answers passes → AllByRecursion IsRead answers
read-each [] [] h = tt
read-each [] (p ∷ passes) h = absurd h
read-each (a ∷ answers) [] h = absurd h
read-each (a ∷ answers) (p ∷ passes) h = (read-one a p h.0, read-each answers passes h.1)

-- why nothing is gathered where a pass ended
pub full_as : (answers : List (Result Fed ReadEnd)) (passes : List PassValue) (are_whole : Bool) (made : GatheredValue) → ArePassesOf answers passes are_whole
    → AreGathered passes made → IsInBounds made → are_whole ≡ false → IsGatheredBy (Err gather.TooMuch) answers
full_as answers passes are_whole made h are bounds is =
    let one = h.full is in
    (read-each answers passes h.each, inr (passes, made, one.0, one.1, record { each = h.each; are = are; bounds = bounds }, one.2))

-- or where a record of a file is too long
pub too_long_as : (answers before rest : List (Result Fed ReadEnd)) (answer : Result Fed ReadEnd) → AllByRecursion IsRead answers → answer ≡ Ok TooLong
    → before ++ answer ∷ rest ≡ answers → IsGatheredBy (Err gather.TooMuch) answers
too_long_as answers before rest answer read is whole = (
  read,
  inl (
    length before,
    subst (λ (l : List (Result Fed ReadEnd)). slice_get l (length before) ≡ Some (Ok TooLong)) whole
        (stands-behind before answer rest ∙ ap Some is),
  ),
)
