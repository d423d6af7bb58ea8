-- Work on several files that are asked their sizes first.
use Rattle.std.proofs.Common.{◌≡◌, ◌≢◌, ◌∙◌, ℕ, ◌+◌, ◌<◌, ◌≤◌, ◌⊎◌, Bool, true, false, ◌||◌, Option, Some, None, Result, Ok, Err, List, [], ◌∷◌, length, map, drop, refl, sym, ap, subst, inl, inr, arith, IfSome}
use Rattle.std.specs.Prelude.{nat_lt, slice_get}
use Rattle.std.specs.List.{AllByRecursion, list_any}
use Rattle.std.proofs.lemmas.Bool.{cases_Bool, ltb-false, ltb-true}
use Rattle.record_values.specs.Bytes.{AreBytes}
use Rattle.record_io.specs.ManyStores.{AreOnlyAsked}
use Rattle.record_io.specs.Outside.{Rose}
use Rattle.record_io.specs.Puts.{Put, taken_by}
use Rattle.record_io.specs.Seen.{SeenStream, SeenFile, seen_file}
use Rattle.record_io.proofs.ManyStores.{asked_twice, same_bytes, same_names, same_told, untold}
use Rattle.record_io.specs.declared.cut.Cut.TheVariants as cut
use Rattle.command_frame.specs.AskedFiles.{AsksFiles, KeepsFiles}
use Rattle.command_frame.specs.Answers.{Answer}
use Rattle.command_frame.specs.FileAnswers.{AreWithin}
use Rattle.command_frame.specs.Endings.{Endings, IsAllowedEndOfMany, SaysEnd}
use Rattle.command_frame.specs.Meanings.{Meaning}
use Rattle.command_frame.specs.Runs.{Runs}
use Rattle.command_frame.specs.RunObjects.{seen}
use Rattle.command_frame.specs.declared.ending.Ending.{Ending}
use Rattle.command_frame.specs.declared.ending.Ending.TheVariants as end
use Rattle.command_frame.specs.declared.status.Status.{Status}
use Rattle.command_frame.proofs.AskedSizes.{none_untold, same_handed}
use Rattle.command_frame.proofs.ManyFilesEnds.{EndsBySizes, MayEndBy, ReadsFiles, WentAtEnd, runs-files}

-- whether all sizes are within a limit, by the test that tells it
neither : (a b : Bool) → (a || b) ≡ false → (a ≡ false) × (b ≡ false)
neither true b is = absurd (cc is)
neither false b is = (refl, is)

pub none_past : (most : ℕ) (sizes : List ℕ) → list_any (λ size. nat_lt most size) sizes ≡ false → AreWithin most sizes
none_past most [] is = tt
none_past most (size ∷ sizes) is =
    let (first, others) = neither (nat_lt most size) (list_any (λ n. nat_lt most n) sizes) is in
    (ltb-false most size first, none_past most sizes others)

pub one_past : (most : ℕ) (sizes : List ℕ) → list_any (λ size. nat_lt most size) sizes ≡ true → ¬ AreWithin most sizes
one_past most [] is within = cc is
one_past most (size ∷ sizes) is within = elim (cases_Bool (nat_lt most size)) [
  | inl past ↦ omega (arith, ltb-true most size past, within.0)
  | inr fits ↦ one_past most sizes (sym (ap (λ (b : Bool). b || list_any (λ n. nat_lt most n) sizes) fits) ∙ is) within.1
]

pub within_or_past : (most : ℕ) (sizes : List ℕ) → (¬ AreWithin most sizes) ⊎ AreWithin most sizes
within_or_past most sizes = elim (cases_Bool (list_any (λ size. nat_lt most size) sizes)) [
  | inl past ↦ inl (one_past most sizes past)
  | inr none ↦ inr (none_past most sizes none)
]

module _ {S L : Type 0} (bytes : S → Option (List ℕ)) (told : S → Option ℕ) (handed : S → ℕ) (name : S → L) (faults : S → ℕ) where
  abbrev Handed : S → Option ℕ
  Handed file = Some (handed file)

  -- they stay
  pub keeps-asked : {X W : Type 0} {m : Meaning} {past : List ℕ → Type 0} {stops : W → List ℕ → Type 0} {result : Result X (Ending W)} (before after : List S)
      → AsksFiles bytes told handed name faults m past stops result before after → KeepsFiles bytes name before after
  keeps-asked before after asks = record {
    same_bytes = same_bytes bytes (λ s. None) name faults before after asks.asked.each;
    same_names = same_names bytes (λ s. None) name faults before after asks.asked.each;
  }

  module _ {X W : Type 0} (m : Meaning) (past : List ℕ → Type 0) (stops : W → List ℕ → Type 0) (result : Result X (Ending W)) (before after : List S) where
    -- they were only asked their sizes
    pub asks-alone : {F : Type 0} → IsAllowedEndOfMany m past stops result (map told after)
        → ((place : ℕ) (file : S) → slice_get after place ≡ Some file → told file ≡ None → drop (place + 1) after ≡ drop (place + 1) before)
        → (result ≡ Err (end.Cut cut.File) → F) → AreOnlyAsked bytes Handed name faults F before after
        → AsksFiles bytes told handed name faults m past stops result before after
    asks-alone allowed in_order failed asked = record {
      allowed = allowed;
      in_order = in_order;
      handed_out = inl (same_handed bytes handed name faults before after asked.each);
      asked = untold bytes Handed name faults before after failed asked;
    }

    -- or all told these sizes, which let the command work
    pub asks-work : {F : Type 0} (between : List S) (sizes : List ℕ) → IsAllowedEndOfMany m past stops result (map told after)
        → map told between ≡ map Some sizes → m.may_work sizes → m.may_take sizes (map handed between) (map handed after)
        → AreOnlyAsked bytes Handed name faults F before between
        → AreOnlyAsked bytes told name faults (result ≡ Err (end.Cut cut.File)) between after
        → AsksFiles bytes told handed name faults m past stops result before after
    asks-work between sizes allowed tells may takes asked worked =
        let told_then : map told after ≡ map Some sizes = same_told bytes told name faults between after worked.each ∙ tells in
        let unread : map handed between ≡ map handed before = same_handed bytes handed name faults before between asked.each in
        record {
          allowed = allowed;
          in_order = λ place file there none. none_untold told after sizes place file told_then there none;
          handed_out = inr (sizes, told_then, (may, subst (λ (ns : List ℕ). m.may_take sizes ns (map handed after)) unread takes));
          asked = asked_twice bytes Handed told name faults before between after (λ failed. inr failed) asked worked;
        }

  -- and so a run of a command goes that reads them
  pub runs-asked : {X W : Type 0} (files files_then : List S) (m : Meaning) (T : List (List ℕ) → Type 0) (P : List (List ℕ) → Answer → Type 0)
      (Q : List (List ℕ) → List Put → Type 0) → ReadsFiles m T P Q
      → (ends : Endings X W) (past : List ℕ → Type 0) (stops : W → List ℕ → Type 0) → EndsBySizes m ends past stops
      → (input made made_then : SeenStream) (grown : SeenFile) (out out_then notes notes_then : SeenStream) (result : Result X (Ending W)) (ended : Status)
      → ((file : S) → IfSome (bytes file) (λ bs. IfSome (told file) (λ size. size ≡ length bs)))
      → AsksFiles bytes told handed name faults m past stops result files files_then
      → made.faults ≤ made_then.faults → out.faults ≤ out_then.faults → notes.faults ≤ notes_then.faults
      → ((all : List (List ℕ)) → map bytes files ≡ map Some all → AllByRecursion AreBytes all → T all → MayEndBy m past stops result (map length all)
      → WentAtEnd ends (P all) (Q all) result (taken_by made.bytes out.bytes notes.bytes) (taken_by made_then.bytes out_then.bytes notes.bytes))
      → SaysEnd ends result ended notes notes_then
      → (result ≡ Err (end.Cut cut.Made) → Rose made.faults made_then.faults)
      → (result ≡ Err (end.Cut cut.Out) → Rose out.faults out_then.faults)
      → Runs m
      (seen input (map (seen_file bytes told handed faults) files) made grown out notes)
      (seen input (map (seen_file bytes told handed faults) files_then) made_then grown out_then notes_then) ended
  runs-asked files files_then m T P Q reads ends past stops by input made made_then grown out out_then notes notes_then result ended sized asks k o n put says made_rose out_rose =
      runs-files bytes told handed name faults files files_then m T P Q reads ends past stops by input made made_then grown out out_then notes notes_then
      result ended sized asks.asked k o n asks.in_order
      (elim asks.handed_out [ inl unread ↦ inl unread | inr (sizes, tells, (may, takes)) ↦ inr (sizes, tells, may, takes) ])
      asks.allowed put says made_rose out_rose
