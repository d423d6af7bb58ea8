-- What several files show, and what a run of a command that reads them keeps.
use Rattle.std.proofs.Common.{◌≡◌, ◌∙◌, ℕ, ◌+◌, ◌≤◌, ◌⊎◌, zero, suc, true, false, Option, Some, None, List, [], ◌∷◌, length, map, drop, refl, sym, ap, subst, inl, inr, arith, IfSome}
use Rattle.std.specs.Prelude.{slice_get}
use Rattle.std.proofs.lemmas.List.{drop-map}
use Rattle.std.proofs.lemmas.Simd.{map-map}
use Rattle.record_io.specs.ManyStores.{AnyRose}
use Rattle.record_io.specs.Seen.{SeenStream, SeenFile, seen_file}
use Rattle.record_io.proofs.ManyStores.{AnyRose-place}
use Rattle.command_frame.specs.Meanings.{Meaning, Read}
use Rattle.command_frame.specs.RunObjects.{OneRose, handed_by, seen}
use Rattle.command_frame.proofs.AskedSizes.{exact_sizes}
use Rattle.command_frame.proofs.RunEnds.{Keeps, none-taken}

-- what files told, and the bytes of them
abbrev pub told_by : List SeenFile → List (Option ℕ)
told_by files = map (λ file. file.told) files

abbrev pub bytes_of : List SeenFile → List (Option (List ℕ))
bytes_of files = map (λ file. file.bytes) files

-- what is shown at a place
pub shown_at : {S T : Type 0} (show : S → T) (files : List S) (place : ℕ) (a : T) → slice_get (map show files) place ≡ Some a
    → (file : S) × (slice_get files place ≡ Some file) × (a ≡ show file)
shown_at show [] place a there = absurd (cc there)
shown_at show (f ∷ files) zero a there = (f, refl, cc (sym there))
shown_at show (f ∷ files) (suc place) a there = shown_at show files place a there

-- what stands at a place is shown at it
there_shown : {S T : Type 0} (show : S → T) (files : List S) (place : ℕ) (file : S) → slice_get files place ≡ Some file
    → slice_get (map show files) place ≡ Some (show file)
there_shown show [] place file there = absurd (cc there)
there_shown show (f ∷ files) zero file there = let is : f ≡ file = cc there in ap (λ x. Some (show x)) is
there_shown show (f ∷ files) (suc place) file there = there_shown show files place file there

module _ {S : Type 0} (bytes : S → Option (List ℕ)) (told : S → Option ℕ) (handed faults : S → ℕ) (files files_then : List S) where
  abbrev Show : S → SeenFile
  Show = seen_file bytes told handed faults

  bytes_as : (fs : List S) → bytes_of (map Show fs) ≡ map bytes fs
  bytes_as fs = map-map (λ (f : SeenFile). f.bytes) Show fs

  told_as : (fs : List S) → told_by (map Show fs) ≡ map told fs
  told_as fs = map-map (λ (f : SeenFile). f.told) Show fs

  handed_as : (fs : List S) → handed_by (map Show fs) ≡ map handed fs
  handed_as fs = map-map (λ (f : SeenFile). f.handed) Show fs

  -- of one the count of faults rose
  pub one_rose : AnyRose faults files files_then → OneRose (map Show files) (map Show files_then)
  one_rose any =
      let (place, a, b, was, is, rose) = AnyRose-place faults files files_then any in
      (place, Show a, Show b, there_shown Show files place a was, there_shown Show files_then place b is, rose)

  -- the sizes that they told
  pub exact_shown : ((file : S) → IfSome (bytes file) (λ bs. IfSome (told file) (λ size. size ≡ length bs))) → map bytes files_then ≡ map bytes files
      → (all : List (List ℕ)) (sizes : List ℕ) → bytes_of (map Show files) ≡ map Some all → told_by (map Show files_then) ≡ map Some sizes → sizes ≡ map length all
  exact_shown sized same all sizes its tells =
      exact_sizes bytes told sized files_then all sizes (same ∙ sym (bytes_as files) ∙ its) (sym (told_as files_then) ∙ tells)

  -- what a run of a command keeps that reads them: nothing was handed out, or so much as their sizes allow
  pub keeps-files : (m : Meaning) (input made made_then : SeenStream) (grown : SeenFile) (out out_then notes notes_then : SeenStream)
      → m.uses.files ≡ true → m.uses.grown ≡ false → ((r : Read) (before after : List ℕ) → m.may_take_of r before after)
      → made.faults ≤ made_then.faults → out.faults ≤ out_then.faults → notes.faults ≤ notes_then.faults
      → ((place : ℕ) (a b : S) → slice_get files place ≡ Some a → slice_get files_then place ≡ Some b → faults a ≤ faults b)
      → ((place : ℕ) (file : S) → slice_get files_then place ≡ Some file → told file ≡ None → drop (place + 1) files_then ≡ drop (place + 1) files)
      → ((all : List (List ℕ)) (sizes : List ℕ) → bytes_of (map Show files) ≡ map Some all → told_by (map Show files_then) ≡ map Some sizes → sizes ≡ map length all)
      → (map handed files_then ≡ map handed files)
      ⊎ ((sizes : List ℕ) × (map told files_then ≡ map Some sizes) × m.may_work sizes × m.may_take sizes (map handed files) (map handed files_then))
      → Keeps m (seen input (map Show files) made grown out notes) (seen input (map Show files_then) made_then grown out_then notes_then)
  keeps-files m input made made_then grown out out_then notes notes_then reads ungrown takes k o n falls in_order sized handed_out = record {
    counts = record {
      input = omega arith;
      files = λ place a b was is.
          let x = shown_at Show files place a was in
          let y = shown_at Show files_then place b is in
          omega (arith, falls place x.0 y.0 x.1 y.1, ap (λ (f : SeenFile). f.faults) x.2, ap (λ (f : SeenFile). f.faults) y.2);
      made = k;
      grown = omega arith;
      out = o;
      notes = n;
    };
    ungrown = ungrown;
    handed = elim handed_out [
      | inl same ↦ inl (handed_as files_then ∙ same ∙ sym (handed_as files))
      | inr (sizes, tells, work, take) ↦ inr (
        reads,
        record {
          sizes = sizes;
          told = λ _. told_as files_then ∙ tells;
          exact = λ _ all its. sized all sizes its (told_as files_then ∙ tells);
          grown_told = λ uses. absurd (cc (sym uses ∙ ungrown));
          grown_exact = λ uses. absurd (cc (sym uses ∙ ungrown));
          holds = (
            work,
            subst (λ (before : List ℕ). m.may_take sizes before (handed_by (map Show files_then))) (sym (handed_as files))
                (subst (λ (after : List ℕ). m.may_take sizes (map handed files) after) (sym (handed_as files_then)) take),
          );
        },
      )
    ];
    handed_of = λ r is. takes r _ _;
    grown_handed = refl;
    in_order = λ place file there untold.
        let x = shown_at Show files_then place file there in
        drop-map Show (place + 1) files_then
        ∙ ap (map Show) (in_order place x.0 x.1 (sym (ap (λ (f : SeenFile). f.told) x.2) ∙ untold))
        ∙ sym (drop-map Show (place + 1) files);
    input_taken = none-taken m.most_taken input.bytes;
  }
