-- What a run of a command that reads one file follows from, and what it keeps.
use Rattle.std.proofs.Common.{◌≡◌, ◌∙◌, ◌+◌, ℕ, zero, suc, ◌≤◌, true, false, Option, Some, None, List, [], ◌∷◌, length, slice_get, drop, map, refl, sym, ap, subst, inl, inr, arith, IfSome, IsSomeAnd}
use Rattle.std.specs.List.{AllByRecursion}
use Rattle.std.proofs.lemmas.Option.{MatchOption-at_some}
use Rattle.record_values.specs.Bytes.{AreBytes}
use Rattle.record_io.specs.Puts.{Put, Out, Taken, taken_by}
use Rattle.record_io.specs.Seen.{SeenStream, SeenFile}
use Rattle.record_io.proofs.Puts.{GoOut-none_held}
use Rattle.command_frame.specs.declared.status.Status.{Status}
use Rattle.command_frame.specs.Answers.{Answer}
use Rattle.command_frame.specs.FileAnswers.{OfFile, OfFileSoFar, IsInReach, file_meaning, most_file_bytes}
use Rattle.command_frame.specs.FileSizes.{HandsOut}
use Rattle.command_frame.specs.Meanings.{Uses, Meaning, Read}
use Rattle.command_frame.specs.Statuses.{fault_text}
use Rattle.command_frame.specs.RunObjects.{Seen, seen}
use Rattle.command_frame.specs.RunReads.{IfRead, IfAnswered, OfSizes}
use Rattle.command_frame.specs.RunLeaves.{TakesThen, WentOutSoFar}
use Rattle.command_frame.specs.PutSoFar.{HasPutSoFar}
use Rattle.command_frame.proofs.RunEnds.{Keeps, none-taken, went-so_far}

-- what holds of a command that reads one file, of which P are the answers and Q what it may have put so far, and prints
pub record ReadsFile (m : Meaning) (P : List ℕ → Answer → Type 0) (Q : (before after : ℕ) → List ℕ → List Put → Type 0) : Type 0 where
  pub input : m.uses.input ≡ false
  pub files : m.uses.files ≡ true
  pub grown : m.uses.grown ≡ false
  pub out : m.uses.out ≡ true
  pub answers : (r : Read) (answer : Answer) → OfFile P r.files answer → m.answers r answer
  pub so_far : (r : Read) (before after : List ℕ) (part : List Put) → OfFileSoFar Q r.files before after part → m.may_have_put r before after part
  pub may_work : (sizes : List ℕ) → IsInReach sizes → m.may_work sizes

-- so of one whose meaning is that, whatever else it means
pub reads_file : (P : List ℕ → Answer → Type 0) (Q : (before after : ℕ) → List ℕ → List Put → Type 0) (uses : Uses)
    (may_take : List ℕ → List ℕ → List ℕ → Type 0) (may_take_of : Read → List ℕ → List ℕ → Type 0)
    (may_end : List ℕ → Status → List ℕ → Type 0) (may_say : List ℕ → Type 0)
    → uses.input ≡ false → uses.files ≡ true → uses.grown ≡ false → uses.out ≡ true
    → ReadsFile (record (file_meaning P Q) {
      uses = uses;
      may_take = may_take;
      may_take_of = may_take_of;
      may_end = may_end;
      may_say = may_say;
    }) P Q
reads_file P Q uses may_take may_take_of may_end may_say input files grown out = record {
  input = input;
  files = files;
  grown = grown;
  out = out;
  answers = λ r answer is. is;
  so_far = λ r before after part is. is;
  may_work = λ sizes within. within;
}

-- behind the one file there is none
one_alone : {X : Type 0} (place : ℕ) (x only other : X) → slice_get (only ∷ []) place ≡ Some x → drop (place + 1) (only ∷ []) ≡ drop (place + 1) (other ∷ [])
one_alone zero x only other is = refl
one_alone (suc place) x only other is = absurd (cc is)

-- the one file that shows its bytes
one_told : (told : Option (List ℕ)) (files : List (List ℕ)) → told ∷ [] ≡ map Some files
    → (file : List ℕ) × (files ≡ file ∷ []) × (told ≡ Some file)
one_told told [] same = absurd (cc same)
one_told told (file ∷ []) same = (file, refl, cc same)
one_told told (file ∷ other ∷ files) same = absurd (cc same)

-- what holds of the bytes that the one file shows holds of the files that are read
pub told-files : (m : Meaning) (input made : SeenStream) (file grown : SeenFile) (out notes : SeenStream) (R : List (List ℕ) → Type 0) → m.uses.files ≡ true
    → IfSome file.bytes (λ bytes. R (bytes ∷ [])) → IfRead m (seen input (file ∷ []) made grown out notes) (λ r. R r.files)
told-files m input made file grown out notes R uses known = λ r is.
    let one = one_told file.bytes r.files (is.files uses).0 in
    subst R (sym one.1) (MatchOption-at_some _ (λ (b : List ℕ). R (b ∷ [])) one.0 one.2 known)

-- the size of a file whose bytes stayed
pub still-sized : (bytes bytes_then : Option (List ℕ)) (told : Option ℕ) → bytes_then ≡ bytes
    → IfSome bytes_then (λ file. IfSome told (λ size. size ≡ length file)) → IfSome bytes (λ file. IfSome told (λ size. size ≡ length file))
still-sized bytes bytes_then told same sized = subst (λ (b : Option (List ℕ)). IfSome b (λ file. IfSome told (λ size. size ≡ length file))) same sized

-- the size that was told
told_size : (told : Option ℕ) (P : ℕ → Type 0) → IsSomeAnd told P → (size : ℕ) × (told ≡ Some size) × P size
told_size None P h = absurd h
told_size (Some size) P h = (size, refl, h)

-- a size that was told of a file that may be read
pub told-in_reach : (told : Option ℕ) (size : ℕ) → told ≡ Some size → size ≤ most_file_bytes → IsSomeAnd told (λ n. IsInReach (n ∷ []))
told-in_reach told size is within = subst (λ (t : Option ℕ). IsSomeAnd t (λ n. IsInReach (n ∷ []))) (sym is) within

-- what is handed out of a file that told a size by which it is read
pub handed-work : (m : Meaning) (told : Option ℕ) (size before after : ℕ) → told ≡ Some size
    → m.may_work (size ∷ []) × m.may_take (size ∷ []) (before ∷ []) (after ∷ []) → HandsOut m told before after
handed-work m told size before after is work =
    inr (subst (λ (t : Option ℕ). IsSomeAnd t (λ n. m.may_work (n ∷ []) × m.may_take (n ∷ []) (before ∷ []) (after ∷ []))) (sym is) work)

-- the one that rose or not
file_fell : (file file_then : SeenFile) → file.faults ≤ file_then.faults → (place : ℕ) (a b : SeenFile)
    → slice_get (file ∷ []) place ≡ Some a → slice_get (file_then ∷ []) place ≡ Some b → a.faults ≤ b.faults
file_fell file file_then less zero a b was is =
    let same : file ≡ a = cc was in
    let also : file_then ≡ b = cc is in
    omega (arith, less, ap (λ (s : SeenFile). s.faults) same, ap (λ (s : SeenFile). s.faults) also)
file_fell file file_then less (suc place) a b was is = absurd (cc was)

module _ (m : Meaning) (P : List ℕ → Answer → Type 0) (Q : (before after : ℕ) → List ℕ → List Put → Type 0) (reads : ReadsFile m P Q)
    (input made made_then : SeenStream) (file file_then grown : SeenFile) (out out_then notes notes_then : SeenStream) where
  abbrev Asked : Seen
  Asked = seen input (file ∷ []) made grown out notes

  abbrev Answered : Seen
  Answered = seen input (file_then ∷ []) made_then grown out_then notes_then

  -- what follows from the bytes of the file
  pub told-answer : (R : Answer → Type 0)
      → ((bytes : List ℕ) → AreBytes bytes → file.bytes ≡ Some bytes → (answer : Answer) × OfFile P (bytes ∷ []) answer × R answer)
      → IfAnswered m Asked R
  told-answer R known = λ r is.
      let told = is.files reads.files in
      let one = one_told file.bytes r.files told.0 in
      let bytes : AllByRecursion AreBytes (one.0 ∷ []) = subst (λ (fs : List (List ℕ)). AllByRecursion AreBytes fs) one.1 told.1 in
      let found = known one.0 bytes.0 one.2 in (
        found.0,
        reads.answers r found.0 (subst (λ (fs : List (List ℕ)). OfFile P fs found.0) (sym one.1) found.1),
        found.2,
      )

  -- all that was put so far of those went out
  pub told-so_far : (ended : Status) (mid : SeenStream)
      → IfSome file.bytes (λ bytes. HasPutSoFar (Q file.handed file_then.handed bytes)
      (taken_by made.bytes out.bytes notes.bytes) (taken_by made_then.bytes out_then.bytes mid.bytes) [])
      → notes.faults ≤ mid.faults → TakesThen mid notes_then [] (fault_text ended)
      → IfRead m Asked (WentOutSoFar m ended Asked Answered)
  told-so_far ended mid so_far less says = λ r is.
      let one = one_told file.bytes r.files (is.files reads.files).0 in
      let start : Taken = taken_by made.bytes out.bytes notes.bytes in
      let then : Taken = taken_by made_then.bytes out_then.bytes mid.bytes in
      let put = MatchOption-at_some _ (λ (b : List ℕ). HasPutSoFar (Q file.handed file_then.handed b) start then []) one.0 one.2 so_far in
      went-so_far m ended Asked Answered mid r put.part
      (reads.so_far r (file.handed ∷ []) (file_then.handed ∷ []) put.part
      (subst (λ (fs : List (List ℕ)). OfFileSoFar Q fs (file.handed ∷ []) (file_then.handed ∷ []) put.part) (sym one.1) put.is))
      (GoOut-none_held start then Out put.part [] refl put.went) less says

  -- what follows from the size that the file told
  pub told-size : (R : List ℕ → Type 0) → IsSomeAnd file_then.told (λ size. R (size ∷ []))
      → IfSome file.bytes (λ bytes. IfSome file_then.told (λ size. size ≡ length bytes)) → OfSizes m Asked Answered R
  told-size R told exact =
      let size = told_size file_then.told (λ size. R (size ∷ [])) told in record {
        sizes = size.0 ∷ [];
        told = λ _. ap (λ (t : Option ℕ). t ∷ []) size.1;
        exact = λ _ files same.
            let one = one_told file.bytes files same in
            subst (λ (fs : List (List ℕ)). size.0 ∷ [] ≡ map length fs) (sym one.1)
            (ap (λ (n : ℕ). n ∷ []) (MatchOption-at_some _ (λ (n : ℕ). n ≡ length one.0) size.0 size.1
            (MatchOption-at_some _ (λ (b : List ℕ). IfSome file_then.told (λ n. n ≡ length b)) one.0 one.2 exact)));
        grown_told = λ uses. absurd (cc (sym uses ∙ reads.grown));
        grown_exact = λ uses. absurd (cc (sym uses ∙ reads.grown));
        holds = size.2;
      }

  -- what every end of its run keeps
  pub file-keeps : file.faults ≤ file_then.faults → made.faults ≤ made_then.faults → out.faults ≤ out_then.faults → notes.faults ≤ notes_then.faults
      → IfSome file.bytes (λ bytes. IfSome file_then.told (λ size. size ≡ length bytes))
      → HandsOut m file_then.told file.handed file_then.handed
      → IfRead m Asked (λ r. m.may_take_of r (file.handed ∷ []) (file_then.handed ∷ [])) → Keeps m Asked Answered
  file-keeps f k o n exact handed handed_of = record {
    counts = record { input = omega arith; files = file_fell file file_then f; made = k; grown = omega arith; out = o; notes = n };
    ungrown = reads.grown;
    handed = elim handed [
      | inl same ↦ inl (ap (λ (n : ℕ). n ∷ []) same)
      | inr within ↦ inr (
        reads.files,
        told-size (λ sizes. m.may_work sizes × m.may_take sizes (file.handed ∷ []) (file_then.handed ∷ [])) within exact,
      )
    ];
    handed_of = handed_of;
    grown_handed = refl;
    in_order = λ place asked is untold. one_alone place asked file_then file is;
    input_taken = none-taken m.most_taken input.bytes;
  }
