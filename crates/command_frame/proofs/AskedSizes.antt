-- Files that are asked their sizes, one after another.
use Rattle.std.proofs.Common.{◌≡◌, ◌∙◌, ℕ, ◌+◌, ◌^◌, ◌<◌, ◌≤◌, zero, suc, Option, Some, None, List, [], ◌∷◌, length, map, set, drop, refl, sym, ap, inl, inr, arith, IfSome}
use Rattle.std.specs.Prelude.{slice_get}
use Rattle.std.specs.List.{AllZip}
use Rattle.std.proofs.lemmas.Bool.{cases_eq, cases_lt}
use Rattle.std.proofs.lemmas.Option.{MatchOption-at_some}
use Rattle.record_io.specs.Calls.{OnlyAsks}
use Rattle.record_io.specs.Outside.{Rose}
use Rattle.record_io.proofs.ManyStores.{each_same, set_other, set_there}

-- a file that is asked its size
pub asks : {S L : Type 0} (bytes : S → Option (List ℕ)) (handed : S → ℕ) (name : S → L) (faults : S → ℕ) (F : Type 0) (file after : S)
    → bytes after ≡ bytes file → handed after ≡ handed file → name after ≡ name file → (F → Rose (faults file) (faults after))
    → faults file ≤ faults after → faults after < 2 ^ 64
    → OnlyAsks bytes (λ (s : S). Some (handed s)) name faults F file after
asks bytes handed name faults F file after same_bytes same_handed same_name cause never_falls small = record {
  same_bytes = same_bytes;
  same_told = ap Some same_handed;
  same_name = same_name;
  cause = cause;
  never_falls = never_falls;
  small = λ _. small;
}

-- so files that are asked their sizes hand out as much as before
pub same_handed : {S L : Type 0} (bytes : S → Option (List ℕ)) (handed : S → ℕ) (name : S → L) (faults : S → ℕ) (before after : List S)
    → AllZip (OnlyAsks bytes (λ (s : S). Some (handed s)) name faults ⊥) before after → map handed after ≡ map handed before
same_handed bytes handed name faults =
    each_same (OnlyAsks bytes (λ s. Some (handed s)) name faults ⊥) handed
    (λ a b asks. let same : Some (handed b) ≡ Some (handed a) = asks.same_told in cc same)

-- the first files told these sizes, and the others weren't asked
pub record AreAsked {S : Type 0} (told : S → Option ℕ) (count : ℕ) (sizes : List ℕ) (before now : List S) : Type 0 where
  pub sized : (place : ℕ) (file : S) → place < count → slice_get now place ≡ Some file
      → (size : ℕ) × (slice_get sizes place ≡ Some size) × (told file ≡ Some size)
  pub unasked : (place : ℕ) → count ≤ place → slice_get now place ≡ slice_get before place

pub AreAsked-none : {S : Type 0} (told : S → Option ℕ) (sizes : List ℕ) (files : List S) → AreAsked told 0 sizes files files
AreAsked-none told sizes files = record {
  sized = λ place file below there. absurd (omega (arith, below));
  unasked = λ place from. refl;
}

-- one more, which failed
failed : {S : Type 0} (told : S → Option ℕ) (count : ℕ) (sizes : List ℕ) (before now : List S) (after : S)
    → AreAsked told count sizes before now → (place : ℕ) → count + 1 ≤ place → slice_get (set now count after) place ≡ slice_get before place
failed told count sizes before now after kept place from =
    set_other now count place after (λ same. omega (arith, from, same)) ∙ kept.unasked place (omega (arith, from))

-- or told its size
pub AreAsked-more : {S : Type 0} (told : S → Option ℕ) (count size : ℕ) (sizes : List ℕ) (before now : List S) (after : S)
    → count < length now → count < length sizes → told after ≡ Some size → AreAsked told count sizes before now
    → AreAsked told (count + 1) (set sizes count size) before (set now count after)
AreAsked-more {S} told count size sizes before now after below room tells kept = record {
  sized = λ place file first there. elim (cases_eq place count) [
    | inl same ↦
        let new : Some file ≡ Some after = sym there ∙ ap (slice_get (set now count after)) same ∙ set_there now count after below in
        let is : file ≡ after = cc in
        (size, ap (slice_get (set sizes count size)) same ∙ set_there sizes count size room, ap told is ∙ tells)
    | inr other ↦
        let old = kept.sized place file (omega (arith, first, other)) (sym (set_other now count place after other) ∙ there) in
        (old.0, set_other sizes count place size other ∙ old.1, old.2)
  ];
  unasked = failed told count sizes before now after kept;
}

-- all told their sizes
pub told_all : {S : Type 0} (told : S → Option ℕ) (files : List S) (sizes : List ℕ) → length files ≡ length sizes
    → ((place : ℕ) (file : S) → slice_get files place ≡ Some file → (size : ℕ) × (slice_get sizes place ≡ Some size) × (told file ≡ Some size))
    → map told files ≡ map Some sizes
told_all told [] [] many each = refl
told_all told [] (n ∷ sizes) many each = absurd cc
told_all told (f ∷ files) [] many each = absurd cc
told_all told (f ∷ files) (n ∷ sizes) many each =
    let first = each 0 f refl in
    let is : n ≡ first.0 = cc first.1 in
    ap (λ (t : Option ℕ). t ∷ map told files) (first.2 ∙ ap Some (sym is))
    ∙ ap (λ (ts : List (Option ℕ)). Some n ∷ ts) (told_all told files sizes (omega (arith, many)) (λ place file there. each (suc place) file there))

none_dropped : {X : Type 0} (count : ℕ) → ◌≡◌ {A = List X} (drop count []) []
none_dropped zero = refl
none_dropped (suc count) = refl

-- lists of which the same stands at each place from one on
pub same_behind : {X : Type 0} (count : ℕ) (xs ys : List X) → ((place : ℕ) → count ≤ place → slice_get xs place ≡ slice_get ys place) → drop count xs ≡ drop count ys
same_behind zero [] [] same = refl
same_behind zero [] (y ∷ ys) same = absurd (cc (same 0 (omega arith)))
same_behind zero (x ∷ xs) [] same = absurd (cc (same 0 (omega arith)))
same_behind zero (x ∷ xs) (y ∷ ys) same =
    let first : x ≡ y = cc (same 0 (omega arith)) in
    ap (λ z. z ∷ xs) first ∙ ap (λ zs. y ∷ zs) (same_behind 0 xs ys (λ place from. same (suc place) (omega arith)))
same_behind (suc count) [] [] same = refl
same_behind (suc count) [] (y ∷ ys) same =
    sym (none_dropped count) ∙ same_behind count [] ys (λ place from. same (suc place) (omega (arith, from)))
same_behind (suc count) (x ∷ xs) [] same =
    same_behind count xs [] (λ place from. same (suc place) (omega (arith, from))) ∙ none_dropped count
same_behind (suc count) (x ∷ xs) (y ∷ ys) same = same_behind count xs ys (λ place from. same (suc place) (omega (arith, from)))

-- behind a file that told no size none was asked
pub behind_untold : {S : Type 0} (told : S → Option ℕ) (count : ℕ) (sizes : List ℕ) (before now : List S) (after : S)
    → AreAsked told count sizes before now → (place : ℕ) (file : S) → slice_get (set now count after) place ≡ Some file → told file ≡ None
    → drop (place + 1) (set now count after) ≡ drop (place + 1) before
behind_untold told count sizes before now after kept place file there untold = elim (cases_lt place count) [
  | inl below ↦
      let old = kept.sized place file below (sym (set_other now count place after (λ same. omega (arith, below, same))) ∙ there) in
      absurd (cc (sym untold ∙ old.2))
  | inr behind ↦
      same_behind (place + 1) (set now count after) before (λ p from. failed told count sizes before now after kept p (omega (arith, from, behind)))
]

-- of files that all told sizes none is behind such a file
pub none_untold : {S : Type 0} {A : Type 0} (told : S → Option ℕ) (files : List S) (sizes : List ℕ) (place : ℕ) (file : S)
    → map told files ≡ map Some sizes → slice_get files place ≡ Some file → told file ≡ None → A
none_untold told [] sizes place file all there untold = absurd (cc there)
none_untold told (f ∷ files) [] place file all there untold = absurd (cc all)
none_untold told (f ∷ files) (n ∷ sizes) zero file all there untold =
    let is : f ≡ file = cc there in
    let first : told f ≡ Some n = cc all in
    absurd (cc (sym untold ∙ ap told (sym is) ∙ first))
none_untold told (f ∷ files) (n ∷ sizes) (suc place) file all there untold =
    let rest : map told files ≡ map Some sizes = cc all in
    none_untold told files sizes place file rest there untold

-- what they told are the sizes of their bytes
pub exact_sizes : {S : Type 0} (bytes : S → Option (List ℕ)) (told : S → Option ℕ)
    → ((file : S) → IfSome (bytes file) (λ bs. IfSome (told file) (λ size. size ≡ length bs)))
    → (files : List S) (all : List (List ℕ)) (sizes : List ℕ) → map bytes files ≡ map Some all → map told files ≡ map Some sizes → sizes ≡ map length all
exact_sizes bytes told sized [] [] [] same tells = refl
exact_sizes bytes told sized [] [] (n ∷ sizes) same tells = absurd (cc tells)
exact_sizes bytes told sized [] (b ∷ all) sizes same tells = absurd (cc same)
exact_sizes bytes told sized (f ∷ files) [] sizes same tells = absurd (cc same)
exact_sizes bytes told sized (f ∷ files) (b ∷ all) [] same tells = absurd (cc tells)
exact_sizes bytes told sized (f ∷ files) (b ∷ all) (n ∷ sizes) same tells =
    let its : bytes f ≡ Some b = cc same in
    let size : told f ≡ Some n = cc tells in
    let others : map bytes files ≡ map Some all = cc same in
    let rest : map told files ≡ map Some sizes = cc tells in
    let is : n ≡ length b = MatchOption-at_some _ (λ (s : ℕ). s ≡ length b) n size
    (MatchOption-at_some _ (λ (bs : List ℕ). IfSome (told f) (λ s. s ≡ length bs)) b its (sized f)) in
    ap (λ (k : ℕ). k ∷ sizes) is ∙ ap (λ (ks : List ℕ). length b ∷ ks) (exact_sizes bytes told sized files all sizes others rest)
