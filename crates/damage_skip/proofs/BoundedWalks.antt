-- Which events a walk goes past where the bytes of its regions are bounded.
use Rattle.std.proofs.Common.{◌≡◌, ◌∙◌, ℕ, true, false, not, Option, Some, None, List, [], ◌∷◌, ◌++◌, sym, refl, ap}
use Rattle.std.specs.List.{AllByRecursion, cons_option, find}
use Rattle.std.proofs.lemmas.Bool.{cond-true, cond-false}
use Rattle.std.proofs.lemmas.List.{append-nil}
use Rattle.std.proofs.lemmas.List.Sums.{take_while-cons}
use Rattle.damage_skip.specs.Pieces.{Piece}
use Rattle.damage_skip.specs.Regions.{region_of, regions_in}
use Rattle.damage_skip.specs.Bounds.{may_skip, MaySkip, is_refused_as, is_refused, walked, refused_in}
use Rattle.damage_skip.specs.declared.regions.Region.{Region}
use Rattle.damage_skip.proofs.RegionsIn.{regions_in-append}
use Rattle.damage_skip.proofs.WalkedTo.{piece_at}

module _ (most : Option ℕ) where
  -- each region of some events may be skipped
  abbrev pub MaySkipEach : List Piece → Type 0
  MaySkipEach events = AllByRecursion (MaySkip most) (regions_in events)

  -- so the first event is not refused, nor those behind it
  first_passed : (region : Option Region) (regions : List Region) → AllByRecursion (MaySkip most) (cons_option region regions)
      → (is_refused_as most region ≡ false) × AllByRecursion (MaySkip most) regions
  first_passed None regions h = (refl, h)
  first_passed (Some region) regions h = (ap not h.0, h.1)

  -- they come before those that are walked behind them
  pub walked-behind : (es fs : List Piece) → MaySkipEach es → walked most (es ++ fs) ≡ es ++ walked most fs
  walked-behind [] fs h = refl
  walked-behind (e ∷ es) fs h =
      let first = first_passed (region_of e) (regions_in es) h in
      take_while-cons (λ (p : Piece). not (is_refused most p)) e (es ++ fs)
      ∙ cond-true (not (is_refused most e)) (e ∷ walked most (es ++ fs)) [] (ap not first.0)
      ∙ ap (λ (xs : List Piece). e ∷ xs) (walked-behind es fs first.1)

  walked-refused : (e : Piece) (fs : List Piece) → is_refused most e ≡ true → walked most (e ∷ fs) ≡ []
  walked-refused e fs h =
      take_while-cons (λ (p : Piece). not (is_refused most p)) e fs
      ∙ cond-false (not (is_refused most e)) (e ∷ walked most fs) [] (ap not h)

  find-behind : (rs ss : List Region) → AllByRecursion (MaySkip most) rs
      → find (λ region. not (may_skip most region)) (rs ++ ss) ≡ find (λ region. not (may_skip most region)) ss
  find-behind [] ss h = refl
  find-behind (r ∷ rs) ss h =
      cond-false (not (may_skip most r)) (Some r) (find (λ region. not (may_skip most region)) (rs ++ ss)) (ap not h.0)
      ∙ find-behind rs ss h.1

  pub refused-behind : (es fs : List Piece) → MaySkipEach es → refused_in most (es ++ fs) ≡ refused_in most fs
  refused-behind es fs h =
      ap (find (λ region. not (may_skip most region))) (regions_in-append es fs)
      ∙ find-behind (regions_in es) (regions_in fs) h

  -- events of which none is refused are all walked
  pub walked-all : (es : List Piece) → MaySkipEach es → walked most es ≡ es
  walked-all es h = ap (walked most) (sym (append-nil es)) ∙ walked-behind es [] h ∙ append-nil es

  pub refused-none : (es : List Piece) → MaySkipEach es → refused_in most es ≡ None
  refused-none es h = ap (refused_in most) (sym (append-nil es)) ∙ refused-behind es [] h

  -- one that may not be skipped ends the walk
  pub walked-to_refused : (es fs : List Piece) (region : Region) → MaySkipEach es → may_skip most region ≡ false
      → walked most (es ++ piece_at region ∷ fs) ≡ es
  walked-to_refused es fs region h not_allowed =
      walked-behind es (piece_at region ∷ fs) h
      ∙ ap (λ (xs : List Piece). es ++ xs) (walked-refused (piece_at region) fs (ap not not_allowed))
      ∙ append-nil es

  pub refused-there : (es fs : List Piece) (region : Region) → MaySkipEach es → may_skip most region ≡ false
      → refused_in most (es ++ piece_at region ∷ fs) ≡ Some region
  refused-there es fs region h not_allowed =
      refused-behind es (piece_at region ∷ fs) h
      ∙ cond-true (not (may_skip most region)) (Some region) (find (λ r. not (may_skip most r)) (regions_in fs)) (ap not not_allowed)
