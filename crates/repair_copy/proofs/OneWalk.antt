-- A walk under a test of regions is one up to where it ends, and what was walked before is a front of it.
use Rattle.std.proofs.Common.{◌≡◌, ◌∙◌, ◌⊎◌, ℕ, ◌^◌, ◌≤◌, Bool, true, Option, Some, None, List, [], ◌∷◌, ◌++◌, length, refl, sym, ap, subst, inl, inr, length-append, arith}
use Rattle.std.proofs.lemmas.List.{append-nil}
use Rattle.std.specs.List.{AllByRecursion}
use Rattle.std.specs.Fn.{Shared}
use denote.Ref.{Bor}
use Rattle.damage_skip.specs.Pieces.{Piece, Skipped, events_in}
use Rattle.damage_skip.specs.Policies.{IsTest, IsAllowedRegion}
use Rattle.damage_skip.specs.Regions.{regions_in, IsWalkedTo}
use Rattle.damage_skip.specs.Walks.{GoesOn}
use Rattle.damage_skip.specs.declared.regions.Region.{Region}
use Rattle.damage_skip.proofs.OnePiece.{piece_one}
use Rattle.damage_skip.proofs.RegionsIn.{regions_in-append}
use Rattle.damage_skip.proofs.Tiles.{same_piece, goes_on_front, goes_on_one, events_of}
use Rattle.repair_copy.specs.Walked.{IsRefusedRegionAt, EndsAt}

-- of two fronts of a list one is a front of the other
fronts : {X : Type 0} (ps qs ms ns : List X) → ps ++ ms ≡ qs ++ ns
    → ((rest : List X) × (qs ≡ ps ++ rest)) ⊎ ((x : X) × (rest : List X) × (ps ≡ qs ++ x ∷ rest) × (ns ≡ x ∷ (rest ++ ms)))
fronts [] qs ms ns same = inl (qs, refl)
fronts (p ∷ ps) [] ms ns same = inr (p, ps, refl, sym same)
fronts {X} (p ∷ ps) (q ∷ qs) ms ns same =
    let first : p ≡ q = cc same in
    let others : ps ++ ms ≡ qs ++ ns = cc same in
    elim (fronts ps qs ms ns others) [
      | inl (rest, is) ↦ inl (rest, ap (λ (x : X). x ∷ qs) (sym first) ∙ ap (λ (xs : List X). p ∷ xs) is)
      | inr (x, rest, is, behind) ↦ inr (x, rest, ap (λ (y : X). y ∷ ps) first ∙ ap (λ (xs : List X). q ∷ xs) is, behind)
    ]

-- a list behind which nothing is
append_of_none : {X : Type 0} (ps qs rest : List X) → qs ≡ ps ++ rest → length rest ≡ 0 → ps ≡ qs
append_of_none ps qs [] is none = sym (is ∙ append-nil ps)
append_of_none ps qs (x ∷ rest) is none = cc none

-- what holds of each of two lists holds of each of the second
each_behind : {X : Type 0} (P : X → Type 0) (xs ys : List X) → AllByRecursion P (xs ++ ys) → AllByRecursion P ys
each_behind P [] ys h = h
each_behind P (x ∷ xs) ys h = each_behind P xs ys h.1

module _ {F : Type 0} (test : Shared F (Bor Region × Unit {0}) Bool) (f : F) (one_way : IsTest test f) (file : List ℕ) (reach : length file ≤ 2 ^ 60) where
  -- behind the file's end no event is
  none_behind : (place : ℕ) (x : Piece) (rest : List Piece) → place ≡ length file → GoesOn true file place (length file) (x ∷ rest) → ⊥
  none_behind place x rest end on = cc (goes_on_one true file place (length file) (x ∷ rest) [] on ([], end, refl))

  -- a region that is refused is the first event behind the place, and is not allowed
  refused_stays : (place : ℕ) (region : Region) (x : Piece) (rest others : List Piece) → IsRefusedRegionAt test f file place region
      → GoesOn true file place (length file) (x ∷ rest) → AllByRecursion (IsAllowedRegion test f) (regions_in (x ∷ others)) → ⊥
  refused_stays place region x rest others h ([], on, are) each = cc are
  refused_stays place region x rest others h (q ∷ qs, (begin, under, is, on), are) each =
      let told : Piece = record { begin = region.begin; end = region.end; what = Skipped region.why } in
      let one = piece_one true file place q.end region.end q.what (Skipped region.why) is h.piece in
      let same : q ≡ told = same_piece q told (begin ∙ sym h.begin) one.0 one.1 in
      let events : told ∷ events_in qs ≡ x ∷ rest = sym (ap (λ (p : Piece). events_in (p ∷ qs)) same) ∙ are in
      let first : x ≡ told = cc (events) in
      let yes = subst (λ (p : Piece). AllByRecursion (IsAllowedRegion test f) (regions_in (p ∷ others))) first each in
      one_way.one_way region yes.0.0 yes.0.1 h.refused

  -- so no event that is allowed is behind where the walk ends
  none_further : (place : ℕ) (stopped : Option Region) (x : Piece) (rest others : List Piece) → EndsAt test f file place stopped
      → GoesOn true file place (length file) (x ∷ rest) → AllByRecursion (IsAllowedRegion test f) (regions_in (x ∷ others)) → ⊥
  none_further place None x rest others end on each = none_behind place x rest end on
  none_further place (Some region) x rest others end on each = refused_stays place region x rest others end on each

  -- and what was walked is a front of it
  pub walk_is_front : (a b : ℕ) (es fs : List Piece) (stopped : Option Region) → IsWalkedTo true (IsAllowedRegion test f) file a es → IsWalkedTo true (IsAllowedRegion test f) file b fs
      → EndsAt test f file b stopped → (rest : List Piece) × (fs ≡ es ++ rest)
  walk_is_front a b es fs stopped h g end =
      let all = events_of true file in
      let here = goes_on_front true file a es all.0 h.walked all.1 in
      let there = goes_on_front true file b fs all.0 g.walked all.1 in
      elim (fronts es fs here.0 there.0 (sym here.1 ∙ there.1)) [
        | inl front ↦ front
        | inr (x, rest, is, behind) ↦
            absurd (none_further b stopped x (rest ++ here.0) rest end
            (subst (λ (xs : List Piece). GoesOn true file b (length file) xs) behind there.2)
            (each_behind (IsAllowedRegion test f) (regions_in fs) (regions_in (x ∷ rest))
            (subst (AllByRecursion (IsAllowedRegion test f)) (ap regions_in is ∙ regions_in-append fs (x ∷ rest)) h.each)))
      ]

  -- of two that end both are one
  pub walks_are_one : (a b : ℕ) (es fs : List Piece) (one other : Option Region) → IsWalkedTo true (IsAllowedRegion test f) file a es → IsWalkedTo true (IsAllowedRegion test f) file b fs
      → EndsAt test f file a one → EndsAt test f file b other → es ≡ fs
  walks_are_one a b es fs one other h g end there =
      let front = walk_is_front a b es fs other h g there in
      let back = walk_is_front b a fs es one g h end in
      let none : length front.0 ≡ 0 =
      omega (arith, ap {B = ℕ} length front.1, ap {B = ℕ} length back.1, length-append es front.0, length-append fs back.0) in
      append_of_none es fs front.0 front.1 none
