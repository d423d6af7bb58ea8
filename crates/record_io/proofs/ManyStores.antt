-- Several stores that are only asked: what stays of each, and of which the count of faults rose.
use Rattle.std.proofs.Common.{◌≡◌, ◌≢◌, ◌∙◌, ◌⊎◌, ℕ, ◌^◌, ◌<◌, ◌≤◌, zero, suc, Option, Some, None, List, [], ◌∷◌, length, map, set, get_or, refl, sym, ap, subst, inl, inr, arith}
use Rattle.std.specs.Prelude.{slice_get}
use Rattle.std.specs.List.{AllZip}
use Rattle.std.proofs.lemmas.List.{get_or-set_same, length-map, length-set}
use Rattle.std.proofs.lemmas.Option.{slice_get-get_or}
use Rattle.std.proofs.lemmas.Slice.Zip.{AllZip-long}
use Rattle.record_io.specs.Calls.{OnlyAsks}
use Rattle.record_io.specs.ManyStores.{AnyRose, AreOnlyAsked}
use Rattle.record_io.specs.Outside.{Rose}

-- what the store at a place shows
pub tells_at : {S X : Type 0} (tell : S → Option X) (stores : List S) (xs : List X) (place : ℕ) (store : S)
    → map tell stores ≡ map Some xs → place < length stores → store ≡ get_or stores place store
    → (x : X) × (slice_get xs place ≡ Some x) × (tell store ≡ Some x)
tells_at tell [] xs place store told below there = absurd (omega (arith, below))
tells_at tell (s ∷ stores) [] place store told below there = absurd cc
tells_at tell (s ∷ stores) (x ∷ xs) zero store told below there =
    let first : tell s ≡ Some x = cc in
    (x, refl, ap tell there ∙ first)
tells_at tell (s ∷ stores) (x ∷ xs) (suc place) store told below there =
    let rest : map tell stores ≡ map Some xs = cc in
    tells_at tell stores xs place store rest (omega (arith, below)) there

-- there are as many
pub as_many : {S X : Type 0} (tell : S → Option X) (stores : List S) (xs : List X) → map tell stores ≡ map Some xs → length stores ≡ length xs
as_many tell stores xs told = sym (length-map stores tell) ∙ ap length told ∙ length-map xs Some

-- what stands in a list of which one place is written
pub set_other : {X : Type 0} (xs : List X) (i j : ℕ) (y : X) → j ≢ i → slice_get (set xs i y) j ≡ slice_get xs j
set_other [] i j y other = refl
set_other (x ∷ xs) zero zero y other = absurd (other refl)
set_other (x ∷ xs) zero (suc j) y other = refl
set_other (x ∷ xs) (suc i) zero y other = refl
set_other (x ∷ xs) (suc i) (suc j) y other = set_other xs i j y (λ same. other (ap suc same))

pub set_there : {X : Type 0} (xs : List X) (i : ℕ) (y : X) → i < length xs → slice_get (set xs i y) i ≡ Some y
set_there xs i y below =
    slice_get-get_or (set xs i y) i y (omega (arith, length-set xs i y, below)) ∙ ap Some (get_or-set_same xs i y y below)

-- a count that rose has risen also where it goes on
Rose-then : (a b c : ℕ) → b ≤ c → (b < 2 ^ 64 → c < 2 ^ 64) → Rose a b → Rose a c
Rose-then a b c falls small (inl rose) = inl (omega (arith, falls, rose))
Rose-then a b c falls small (inr most) = inr (omega (arith, falls, most, small (omega (arith, most))))

-- and where it didn't fall before
pub Rose-after : (a b c : ℕ) → a ≤ b → Rose b c → Rose a c
Rose-after a b c falls (inl rose) = inl (omega (arith, falls, rose))
Rose-after a b c falls (inr most) = inr most

-- what stays the same of each two of two lists stays in all
pub each_same : {S X : Type 0} (R : S → S → Type 0) (f : S → X) → ((a b : S) → R a b → f b ≡ f a)
    → (before after : List S) → AllZip R before after → map f after ≡ map f before
each_same R f stays [] [] each = refl
each_same R f stays [] (b ∷ after) each = absurd each
each_same R f stays (a ∷ before) [] each = absurd each
each_same R f stays (a ∷ before) (b ∷ after) each =
    ap (λ x. x ∷ map f after) (stays a b each.0) ∙ ap (λ xs. f a ∷ xs) (each_same R f stays before after each.1)

-- one of the stores, of which the count of faults rose, by its place
pub AnyRose-place : {S : Type 0} (faults : S → ℕ) (before after : List S) → AnyRose faults before after
    → (place : ℕ) × (a : S) × (b : S) × (slice_get before place ≡ Some a) × (slice_get after place ≡ Some b) × Rose (faults a) (faults b)
AnyRose-place faults [] after rose = absurd rose
AnyRose-place faults (a ∷ before) [] rose = absurd rose
AnyRose-place faults (a ∷ before) (b ∷ after) (inl first) = (0, a, b, refl, refl, first)
AnyRose-place faults (a ∷ before) (b ∷ after) (inr others) =
    let (place, c, d, was, is, rose) = AnyRose-place faults before after others in (suc place, c, d, was, is, rose)

module _ {S L : Type 0} (bytes : S → Option (List ℕ)) (told : S → Option ℕ) (name : S → L) (faults : S → ℕ) where
  abbrev Asks : S → S → Type 0
  Asks = OnlyAsks bytes told name faults ⊥

  -- of stores that are only asked these stay: their bytes,
  pub same_bytes : (before after : List S) → AllZip (OnlyAsks bytes told name faults ⊥) before after → map bytes after ≡ map bytes before
  same_bytes = each_same Asks bytes (λ a b asks. asks.same_bytes)

  -- the sizes that they told,
  pub same_told : (before after : List S) → AllZip (OnlyAsks bytes told name faults ⊥) before after → map told after ≡ map told before
  same_told = each_same Asks told (λ a b asks. asks.same_told)

  -- what they borrow,
  pub same_names : (before after : List S) → AllZip (OnlyAsks bytes told name faults ⊥) before after → map name after ≡ map name before
  same_names = each_same Asks name (λ a b asks. asks.same_name)

  -- and how many they are
  pub same_length : (before after : List S) → AllZip (OnlyAsks bytes told name faults ⊥) before after → length after ≡ length before
  same_length before after each = AllZip-long Asks before after each

  -- no count of faults falls
  pub none_falls : (before after : List S) → AllZip (OnlyAsks bytes told name faults ⊥) before after
      → (place : ℕ) (a b : S) → slice_get before place ≡ Some a → slice_get after place ≡ Some b → faults a ≤ faults b
  none_falls [] [] each place a b was is = absurd (cc was)
  none_falls [] (d ∷ after) each place a b was is = absurd each
  none_falls (c ∷ before) [] each place a b was is = absurd each
  none_falls (c ∷ before) (d ∷ after) each zero a b was is =
      let first : c ≡ a = cc was in
      let then : d ≡ b = cc is in
      omega (arith, each.0.never_falls, ap faults first, ap faults then)
  none_falls (c ∷ before) (d ∷ after) each (suc place) a b was is = none_falls before after each.1 place a b was is

  -- a store that is asked, whether it failed or not
  pub asks_whatever : {F : Type 0} (s t : S) → OnlyAsks bytes told name faults F s t → OnlyAsks bytes told name faults ⊥ s t
  asks_whatever s t h = record {
    same_bytes = h.same_bytes;
    same_told = h.same_told;
    same_name = h.same_name;
    cause = λ never. absurd never;
    never_falls = h.never_falls;
    small = h.small;
  }

  -- a store that isn't asked
  pub asks_none : (s : S) → OnlyAsks bytes told name faults ⊥ s s
  asks_none s = record {
    same_bytes = refl;
    same_told = refl;
    same_name = refl;
    cause = λ never. absurd never;
    never_falls = omega arith;
    small = λ is. is;
  }

  -- and stores that aren't
  pub each_none : (stores : List S) → AllZip (OnlyAsks bytes told name faults ⊥) stores stores
  each_none [] = tt
  each_none (s ∷ stores) = (asks_none s, each_none stores)

  pub none_asked : {F : Type 0} (stores : List S) → (F → ⊥) → AreOnlyAsked bytes told name faults F stores stores
  none_asked stores never = record { each = each_none stores; cause = λ failed. absurd (never failed) }

  -- a count that rose has risen also where the stores are asked on,
  pub AnyRose-then : (before between after : List S) → AllZip (OnlyAsks bytes told name faults ⊥) between after
      → AnyRose faults before between → AnyRose faults before after
  AnyRose-then [] between after each rose = absurd rose
  AnyRose-then (a ∷ before) [] after each rose = absurd rose
  AnyRose-then (a ∷ before) (b ∷ between) [] each rose = absurd each
  AnyRose-then (a ∷ before) (b ∷ between) (c ∷ after) each (inl first) =
      inl (Rose-then (faults a) (faults b) (faults c) each.0.never_falls each.0.small first)
  AnyRose-then (a ∷ before) (b ∷ between) (c ∷ after) each (inr others) = inr (AnyRose-then before between after each.1 others)

  -- and where they were asked before
  pub AnyRose-after : (before between after : List S) → AllZip (OnlyAsks bytes told name faults ⊥) before between
      → AnyRose faults between after → AnyRose faults before after
  AnyRose-after before [] after each rose = absurd rose
  AnyRose-after before (b ∷ between) [] each rose = absurd rose
  AnyRose-after [] (b ∷ between) (c ∷ after) each rose = absurd each
  AnyRose-after (a ∷ before) (b ∷ between) (c ∷ after) each (inl first) =
      inl (Rose-after (faults a) (faults b) (faults c) each.0.never_falls first)
  AnyRose-after (a ∷ before) (b ∷ between) (c ∷ after) each (inr others) = inr (AnyRose-after before between after each.1 others)

-- a store that is asked twice, of which this stays that it tells
pub asks_twice : {S L : Type 0} (bytes : S → Option (List ℕ)) (told also kept : S → Option ℕ) (name : S → L) (faults : S → ℕ)
    {F G H : Type 0} (a b c : S) → kept c ≡ kept a → (H → F ⊎ G)
    → OnlyAsks bytes told name faults F a b → OnlyAsks bytes also name faults G b c → OnlyAsks bytes kept name faults H a c
asks_twice bytes told also kept name faults {F} {G} {H} a b c stays cause first then = record {
  same_bytes = then.same_bytes ∙ first.same_bytes;
  same_told = stays;
  same_name = then.same_name ∙ first.same_name;
  cause = λ failed. by (cause failed);
  never_falls = omega (arith, first.never_falls, then.never_falls);
  small = λ below. then.small (first.small below);
} where
  by : F ⊎ G → Rose (faults a) (faults c)
  by (inl failed) = Rose-then (faults a) (faults b) (faults c) then.never_falls then.small (first.cause failed)
  by (inr failed) = Rose-after (faults a) (faults b) (faults c) first.never_falls (then.cause failed)

-- stores that are asked twice, whatever sizes they tell then
module _ {S L : Type 0} (bytes : S → Option (List ℕ)) (told also : S → Option ℕ) (name : S → L) (faults : S → ℕ) where
  each_twice : (before between after : List S)
      → AllZip (OnlyAsks bytes told name faults ⊥) before between → AllZip (OnlyAsks bytes also name faults ⊥) between after
      → AllZip (OnlyAsks bytes (λ s. None) name faults ⊥) before after
  each_twice [] [] [] first then = tt
  each_twice [] [] (c ∷ after) first then = absurd then
  each_twice [] (b ∷ between) after first then = absurd first
  each_twice (a ∷ before) [] after first then = absurd first
  each_twice (a ∷ before) (b ∷ between) [] first then = absurd then
  each_twice (a ∷ before) (b ∷ between) (c ∷ after) first then = (
    asks_twice bytes told also (λ s. None) name faults a b c refl (λ never. absurd never) first.0 then.0,
    each_twice before between after first.1 then.1,
  )

  pub asked_twice : {F G H : Type 0} (before between after : List S) → (H → F ⊎ G)
      → AreOnlyAsked bytes told name faults F before between → AreOnlyAsked bytes also name faults G between after
      → AreOnlyAsked bytes (λ s. None) name faults H before after
  asked_twice {F} {G} {H} before between after cause first then = record {
    each = each_twice before between after first.each then.each;
    cause = λ failed. by (cause failed);
  } where
    by : F ⊎ G → AnyRose faults before after
    by (inl failed) = AnyRose-then bytes also name faults before between after then.each (first.cause failed)
    by (inr failed) = AnyRose-after bytes told name faults before between after first.each (then.cause failed)

-- or once
pub untold : {S L : Type 0} (bytes : S → Option (List ℕ)) (told : S → Option ℕ) (name : S → L) (faults : S → ℕ) {F H : Type 0} (before after : List S)
    → (H → F) → AreOnlyAsked bytes told name faults F before after → AreOnlyAsked bytes (λ s. None) name faults H before after
untold bytes told name faults {F} {H} before after cause asked =
    asked_twice bytes told told name faults {F = F} {G = ⊥} {H = H} before after after (λ failed. inl (cause failed)) asked
    (none_asked bytes told name faults after (λ never. never))

-- one of the stores is asked, at a place
module _ {S L : Type 0} (bytes : S → Option (List ℕ)) (told : S → Option ℕ) (name : S → L) (faults : S → ℕ) where
  each_set : {F : Type 0} (before now : List S) (place : ℕ) (store after : S) → place < length now → store ≡ get_or now place store
      → AllZip (OnlyAsks bytes told name faults ⊥) before now → OnlyAsks bytes told name faults F store after
      → AllZip (OnlyAsks bytes told name faults ⊥) before (set now place after)
  each_set before [] place store after below there each asks = absurd (omega (arith, below))
  each_set [] (b ∷ now) place store after below there each asks = absurd each
  each_set (a ∷ before) (b ∷ now) zero store after below there each asks =
      let first : OnlyAsks bytes told name faults ⊥ a store = subst (OnlyAsks bytes told name faults ⊥ a) (sym there) each.0 in
      (asks_twice bytes told told told name faults a store after (asks.same_told ∙ first.same_told) (λ never. absurd never) first asks, each.1)
  each_set (a ∷ before) (b ∷ now) (suc place) store after below there each asks =
      (each.0, each_set before now place store after (omega (arith, below)) there each.1 asks)

  rises_set : (before now : List S) (place : ℕ) (store after : S) → place < length now → store ≡ get_or now place store
      → AllZip (OnlyAsks bytes told name faults ⊥) before now → Rose (faults store) (faults after) → AnyRose faults before (set now place after)
  rises_set before [] place store after below there each rose = absurd (omega (arith, below))
  rises_set [] (b ∷ now) place store after below there each rose = absurd each
  rises_set (a ∷ before) (b ∷ now) zero store after below there each rose =
      inl (Rose-after (faults a) (faults store) (faults after) (omega (arith, each.0.never_falls, ap faults there)) rose)
  rises_set (a ∷ before) (b ∷ now) (suc place) store after below there each rose =
      inr (rises_set before now place store after (omega (arith, below)) there each.1 rose)

  pub one_asked : {F G : Type 0} (before now : List S) (place : ℕ) (store after : S) → place < length now → store ≡ get_or now place store
      → AreOnlyAsked bytes told name faults ⊥ before now → OnlyAsks bytes told name faults F store after → (G → F)
      → AreOnlyAsked bytes told name faults G before (set now place after)
  one_asked before now place store after below there asked asks cause = record {
    each = each_set before now place store after below there asked.each asks;
    cause = λ failed. rises_set before now place store after below there asked.each (asks.cause (cause failed));
  }
