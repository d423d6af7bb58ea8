-- Inside. What several stores show, and what a call leaves of them. Own.
use Rattle.std.specs.Prelude.{◌≡◌, ℕ, ◌⊎◌, Option, Some, List, [], ◌∷◌, map}
use Rattle.std.specs.List.{AllZip}
use Rattle.record_io.specs.Calls.{OnlyAsks}
use Rattle.record_io.specs.Outside.{Rose}

-- the stores show these, one after another, as their bytes or as the sizes that they told
abbrev pub AreTold : {S X : Type 0} → (S → Option X) → List S → List X → Type 0
AreTold tell stores told = map tell stores ≡ map Some told

-- P holds of the bytes that the stores show, where they all do
abbrev pub IfAllTell : {S : Type 0} → (S → Option (List ℕ)) → List S → (List (List ℕ) → Type 0) → Type 0
IfAllTell bytes stores P = (files : List (List ℕ)) → AreTold bytes stores files → P files

-- the count of faults of one of the stores rose
abbrev pub AnyRose : {S : Type 0} → (S → ℕ) → List S → List S → Type 0
AnyRose faults [] after = ⊥
AnyRose faults (a ∷ before) [] = ⊥
AnyRose faults (a ∷ before) (b ∷ after) = Rose (faults a) (faults b) ⊎ AnyRose faults before after

-- each store is only asked: its bytes, the size that it told and what it borrows stay, and its count of faults doesn't fall;
-- and one of these counts rises where the call says that a store failed
pub record AreOnlyAsked {S L : Type 0} (bytes : S → Option (List ℕ)) (told : S → Option ℕ) (name : S → L) (faults : S → ℕ)
    (Fails : Type 0) (before after : List S) : Type 0 where
  pub each : AllZip (OnlyAsks bytes told name faults ⊥) before after
  pub cause : Fails → AnyRose faults before after
