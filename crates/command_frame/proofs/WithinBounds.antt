-- Numbers that are read within bounds are within them.
use Rattle.std.proofs.Common.{◌≡◌, ℕ, ◌≤◌, Bool, true, false, Option, Some, None, List, nat_le, option_map, unwrap_or, refl, subst, ◌&&◌}
use Rattle.std.specs.Prelude.{option_and_then}
use Rattle.std.specs.Bool.{then_some}
use Rattle.std.specs.Option.{ForSome}
use Rattle.std.proofs.lemmas.Bool.{and_parts, leb-true}
use Rattle.command_frame.specs.Numbers.{number_in, number_within}
use Rattle.command_frame.specs.Options.{optional_value}

-- what stands behind an answer that is there
pub and_then_some : {X Y : Type 0} (o : Option X) (f : X → Option Y) (y : Y) → option_and_then f o ≡ Some y → (x : X) × (o ≡ Some x) × (f x ≡ Some y)
and_then_some None f y is = absurd (cc is)
and_then_some (Some x) f y is = (x, refl, is)

map_some : {X Y : Type 0} (o : Option X) (f : X → Y) (y : Y) → option_map f o ≡ Some y → (x : X) × (o ≡ Some x) × (f x ≡ y)
map_some None f y is = absurd (cc is)
map_some (Some x) f y is = (x, refl, cc is)

then_some_some : {X : Type 0} (b : Bool) (x y : X) → then_some b x ≡ Some y → (b ≡ true) × (x ≡ y)
then_some_some true x y is = (refl, cc is)
then_some_some false x y is = absurd (cc is)

-- a number is within two bounds
pub record IsWithin (least most n : ℕ) : Type 0 where
  pub least_bound : least ≤ n
  pub most_bound : n ≤ most

-- a number that is read within bounds is within them
pub number_within-bounds : (least most : ℕ) (word : List ℕ) (n : ℕ) → number_within least most word ≡ Some n → IsWithin least most n
number_within-bounds least most word n is =
    let read = and_then_some (number_in word) (λ m. then_some (nat_le least m && nat_le m most) m) n is in
    let kept = then_some_some _ read.0 n read.2 in
    let bounds = and_parts _ _ kept.0 in
    subst (IsWithin least most) kept.1 (record { least_bound = leb-true least read.0 bounds.0; most_bound = leb-true read.0 most bounds.1 })

-- so is one that stands behind an option, if there is one
pub optional_value-within : (least most : ℕ) (value : Option (List ℕ)) (found : Option ℕ)
    → optional_value (number_within least most) value ≡ Some found → ForSome found (IsWithin least most)
optional_value-within least most None found is n e = absurd (let none : None ≡ found = cc in cc)
optional_value-within least most (Some word) found is n e =
    let read = map_some (number_within least most word) Some found is in
    let same : read.0 ≡ n = cc in
    subst (IsWithin least most) same (number_within-bounds least most word read.0 read.1)

-- and the default where there is none
pub unwrap_or-within : (least most default : ℕ) (found : Option ℕ) → IsWithin least most default → ForSome found (IsWithin least most)
    → IsWithin least most (unwrap_or found default)
unwrap_or-within least most default None h g = h
unwrap_or-within least most default (Some n) h g = g n refl
