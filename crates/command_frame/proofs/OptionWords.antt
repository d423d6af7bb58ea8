-- Lists of words, as the scanner reads them.
use Rattle.std.proofs.Common.{◌≡◌, ◌≢◌, ℕ, suc, ◌==◌, arith, length-append, Bool, true, false, Option, Some, None, List, [], ◌∷◌, ◌++◌, map, filter, length, is_some, nat_eq, ap, ◌||◌, refl, if◌then◌else◌}
use Rattle.std.specs.List.{list_any, cons_option, starts_with}
use Rattle.std.proofs.lemmas.Slice.Eq.{starts_is}
use Rattle.std.proofs.lemmas.Bool.Decides.{Decides-eqb, nat_tests}
use Rattle.std.proofs.lemmas.Bool.{false_from_ne_true}
use Rattle.std.proofs.lemmas.List.{drop_at}
use Rattle.std.specs.Bool.{then_some}
use Rattle.command_frame.specs.Options.{has_value, value_in, values_of}

-- some element of a list passes a test of what f makes of it
pub list_any-map : {X Y : Type 0} (p : Y → Bool) (f : X → Y) (xs : List X) → list_any p (map f xs) ≡ list_any (λ x. p (f x)) xs
list_any-map p f [] = refl
list_any-map p f (x ∷ xs) = ap (λ rest. p (f x) || rest) (list_any-map p f xs)

length-cons_option : {X Y : Type 0} (o : Option X) (xs : List X) (y : Y) (ys : List Y) → length xs ≡ length ys → length (cons_option o xs) ≡ length (if is_some o then y ∷ ys else ys)
length-cons_option None xs y ys e = e
length-cons_option (Some x) xs y ys e = ap (λ n. suc n) e

-- as many values are given as there are texts that give one
pub length-values_of : {X : Type 0} (option : List ℕ) (text : X → List ℕ) (xs : List X)
    → length (values_of option (map text xs)) ≡ length (filter (λ x. is_some (value_in option (text x))) xs)
length-values_of option text [] = refl
length-values_of option text (x ∷ xs) = length-cons_option (value_in option (text x)) _ x _ (length-values_of option text xs)

-- a word that begins with an option, and one that doesn't
starts_with-append : (word option rest : List ℕ) → word ≡ option ++ rest → starts_with nat_eq word option ≡ true
starts_with-append word option rest is = (starts_is Decides-eqb word option _ refl).1 rest is

starts_with-lacks : (word option : List ℕ) → ((rest : List ℕ) → word ≢ option ++ rest) → starts_with nat_eq word option ≡ false
starts_with-lacks word option lacks = false_from_ne_true _ (λ begins. lacks _ ((starts_is Decides-eqb word option _ refl).0 begins))

same_length : (front rest : List ℕ) → (length (front ++ rest) == length front) ≡ (length rest == 0)
same_length front rest = grind (arith, nat_tests, length-append front rest)

-- the value in a word that begins with an option, and none in one that doesn't
pub value_in-append : (option word rest : List ℕ) → word ≡ option ++ rest → value_in option word ≡ then_some (has_value option || length rest == 0) rest
value_in-append option word rest is =
    rw (starts_with-append word option rest is, is, same_length option rest, drop_at option rest (length option) refl) refl

pub value_in-lacks : (option word : List ℕ) → ((rest : List ℕ) → word ≢ option ++ rest) → value_in option word ≡ None
value_in-lacks option word lacks = rw (starts_with-lacks word option lacks) refl
