-- Lists of which one element changes.
use Rattle.std.proofs.Common.{All, get_or, ap, ◌≡◌, ◌∙◌, ℕ, zero, suc, ◌+◌, Some, List, [], ◌∷◌, ◌++◌, length, map, set, refl, sym, subst, arith}
use Rattle.std.specs.List.{AllByRecursion, flat_map, sum_by, slice_get, slice_index}
use Rattle.std.proofs.lemmas.List.{append_assoc, length-append, get_or_append_left, map-append}
use Rattle.std.proofs.lemmas.List.Sums.{sum_by-cons}
use mathlib.Core.Option.{some}
use lib.ListN.{get_elem?}

-- each element, and one in the place of another
pub all_at : {X : Type 0} (P : X → Type 0) (xs : List X) (i : ℕ) (x : X) → slice_get xs i ≡ Some x → AllByRecursion P xs → P x
all_at P [] i x at all = cc
all_at P (y ∷ xs) zero x at all = let same : y ≡ x = cc in subst P same all.0
all_at P (y ∷ xs) (suc i) x at all = all_at P xs i x at all.1

pub all_set : {X : Type 0} (P : X → Type 0) (xs : List X) (i : ℕ) (y : X) → P y → AllByRecursion P xs → AllByRecursion P (set xs i y)
all_set P [] i y p all = tt
all_set P (x ∷ xs) zero y p all = (p, all.1)
all_set P (x ∷ xs) (suc i) y p all = (all.0, all_set P xs i y p all.1)

pub all_push : {X : Type 0} (P : X → Type 0) (xs : List X) (y : X) → P y → AllByRecursion P xs → AllByRecursion P (xs ++ y ∷ [])
all_push P [] y p all = (p, tt)
all_push P (x ∷ xs) y p all = (all.0, all_push P xs y p all.1)

pub all_append : {X : Type 0} (P : X → Type 0) (xs ys : List X) → AllByRecursion P xs → AllByRecursion P ys → AllByRecursion P (xs ++ ys)
all_append P [] ys all all' = all'
all_append P (x ∷ xs) ys all all' = (all.0, all_append P xs ys all.1 all')

pub all_front : {X : Type 0} (P : X → Type 0) (xs ys : List X) → AllByRecursion P (xs ++ ys) → AllByRecursion P xs
all_front P [] ys all = tt
all_front P (x ∷ xs) ys all = (all.0, all_front P xs ys all.1)

pub all_back : {X : Type 0} (P : X → Type 0) (xs ys : List X) → AllByRecursion P (xs ++ ys) → AllByRecursion P ys
all_back P [] ys all = all
all_back P (x ∷ xs) ys all = all_back P xs ys all.1

pub all_map : {X : Type 0} (P Q : X → Type 0) (xs : List X) → ((x : X) → P x → Q x) → AllByRecursion P xs → AllByRecursion Q xs
all_map P Q [] f all = tt
all_map P Q (x ∷ xs) f all = (f x all.0, all_map P Q xs f all.1)

pub map-set_at : {X Y : Type 0} (f : X → Y) (xs : List X) (i : ℕ) (x : X) → map f (set xs i x) ≡ set (map f xs) i (f x)
map-set_at f [] i x = refl
map-set_at f (y ∷ xs) zero x = refl
map-set_at f (y ∷ xs) (suc i) x = ap (λ l. f y ∷ l) (map-set_at f xs i x)

-- where an element is cut in two, and what is left of it counts as it did, the other stands behind all
pub map-split_at : {X Y : Type 0} (f : X → Y) (xs : List X) (i : ℕ) (x less one : X) → slice_get xs i ≡ Some x → f less ≡ f x → map f (set xs i less ++ one ∷ []) ≡ map f xs ++ f one ∷ []
map-split_at f [] i x less one at same = cc
map-split_at f (y ∷ xs) zero x less one at same =
    let is : f less ≡ f y = cc in
    ap (λ z. z ∷ map f (xs ++ one ∷ [])) is ∙ ap (λ zs. f y ∷ zs) (map-append f xs (one ∷ []))
map-split_at f (y ∷ xs) (suc i) x less one at same = ap (λ zs. f y ∷ zs) (map-split_at f xs i x less one at same)

pub sum_by-set_at : {X : Type 0} (f : X → ℕ) (xs : List X) (i : ℕ) (x y : X) → slice_get xs i ≡ Some x → sum_by f (set xs i y) + f x ≡ sum_by f xs + f y
sum_by-set_at f [] i x y at = cc
sum_by-set_at f (z ∷ xs) zero x y at =
    let same : f z ≡ f x = cc in
    omega (arith, sum_by-cons f z xs, sum_by-cons f y xs)
sum_by-set_at f (z ∷ xs) (suc i) x y at =
    omega (arith, sum_by-set_at f xs i x y at, sum_by-cons f z xs, sum_by-cons f z (set xs i y))

-- the two ways to say which element stands at a place
pub slice_get_at : {X : Type 0} (xs : List X) (i : ℕ) (x : X) → get_elem? xs i ≡ some x → slice_get xs i ≡ Some x
slice_get_at [] i x at = cc
slice_get_at (y ∷ xs) zero x at = let same : y ≡ x = cc in ap Some same
slice_get_at (y ∷ xs) (suc i) x at = slice_get_at xs i x at

pub slice_get-set_other : {X : Type 0} (xs : List X) (i j : ℕ) (x : X) → ¬ (j ≡ i) → slice_get (set xs i x) j ≡ slice_get xs j
slice_get-set_other [] i j x apart = refl
slice_get-set_other (y ∷ xs) zero zero x apart = absurd (apart refl)
slice_get-set_other (y ∷ xs) zero (suc j) x apart = refl
slice_get-set_other (y ∷ xs) (suc i) zero x apart = refl
slice_get-set_other (y ∷ xs) (suc i) (suc j) x apart = slice_get-set_other xs i j x (λ same. apart (ap suc same))

-- the word that a list of one word then has
pub word_set : (words : List ℕ) (word : ℕ) → length words ≡ 1 → slice_index (set words 0 word) 0 ≡ word
word_set [] word one = absurd (omega arith)
word_set (w ∷ words) word one = refl

get_or-last : {X : Type 0} (xs : List X) (x d : X) → get_or (xs ++ x ∷ []) (length xs) d ≡ x
get_or-last [] x d = refl
get_or-last (y ∷ xs) x d = get_or-last xs x d

-- what holds of all holds of the last, and of those before it
pub of_last : {X : Type 0} (P : X → Type 0) (xs : List X) (x : X) → All P (xs ++ x ∷ []) → P x
of_last P xs x all = subst P (get_or-last xs x x) (all (length xs) x (omega (arith, length-append xs (x ∷ []))))

pub of_others : {X : Type 0} (P : X → Type 0) (xs : List X) (x : X) → All P (xs ++ x ∷ []) → All P xs
of_others P xs x all = λ k d within. subst P (get_or_append_left xs (x ∷ []) d k within) (all k d (omega (arith, length-append xs (x ∷ []))))

-- what the last gives stands behind what the others give
pub flat_map-last : {X Y : Type 0} (f : X → List Y) (xs : List X) (x : X) (ys : List Y) → flat_map f (xs ++ x ∷ []) ++ ys ≡ flat_map f xs ++ (f x ++ ys)
flat_map-last f [] x ys = append_assoc (f x) [] ys
flat_map-last f (z ∷ xs) x ys =
    append_assoc (f z) (flat_map f (xs ++ x ∷ [])) ys
    ∙ ap (λ rest. f z ++ rest) (flat_map-last f xs x ys)
    ∙ sym (append_assoc (f z) (flat_map f xs) (f x ++ ys))
