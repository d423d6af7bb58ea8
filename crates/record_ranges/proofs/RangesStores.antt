-- What the stores of one file show.
use Rattle.std.proofs.Common.{◌≡◌, ◌∙◌, ℕ, Option, Some, List, [], ◌∷◌, length, map, refl, sym, ap, arith}
use Rattle.std.specs.List.{AllByRecursion}
use Rattle.record_ranges.specs.RangesCommand.{AreAlike}

-- they show one file, where what they show is this file
pub of_one : {S : Type 0} (bytes : S → Option (List ℕ)) (files : List S) (all : List (List ℕ)) (file : List ℕ) → map bytes files ≡ map Some all
    → AllByRecursion (λ other. other ≡ file) all → AllByRecursion (λ s. bytes s ≡ Some file) files
of_one bytes [] all file told one = tt
of_one bytes (f ∷ files) [] file told one = absurd (cc told)
of_one bytes (f ∷ files) (b ∷ all) file told one =
    let its : bytes f ≡ Some b = cc told in
    let others : map bytes files ≡ map Some all = cc told in
    (its ∙ ap Some one.0, of_one bytes files all file others one.1)

-- stores that told sizes that are alike told this one
pub all_told : {S : Type 0} (told : S → Option ℕ) (files : List S) (sizes : List ℕ) (size : ℕ) → map told files ≡ map Some sizes
    → AllByRecursion (λ other. other ≡ size) sizes → AllByRecursion (λ s. told s ≡ Some size) files
all_told told [] sizes size tells alike = tt
all_told told (f ∷ files) [] size tells alike = absurd (cc tells)
all_told told (f ∷ files) (n ∷ sizes) size tells alike =
    let its : told f ≡ Some n = cc tells in
    let others : map told files ≡ map Some sizes = cc tells in
    (its ∙ ap Some alike.0, all_told told files sizes size others alike.1)

-- and show it once for each of them
pub told_alike : {S : Type 0} (bytes : S → Option (List ℕ)) (files : List S) (file : List ℕ) → AllByRecursion (λ s. bytes s ≡ Some file) files
    → map bytes files ≡ map Some (map (λ (s : S). file) files)
told_alike bytes [] file one = refl
told_alike {S} bytes (f ∷ files) file one =
    ap (λ (b : Option (List ℕ)). b ∷ map bytes files) one.0
    ∙ ap (λ (bs : List (Option (List ℕ))). Some file ∷ bs) (told_alike bytes files file one.1)

-- so the size that they told is that of the file
pub size_of_one : {S : Type 0} (files : List S) (sizes : List ℕ) (size : ℕ) (file : List ℕ) → AreAlike size sizes
    → sizes ≡ map length (map (λ (s : S). file) files) → size ≡ length file
size_of_one files [] size file h is = absurd (omega (arith, h.some))
size_of_one [] (n ∷ sizes) size file h is = absurd (cc is)
size_of_one (f ∷ files) (n ∷ sizes) size file h is =
    let its : n ≡ length file = cc is in sym h.same.0 ∙ its
