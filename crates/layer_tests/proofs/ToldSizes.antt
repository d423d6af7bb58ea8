-- Stores that told one size.
use Rattle.std.proofs.Common.{◌≡◌, ◌∙◌, ap, sym, ℕ, Option, Some, List, [], ◌∷◌, All, length, map, replicate, refl}
use Rattle.std.proofs.lemmas.List.Elements.{recursion_from_All}
use Rattle.std.specs.List.{AllByRecursion}
use Rattle.record_io.specs.ManyStores.{AreTold}

each_told : {S : Type 0} (tell : S → Option ℕ) (size : ℕ) (stores : List S) → AllByRecursion (λ s. tell s ≡ Some size) stores
    → AreTold tell stores (replicate (length stores) size)
each_told tell size [] each = refl
each_told tell size (a ∷ stores) each = λ i. each.0 i ∷ each_told tell size stores each.1 i

-- as many times as there are stores
pub all_told : {S : Type 0} (tell : S → Option ℕ) (size : ℕ) (stores : List S) (sizes : List ℕ)
    → All (λ s. tell s ≡ Some size) stores → sizes ≡ replicate (length stores) size → AreTold tell stores sizes
all_told tell size stores sizes told same =
    each_told tell size stores (recursion_from_All (λ s. tell s ≡ Some size) stores told) ∙ ap (λ (ns : List ℕ). map Some ns) (sym same)
