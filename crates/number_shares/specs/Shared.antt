-- Inside. Views that share out the numbers below a word, each once. Own.
use Rattle.std.specs.Prelude.{◌≡◌, ℕ, ◌⊎◌, List, sum_by}
use Rattle.std.specs.List.{AllByRecursion, flat_map}
use Rattle.number_shares.specs.Once.{HasEachBelow}

-- what a kind of view is: which view is spent, what holds of one that isn't, for how many it stands, and its numbers
pub record ViewKind (V : Type 0) : Type 1 where
  pub spent : V
  pub Works : V → Type 0
  pub weight : V → ℕ
  pub numbers : V → List ℕ

-- a view, spent or not
abbrev pub IsEither : {V : Type 0} → ViewKind V → V → Type 0
IsEither kind v = (v ≡ kind.spent) ⊎ kind.Works v

-- the views together have each number below the word once, and no other, and together they stand for all
pub record IsShared {V : Type 0} (kind : ViewKind V) (word all : ℕ) (views : List V) : Type 0 where
  pub each_once : HasEachBelow word (flat_map kind.numbers views)
  pub either : AllByRecursion (IsEither kind) views
  pub weights : sum_by kind.weight views ≡ all
