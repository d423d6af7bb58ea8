-- Inside. Tests of regions. Own.
use Rattle.std.specs.Prelude.{◌^◌, ◌≤◌, Bool, true, false}
use Rattle.std.specs.Fn.{Shared, FnReturnsAt}
use denote.Ref.{Bor}
use Rattle.damage_skip.specs.declared.regions.Region.{Region}

-- a region that a policy may be asked of
pub record IsRegion (region : Region) : Type 0 where
  pub ordered : region.begin ≤ region.end
  pub in_reach : region.end ≤ 2 ^ 60

-- a function that may be called on each region, and can't answer both ways on one
pub record IsTest {F : Type 0} (g : Shared F (Bor Region × Unit {0}) Bool) (f : F) : Type 0 where
  pub callable : (p : Bor Region) → IsRegion p.now → g.pre f (p, tt)
  pub one_way : (region : Region) → IsRegion region → FnReturnsAt g f region true → FnReturnsAt g f region false → ⊥

-- a region that a test can allow
abbrev pub IsAllowedRegion : {F : Type 0} → Shared F (Bor Region × Unit {0}) Bool → F → Region → Type 0
IsAllowedRegion test f region = IsRegion region × FnReturnsAt test f region true

-- or refuse
abbrev pub IsRefusedRegion : {F : Type 0} → Shared F (Bor Region × Unit {0}) Bool → F → Region → Type 0
IsRefusedRegion test f region = IsRegion region × FnReturnsAt test f region false
