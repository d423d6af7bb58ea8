-- Inside. Where the walk of a file ends under a test of regions. Own.
use Rattle.std.specs.Prelude.{◌≡◌, ℕ, ◌<◌, Bool, true, false, Option, Some, None, List, length}
use Rattle.std.specs.Fn.{Shared, FnReturnsAt}
use denote.Ref.{Bor}
use Rattle.damage_skip.specs.Pieces.{Skipped, IsPieceOf}
use Rattle.damage_skip.specs.declared.regions.Region.{Region}

-- the piece at a place is a region that a test can refuse
pub record IsRefusedRegionAt {F : Type 0} (test : Shared F (Bor Region × Unit {0}) Bool) (f : F) (file : List ℕ) (place : ℕ) (region : Region) : Type 0 where
  pub begin : region.begin ≡ place
  pub below : place < length file
  pub piece : IsPieceOf true file place region.end (Skipped region.why)
  pub refused : FnReturnsAt test f region false

-- where the events end: at the file's end, or at a region that is refused
abbrev pub EndsAt : {F : Type 0} → Shared F (Bor Region × Unit {0}) Bool → F → List ℕ → ℕ → Option Region → Type 0
EndsAt test f file place None = place ≡ length file
EndsAt test f file place (Some region) = IsRefusedRegionAt test f file place region
