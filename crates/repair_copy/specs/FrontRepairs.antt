-- Inside. What the repair of the front of a file of chunks makes and tells. Own.
use Rattle.std.specs.Prelude.{◌≡◌, ℕ, Bool, true, false, ⊤, Result, Ok, Err, List, [], ◌∷◌, ◌++◌, length, take}
use Rattle.std.specs.List.{AllByRecursion}
use Rattle.std.specs.Fn.{Shared, FnReturnsAt}
use denote.Ref.{Bor}
use Rattle.record_io.specs.Puts.{Put, Taken, GoOut}
use Rattle.chunk_header.specs.Chunks.{ChunkValue}
use Rattle.meta_chunk.specs.Files.{totals_of, signature}
use Rattle.damage_skip.specs.FrontPieces.{AreFrontPieces}
use Rattle.damage_skip.specs.Pieces.{Piece, Skipped, events_in}
use Rattle.damage_skip.specs.Policies.{IsAllowedRegion}
use Rattle.damage_skip.specs.Regions.{regions_in}
use Rattle.damage_skip.specs.declared.regions.Region.{Region}
use Rattle.repair_copy.specs.CopiedChunks.{copied}
use Rattle.repair_copy.specs.Repairs.{WentOut}
use Rattle.repair_copy.specs.DamagedRepairs.{MakesOf}
use Rattle.repair_copy.specs.declared.repairs.Repaired.{Repaired}
use Rattle.repair_copy.specs.declared.repairs.RepairEnd.{RepairEnd}
use Rattle.repair_copy.specs.declared.repairs.RepairEnd.TheVariants as end

-- what is answered where these chunks are copied, this is left of a chunk that is cut, and these events were not passed: at the
-- front's end the totals of what is made and one region for a chunk that is cut, and else this region, which the test can refuse
abbrev pub AnswersFront : {F : Type 0} → Shared F (Bor Region × Unit {0}) Bool → F → List ChunkValue → (cut left : List Piece) → Result Repaired RepairEnd → Type 0
AnswersFront test f ks cut left (Ok repaired) =
    (left ≡ []) × (repaired.totals ≡ totals_of (signature ∷ ks)) × (repaired.regions ≡ length cut)
AnswersFront test f ks cut left (Err (end.Stopped region)) =
    (left ≡ cut) × (cut ≡ record { begin = region.begin; end = region.end; what = Skipped region.why } ∷ []) × FnReturnsAt test f region false
AnswersFront test f ks cut left (Err other) = ⊤

-- of the front of a file of chunks up to a place these events were passed: the chunks that it has whole are copied, but signatures
-- and padding, and one region is told for a chunk that is cut, or is refused
pub record RepairsFront {F : Type 0} (test : Shared F (Bor Region × Unit {0}) Bool) (f : F) (result : Result Repaired RepairEnd)
    (faults faults_then : ℕ) (before after : Taken) (ks : List ChunkValue) (file : List ℕ) (m : ℕ) : Type 0 where
  pub pieces : List Piece
  pub apart : AreFrontPieces true ks file m pieces
  pub events : List Piece
  pub left : List Piece
  pub are : events_in pieces ≡ events ++ left
  pub allowed : AllByRecursion (IsAllowedRegion test f) (regions_in events)
  pub answer : AnswersFront test f (copied true (take apart.count ks)) apart.cut left result
  pub part : List Put
  pub went : WentOut result faults faults_then events part
  pub took : GoOut before after part
  pub made : MakesOf result before after (copied true (take apart.count ks))
