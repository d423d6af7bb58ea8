-- Inside. What the repair of a damaged file makes and tells, told by the numbers of its chunks. Own.
use Rattle.std.specs.Prelude.{◌≡◌, ℕ, Bool, true, false, ⊤, Result, Ok, Err, List, ◌∷◌, length}
use Rattle.std.specs.List.{AllByRecursion}
use Rattle.std.specs.Fn.{Shared, FnReturnsAt}
use denote.Ref.{Bor}
use Rattle.record_io.specs.Outside.{Takes}
use Rattle.record_io.specs.Puts.{Put, Taken, GoOut}
use Rattle.chunk_header.specs.Chunks.{ChunkValue}
use Rattle.meta_chunk.specs.Files.{totals_of, signature, IsWellFormed, laid_each}
use Rattle.damage_skip.specs.Damage.{Intact, AreReached, AreLostUpToABlock, DamageLeavesEach, untouched}
use Rattle.damage_skip.specs.DamagedWalks.{IsLeftRegion}
use Rattle.damage_skip.specs.Pieces.{Piece, events_in}
use Rattle.damage_skip.specs.Policies.{IsAllowedRegion}
use Rattle.damage_skip.specs.Regions.{regions_in}
use Rattle.damage_skip.specs.declared.regions.Region.{Region}
use Rattle.repair_copy.specs.CopiedChunks.{copied}
use Rattle.repair_copy.specs.Repairs.{WentOut}
use Rattle.repair_copy.specs.declared.repairs.Repaired.{Repaired}
use Rattle.repair_copy.specs.declared.repairs.RepairEnd.{RepairEnd}
use Rattle.repair_copy.specs.declared.repairs.RepairEnd.TheVariants as end

-- the chunks behind the signature of what is made where these are reached: the untouched ones that are copied
abbrev pub kept_of : List ChunkValue → Intact → List ℕ → List ChunkValue
kept_of ks intact numbers = copied true (untouched ks intact numbers)

-- what is answered where the chunks before this number were passed, of which these are reached and damage leaves these pieces: at
-- the file's end the totals of what is made and how many regions there are, and at a region that the test can refuse what damage
-- leaves there
abbrev pub AnswersDamaged : {F : Type 0} → Shared F (Bor Region × Unit {0}) Bool → F → List ChunkValue → Intact → (to : ℕ) → List ℕ → List Piece → Result Repaired RepairEnd → Type 0
AnswersDamaged test f ks intact to numbers pieces (Ok repaired) =
    (to ≡ length ks) × (repaired.totals ≡ totals_of (signature ∷ kept_of ks intact numbers)) × (repaired.regions ≡ length (regions_in (events_in pieces)))
AnswersDamaged test f ks intact to numbers pieces (Err (end.Stopped region)) =
    IsLeftRegion true ks intact to region × FnReturnsAt test f region false
AnswersDamaged test f ks intact to numbers pieces (Err other) = ⊤

-- the file that is made, where no object failed and memory was found: the signature and these chunks, with zero padding
abbrev pub MakesOf : Result Repaired RepairEnd → Taken → Taken → List ChunkValue → Type 0
MakesOf (Ok repaired) before after ks = Takes before.made after.made (laid_each 0 (signature ∷ ks))
MakesOf (Err (end.Stopped region)) before after ks = Takes before.made after.made (laid_each 0 (signature ∷ ks))
MakesOf (Err other) before after ks = ⊤

-- of a damaged file the chunks before this number were passed, to its end or to a region that is
-- refused: the untouched ones of those reached are copied, which make a well-formed file, the
-- regions among what damage leaves of these are told, and the others are lost up to a block
pub record RepairsDamage {F : Type 0} (test : Shared F (Bor Region × Unit {0}) Bool) (f : F) (result : Result Repaired RepairEnd)
    (faults faults_then : ℕ) (before after : Taken) (ks : List ChunkValue) (intact : Intact) : Type 0 where
  pub to : ℕ
  pub numbers : List ℕ
  pub reached : AreReached ks intact 0 to numbers
  pub lost : AreLostUpToABlock ks intact to numbers
  pub pieces : List Piece
  pub left : DamageLeavesEach true ks intact 0 to pieces
  pub allowed : AllByRecursion (IsAllowedRegion test f) (regions_in (events_in pieces))
  pub answer : AnswersDamaged test f ks intact to numbers pieces result
  pub part : List Put
  pub went : WentOut result faults faults_then (events_in pieces) part
  pub took : GoOut before after part
  pub made : MakesOf result before after (kept_of ks intact numbers)
  pub well_formed : IsWellFormed (signature ∷ kept_of ks intact numbers) (laid_each 0 (signature ∷ kept_of ks intact numbers))
