-- Inside. What a damaged file is repaired to under a test of regions, and how that ends. Own.
use Rattle.std.specs.Prelude.{◌≡◌, ℕ, ◌+◌, ◌*◌, ◌≤◌, Bool, true, ⊤, Option, Some, None, Result, Ok, Err, IfOk, List, ◌∷◌, length}
use Rattle.std.specs.List.{AllByRecursion}
use Rattle.std.specs.Fn.{Shared}
use denote.Ref.{Bor}
use Rattle.record_io.specs.Outside.{Takes, TakesShort}
use Rattle.record_io.specs.Puts.{Put, Taken, Made, Notes, GoOut, BreaksOff}
use Rattle.meta_chunk.specs.Files.{totals_of, signature}
use Rattle.chunk_reader.specs.Reasons.{Applies, NoneOf, loading_reasons}
use Rattle.damage_skip.specs.Pieces.{Piece}
use Rattle.damage_skip.specs.Policies.{IsAllowedRegion, IsRefusedRegion}
use Rattle.damage_skip.specs.Regions.{regions_in, skipped_text, IsWalkedTo}
use Rattle.damage_skip.specs.Steps.{IsOnward}
use Rattle.damage_skip.specs.Takings.{IsTakenUpTo}
use Rattle.damage_skip.specs.declared.regions.Region.{Region}
use Rattle.repair_copy.specs.RepairPuts.{chunks_in, repair_puts}
use Rattle.repair_copy.specs.Copies.{WentOutAtFault}
use Rattle.repair_copy.specs.Walked.{EndsAt}
use Rattle.repair_copy.specs.declared.repairs.Repaired.{Repaired}
use Rattle.repair_copy.specs.declared.repairs.RepairEnd.{RepairEnd}
use Rattle.repair_copy.specs.declared.repairs.RepairEnd.TheVariants as end

-- what is answered where events up to a place were copied. Memory is wanting only where a chunk stands that is read
abbrev pub AnswersRepair : {F : Type 0} → Shared F (Bor Region × Unit {0}) Bool → F → Result Repaired RepairEnd → List ℕ → ℕ → List Piece → Type 0
AnswersRepair test f (Ok repaired) file place events =
    EndsAt test f file place None × (repaired.totals ≡ totals_of (signature ∷ chunks_in events)) × (repaired.regions ≡ length (regions_in events))
AnswersRepair test f (Err (end.Stopped region)) file place events = EndsAt test f file place (Some region)
AnswersRepair test f (Err end.Memory) file place events = NoneOf (Applies file place) loading_reasons
AnswersRepair test f (Err other) file place events = ⊤

-- of what is put of these events a part went out with that answer: all, or a front and not all where the made file or notes
-- failed. Where the store failed or memory was wanting all went out too, but nothing where no event was met, and a front where
-- the made file failed as well
abbrev pub WentOut : Result Repaired RepairEnd → (faults faults_then : ℕ) → List Piece → List Put → Type 0
WentOut (Ok repaired) faults faults_then events part = part ≡ repair_puts events
WentOut (Err (end.Stopped region)) faults faults_then events part = part ≡ repair_puts events
WentOut (Err end.Made) faults faults_then events part = BreaksOff Made part (repair_puts events)
WentOut (Err end.Notes) faults faults_then events part = BreaksOff Notes part (repair_puts events)
WentOut (Err other) faults faults_then events part = WentOutAtFault faults faults_then events part

-- what notes took of lines: all, or a front and not all where notes failed
abbrev pub TakesNotes : Result Repaired RepairEnd → Option (List ℕ) → Option (List ℕ) → List ℕ → Type 0
TakesNotes (Err end.Notes) before after text = TakesShort before after text
TakesNotes other before after text = Takes before after text

-- of a file these events were copied: what was answered, and what made, of these counts of faults, and notes took. The pieces up to
-- there and the one there account for what was taken of the file
pub record Repairs {F : Type 0} (test : Shared F (Bor Region × Unit {0}) Bool) (f : F) (result : Result Repaired RepairEnd)
    (faults faults_then : ℕ) (before after : Taken) (taken : ℕ) (file : List ℕ) : Type 0 where
  pub place : ℕ
  pub events : List Piece
  pub walked : IsWalkedTo true (IsAllowedRegion test f) file place events
  pub answer : AnswersRepair test f result file place events
  pub part : List Put
  pub went : WentOut result faults faults_then events part
  pub took : GoOut before after part
  pub account : IsTakenUpTo true file 0 place taken

-- what is answered where these regions were passed over
abbrev pub AnswersSkipped : {F : Type 0} → Shared F (Bor Region × Unit {0}) Bool → F → Result Repaired RepairEnd → List Region → Type 0
AnswersSkipped test f (Ok repaired) regions = repaired.regions ≡ length regions
AnswersSkipped test f (Err (end.Stopped region)) regions = IsRefusedRegion test f region
AnswersSkipped test f (Err other) regions = ⊤

-- these regions were passed over, also where the store doesn't show its bytes: what was answered, and what notes took
pub record Skips {F : Type 0} (test : Shared F (Bor Region × Unit {0}) Bool) (f : F) (result : Result Repaired RepairEnd) (before after : Option (List ℕ)) : Type 0 where
  pub regions : List Region
  pub allowed : AllByRecursion (IsAllowedRegion test f) regions
  pub answer : AnswersSkipped test f result regions
  pub lines : TakesNotes result before after (skipped_text regions)

-- what is told of the repair of a file of so many bytes: the made one has at most twice as many behind its signature, no count
-- passes its bytes, and the regions are no more than the bytes of the file
pub record IsRepairWithin (size : ℕ) (repaired : Repaired) : Type 0 where
  pub bytes : repaired.totals.bytes ≤ 64 + 2 * size
  pub chunks : repaired.totals.chunks ≤ repaired.totals.bytes
  pub records : repaired.totals.records ≤ repaired.totals.bytes
  pub unread : repaired.totals.unread ≤ repaired.totals.chunks
  pub regions : repaired.regions ≤ size

-- so is that with this answer, and a region that stopped it is one of the file
pub record AnswersWithin (size : ℕ) (result : Result Repaired RepairEnd) : Type 0 where
  pub done : IfOk result (IsRepairWithin size)
  pub stopped : (region : Region) → result ≡ Err (end.Stopped region) → IsOnward size region.begin region.end
