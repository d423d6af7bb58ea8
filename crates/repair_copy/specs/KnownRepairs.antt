-- Inside. What the repair of a file gives of which the undamaged one is known. Own.
use Rattle.std.specs.Prelude.{◌≡◌, ℕ, ◌^◌, ◌≤◌, Bool, Result, List, length, take}
use Rattle.std.specs.Fn.{Shared}
use denote.Ref.{Bor}
use Rattle.record_io.specs.Puts.{Taken}
use Rattle.chunk_header.specs.Chunks.{ChunkValue}
use Rattle.meta_chunk.specs.Files.{IsWellFormed}
use Rattle.damage_skip.specs.Damage.{Intact, IsDamaged}
use Rattle.damage_skip.specs.declared.regions.Region.{Region}
use Rattle.repair_copy.specs.DamagedRepairs.{RepairsDamage}
use Rattle.repair_copy.specs.FrontRepairs.{RepairsFront}
use Rattle.repair_copy.specs.declared.repairs.Repaired.{Repaired}
use Rattle.repair_copy.specs.declared.repairs.RepairEnd.{RepairEnd}

-- what a repair of a file did, of these counts of faults, where that is a damaged file of these chunks, and where it is a front
-- of theirs
pub record RepairsKnown {F : Type 0} (test : Shared F (Bor Region × Unit {0}) Bool) (f : F) (result : Result Repaired RepairEnd)
    (faults faults_then : ℕ) (before after : Taken) (shown : List ℕ) : Type 0 where
  pub damaged : (ks : List ChunkValue) (file : List ℕ) (intact : Intact) → length file ≤ 2 ^ 60 → IsDamaged ks file shown intact
      → RepairsDamage test f result faults faults_then before after ks intact
  pub cut : (ks : List ChunkValue) (file : List ℕ) (m : ℕ) → IsWellFormed ks file
      → m ≤ length file → shown ≡ take m file
      → RepairsFront test f result faults faults_then before after ks file m
