-- Inside. How the copying of a damaged file ends. Own.
use Rattle.std.specs.Prelude.{◌≡◌, ℕ, ◌+◌, ◌*◌, ◌≤◌, Bool, true, false, ⊤, Option, Some, None, Result, Ok, Err, IfOk, List, ◌∷◌, length}
use Rattle.std.specs.Fn.{Shared}
use denote.Ref.{Bor}
use Rattle.record_io.specs.Puts.{Put, Taken, GoOut}
use Rattle.meta_chunk.specs.Files.{totals_of, signature}
use Rattle.record_writer.specs.MadeFiles.{nothing_made}
use Rattle.chunk_reader.specs.Reasons.{Applies, NoneOf, loading_reasons}
use Rattle.damage_skip.specs.Pieces.{Piece}
use Rattle.damage_skip.specs.Policies.{IsAllowedRegion}
use Rattle.damage_skip.specs.Regions.{regions_in, IsWalkedTo}
use Rattle.damage_skip.specs.Takings.{IsTakenUpTo}
use Rattle.damage_skip.specs.declared.events.WalkEnd.{WalkEnd}
use Rattle.damage_skip.specs.declared.events.WalkEnd.TheVariants as walk
use Rattle.damage_skip.specs.declared.regions.Region.{Region}
use Rattle.repair_copy.specs.RepairPuts.{chunks_in}
use Rattle.repair_copy.specs.Walked.{EndsAt}
use Rattle.repair_copy.specs.Copies.{HasCopied, HasCopiedFront}
use Rattle.repair_copy.specs.Repairs.{Skips, WentOut}
use Rattle.repair_copy.specs.declared.copying.Copied.{Copied}
use Rattle.repair_copy.specs.declared.repairs.Repaired.{Repaired}
use Rattle.repair_copy.specs.declared.repairs.RepairEnd.{RepairEnd}
use Rattle.repair_copy.specs.declared.repairs.RepairEnd.TheVariants as end

-- what is at the place where a walk ended: the file's end, or a region that is refused. Memory is wanting only where a chunk
-- stands that is read
abbrev pub EndsWith : {F : Type 0} → Shared F (Bor Region × Unit {0}) Bool → F → Option WalkEnd → List ℕ → ℕ → Type 0
EndsWith test f None file place = EndsAt test f file place None
EndsWith test f (Some (walk.Stopped region)) file place = EndsAt test f file place (Some region)
EndsWith test f (Some walk.Store) file place = ⊤
EndsWith test f (Some walk.Memory) file place = NoneOf (Applies file place) loading_reasons

-- events up to a place were copied, where the walk ended, or the copying of them was cut off
abbrev pub CopiesUpTo : {F : Type 0} → Shared F (Bor Region × Unit {0}) Bool → F → Result (Option WalkEnd) RepairEnd → Copied → (before after : Taken)
    → List ℕ → ℕ → List Piece → Type 0
CopiesUpTo test f (Ok ended) copied before after file place events = HasCopied before after copied events × EndsWith test f ended file place
CopiesUpTo test f (Err end) copied before after file place events = HasCopiedFront end before after events

-- the events of a file's walk were copied, and the pieces up to there and the one there account for what was taken of the file
pub record CopiesWalk {F : Type 0} (test : Shared F (Bor Region × Unit {0}) Bool) (f : F) (result : Result (Option WalkEnd) RepairEnd)
    (copied : Copied) (before after : Taken) (taken : ℕ) (file : List ℕ) : Type 0 where
  pub place : ℕ
  pub events : List Piece
  pub walked : IsWalkedTo true (IsAllowedRegion test f) file place events
  pub copies : CopiesUpTo test f result copied before after file place events
  pub account : IsTakenUpTo true file 0 place taken

-- the regions that were passed over where a sink cut the copying off
abbrev pub SkipsUpTo : {F : Type 0} → Shared F (Bor Region × Unit {0}) Bool → F → RepairEnd → (before after : Option (List ℕ)) → Type 0
SkipsUpTo test f end.Made before after = Skips test f (Err end.Made) before after
SkipsUpTo test f end.Notes before after = Skips test f (Err end.Notes) before after
SkipsUpTo test f other before after = ⊥

-- what was copied of a file of so many bytes is nothing before the first event and has no more than twice as many behind the
-- signature, no more regions than bytes, and told of none where there are none
pub record IsCopyWithin {N : Type 0} (size : ℕ) (copied : Copied) (notes notes_then : N) : Type 0 where
  pub unbegun : copied.begun ≡ false → copied.file ≡ nothing_made
  pub small : copied.file.place ≤ 64 + 2 * size
  pub few : copied.regions ≤ size
  pub quiet : copied.regions ≡ 0 → notes_then ≡ notes

-- what is answered where a walk ended so: how it did, or else that the made file failed
abbrev pub AnswersWalk : Option WalkEnd → Result Repaired RepairEnd → Type 0
AnswersWalk ended (Ok repaired) = ended ≡ None
AnswersWalk ended (Err (end.Stopped region)) = ended ≡ Some (walk.Stopped region)
AnswersWalk ended (Err end.Store) = ended ≡ Some walk.Store
AnswersWalk ended (Err end.Memory) = ended ≡ Some walk.Memory
AnswersWalk ended (Err other) = other ≡ end.Made

-- what is put of these events went out with that answer, and is counted
pub record HasPutOut (result : Result Repaired RepairEnd) (faults faults_then : ℕ) (before after : Taken) (events : List Piece) : Type 0 where
  pub part : List Put
  pub went : WentOut result faults faults_then events part
  pub took : GoOut before after part
  pub counted : IfOk result (λ repaired.
      (repaired.totals ≡ totals_of (signature ∷ chunks_in events)) × (repaired.regions ≡ length (regions_in events)))
