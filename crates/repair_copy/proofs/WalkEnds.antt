-- How a repair ends where its walk did, whether the file's bytes are shown or not.
use Rattle.std.proofs.Common.{◌≡◌, ◌∙◌, ℕ, ◌≤◌, Bool, true, inl, inr, Option, Some, None, Result, Ok, Err, IfOk, IfSome, List, [], ◌∷◌, length, refl, sym, subst}
use Rattle.std.specs.Result.{IsErr, IsErrAnd}
use Rattle.std.specs.Fn.{Shared}
use denote.Ref.{Bor}
use Rattle.record_io.specs.Puts.{Put, Taken}
use Rattle.record_io.proofs.ManyStores.{Rose-after}
use Rattle.meta_chunk.specs.Files.{totals_of, signature}
use Rattle.record_writer.specs.MadeFiles.{totals_made}
use Rattle.damage_skip.specs.Pieces.{Piece}
use Rattle.damage_skip.specs.Policies.{IsAllowedRegion, IsRefusedRegion}
use Rattle.damage_skip.specs.Regions.{regions_in, IsWalkedTo}
use Rattle.damage_skip.specs.Takings.{IsTakenByWalk, IsTakenUpTo}
use Rattle.damage_skip.specs.declared.events.WalkEnd.{WalkEnd}
use Rattle.damage_skip.specs.declared.events.WalkEnd.TheVariants as walk
use Rattle.damage_skip.specs.declared.regions.Region.{Region}
use Rattle.repair_copy.specs.RepairPuts.{chunks_in, repair_puts}
use Rattle.repair_copy.specs.Copies.{WentOutAtFault, HasCopied, HasPutAll, HasCopiedFront, HasPutAtFault, HasSkipped}
use Rattle.repair_copy.specs.CopyEnds.{EndsWith, CopiesWalk, AnswersWalk, HasPutOut}
use Rattle.repair_copy.specs.Repairs.{AnswersRepair, WentOut, Repairs, Skips}
use Rattle.repair_copy.specs.declared.copying.Copied.{Copied}
use Rattle.repair_copy.specs.declared.repairs.Repaired.{Repaired}
use Rattle.repair_copy.specs.declared.repairs.RepairEnd.{RepairEnd}
use Rattle.repair_copy.specs.declared.repairs.RepairEnd.TheVariants as end

-- all that is put of events went out
pub put_whole : (repaired : Repaired) (f g : ℕ) (x b : Taken) (t : Copied) (events : List Piece) → repaired.totals ≡ totals_made t.file
    → repaired.regions ≡ t.regions → HasPutAll x b t events → HasPutOut (Ok repaired) f g x b events
put_whole repaired f g x b t events totals regions h =
    record { part = repair_puts events; went = refl; took = h.puts; counted = (totals ∙ h.totals, regions ∙ h.regions) }

pub put_stopped : (region : Region) (f g : ℕ) (x b : Taken) (t : Copied) (events : List Piece) → HasPutAll x b t events
    → HasPutOut (Err (end.Stopped region)) f g x b events
put_stopped region f g x b t events h = record { part = repair_puts events; went = refl; took = h.puts; counted = tt }

-- or a front did
put_front : (f g : ℕ) (x b : Taken) (events : List Piece) → HasCopiedFront end.Made x b events → HasPutOut (Err end.Made) f g x b events
put_front f g x b events h = record { part = h.part; went = h.broken; took = h.went; counted = tt }

pub put_failed : (result : Result Repaired RepairEnd) (f g : ℕ) (x b : Taken) (events : List Piece) → IsErr result
    → IsErrAnd result (λ e. e ≡ end.Made) → HasCopiedFront end.Made x b events → HasPutOut result f g x b events
put_failed (Ok repaired) f g x b events failed is h = absurd (cc failed)
put_failed (Err e) f g x b events failed is h = subst (λ (e : RepairEnd). HasPutOut (Err e) f g x b events) (sym is) (put_front f g x b events h)

-- or what went out at a fault
pub put_store : (f g : ℕ) (x b : Taken) (events : List Piece) → HasPutAtFault f g x b events → HasPutOut (Err end.Store) f g x b events
put_store f g x b events h = record { part = h.part; went = h.went; took = h.took; counted = tt }

pub put_memory : (f g : ℕ) (x b : Taken) (events : List Piece) → HasPutAtFault f g x b events → HasPutOut (Err end.Memory) f g x b events
put_memory f g x b events h = record { part = h.part; went = h.went; took = h.took; counted = tt }

-- and what went out of them where a count of faults rose since it was no greater
at_fault_since : (faults between faults_then : ℕ) (events : List Piece) (part : List Put) → faults ≤ between
    → WentOutAtFault between faults_then events part → WentOutAtFault faults faults_then events part
at_fault_since faults between faults_then [] part rises none = none
at_fault_since faults between faults_then (e ∷ events) part rises (inl all) = inl all
at_fault_since faults between faults_then (e ∷ events) part rises (inr (rose, rest, is)) =
    inr (Rose-after faults between faults_then rises rose, rest, is)

went_since : (result : Result Repaired RepairEnd) (faults between faults_then : ℕ) (events : List Piece) (part : List Put) → faults ≤ between
    → WentOut result between faults_then events part → WentOut result faults faults_then events part
went_since (Ok repaired) faults between faults_then events part rises h = h
went_since (Err (end.Stopped region)) faults between faults_then events part rises h = h
went_since (Err end.Store) faults between faults_then events part rises h = at_fault_since faults between faults_then events part rises h
went_since (Err end.Made) faults between faults_then events part rises h = h
went_since (Err end.Notes) faults between faults_then events part rises h = h
went_since (Err end.Memory) faults between faults_then events part rises h = at_fault_since faults between faults_then events part rises h

-- where no region was passed over nothing is told
pub quiet_ended : {N : Type 0} (result : Result Repaired RepairEnd) (count : ℕ) (a b : N) → IfOk result (λ repaired. repaired.regions ≡ count)
    → (count ≡ 0 → b ≡ a) → IfOk result (λ repaired. repaired.regions ≡ 0 → b ≡ a)
quiet_ended (Err why) count a b same quiet = tt
quiet_ended (Ok repaired) count a b same quiet = λ none. quiet (sym same ∙ none)

module _ {F : Type 0} (test : Shared F (Bor Region × Unit {0}) Bool) (f : F) where
  -- what is answered where the walk ended
  answers_repair : (result : Result Repaired RepairEnd) (ended : Option WalkEnd) (file : List ℕ) (place : ℕ) (events : List Piece)
      → AnswersWalk ended result → EndsWith test f ended file place
      → IfOk result (λ repaired. (repaired.totals ≡ totals_of (signature ∷ chunks_in events)) × (repaired.regions ≡ length (regions_in events)))
      → AnswersRepair test f result file place events
  answers_repair (Ok repaired) ended file place events is end counted =
      (subst (λ (e : Option WalkEnd). EndsWith test f e file place) is end, counted.0, counted.1)
  answers_repair (Err (end.Stopped region)) ended file place events is end counted =
      subst (λ (e : Option WalkEnd). EndsWith test f e file place) is end
  answers_repair (Err end.Store) ended file place events is end counted = tt
  answers_repair (Err end.Made) ended file place events is end counted = tt
  answers_repair (Err end.Notes) ended file place events is end counted = tt
  answers_repair (Err end.Memory) ended file place events is end counted =
      subst (λ (e : Option WalkEnd). EndsWith test f e file place) is end

  -- so the file is repaired
  pub repairs_ended : (bytes : Option (List ℕ)) (result : Result Repaired RepairEnd) (ended : Option WalkEnd) (s : Copied)
      (faults between faults_then taken : ℕ) (before a b : Taken) → AnswersWalk ended result → faults ≤ between
      → ((x : Taken) (events : List Piece) → HasCopied x a s events → HasPutOut result between faults_then x b events)
      → IfSome bytes (CopiesWalk test f (Ok ended) s before a taken)
      → IfSome bytes (Repairs test f result faults faults_then before b taken)
  repairs_ended None result ended s faults between faults_then taken before a b is rises put h = tt
  repairs_ended (Some file) result ended s faults between faults_then taken before a b is rises put h =
      let out = put before h.events h.copies.0 in
      record {
        place = h.place;
        events = h.events;
        walked = h.walked;
        answer = answers_repair result ended file h.place h.events is h.copies.1 out.counted;
        part = out.part;
        went = went_since result faults between faults_then h.events out.part rises out.went;
        took = out.took;
        account = h.account;
      }

  -- or a sink failed
  repairs_broken_off : (end : RepairEnd) (faults faults_then taken : ℕ) (before after : Taken) (file : List ℕ) (place : ℕ) (events : List Piece)
      → IsWalkedTo true (IsAllowedRegion test f) file place events → IsTakenUpTo true file 0 place taken → HasCopiedFront end before after events
      → Repairs test f (Err end) faults faults_then before after taken file
  repairs_broken_off end.Made faults faults_then taken before after file place events walked account h =
      record { place = place; events = events; walked = walked; answer = tt; part = h.part; went = h.broken; took = h.went; account = account }
  repairs_broken_off end.Notes faults faults_then taken before after file place events walked account h =
      record { place = place; events = events; walked = walked; answer = tt; part = h.part; went = h.broken; took = h.went; account = account }
  repairs_broken_off end.Store faults faults_then taken before after file place events walked account h = absurd h.broken
  repairs_broken_off end.Memory faults faults_then taken before after file place events walked account h = absurd h.broken
  repairs_broken_off (end.Stopped region) faults faults_then taken before after file place events walked account h = absurd h.broken

  pub repairs_cut : (bytes : Option (List ℕ)) (result : Result Repaired RepairEnd) (end : RepairEnd) (s : Copied) (faults faults_then taken : ℕ)
      (before after : Taken) → result ≡ Err end → IfSome bytes (CopiesWalk test f (Err end) s before after taken)
      → IfSome bytes (Repairs test f result faults faults_then before after taken)
  repairs_cut None result end s faults faults_then taken before after is h = tt
  repairs_cut (Some file) result end s faults faults_then taken before after is h =
      subst (λ (x : Result Repaired RepairEnd). Repairs test f x faults faults_then before after taken file) (sym is)
      (repairs_broken_off end faults faults_then taken before after file h.place h.events h.walked h.account h.copies)

  -- what was taken of it is accounted for
  pub repairs_takes : (bytes : Option (List ℕ)) (result : Result Repaired RepairEnd) (faults faults_then taken : ℕ) (before after : Taken)
      → IfSome bytes (Repairs test f result faults faults_then before after taken)
      → IfSome bytes (λ file. IsTakenByWalk true (IsAllowedRegion test f) file taken)
  repairs_takes None result faults faults_then taken before after h = tt
  repairs_takes (Some file) result faults faults_then taken before after h =
      record { place = h.place; events = h.events; walked = h.walked; account = h.account }

  -- and the regions that were passed over
  pub skips_ended : (result : Result Repaired RepairEnd) (ended : Option WalkEnd) (count : ℕ) (n m : Option (List ℕ)) → AnswersWalk ended result
      → IfOk result (λ repaired. repaired.regions ≡ count) → ((region : Region) → ended ≡ Some (walk.Stopped region) → IsRefusedRegion test f region)
      → HasSkipped test f count n m → Skips test f result n m
  skips_ended (Ok repaired) ended count n m is same refused h =
      record { regions = h.regions; allowed = h.allowed; answer = same ∙ h.counted; lines = h.lines }
  skips_ended (Err (end.Stopped region)) ended count n m is same refused h =
      record { regions = h.regions; allowed = h.allowed; answer = refused region is; lines = h.lines }
  skips_ended (Err end.Store) ended count n m is same refused h = record { regions = h.regions; allowed = h.allowed; answer = tt; lines = h.lines }
  skips_ended (Err end.Made) ended count n m is same refused h = record { regions = h.regions; allowed = h.allowed; answer = tt; lines = h.lines }
  skips_ended (Err end.Notes) ended count n m is same refused h = absurd (cc is)
  skips_ended (Err end.Memory) ended count n m is same refused h = record { regions = h.regions; allowed = h.allowed; answer = tt; lines = h.lines }
