-- The regions that are passed over, whatever the store shows.
use Rattle.std.proofs.Common.{◌≡◌, ◌∙◌, IfOk, ℕ, ◌+◌, ◌^◌, ◌≤◌, Bool, true, Option, Result, Err, List, [], ◌∷◌, ◌++◌, length, length-append, refl, sym, subst, append-nil, arith}
use Rattle.std.specs.List.{AllByRecursion}
use Rattle.std.specs.Fn.{Shared, FnReturnsAt}
use denote.Ref.{Bor}
use Rattle.record_io.specs.Outside.{Takes, TakesShort}
use Rattle.record_io.proofs.Calls.{Takes-append, TakesShort-append}
use Rattle.damage_skip.specs.Policies.{IsAllowedRegion}
use Rattle.damage_skip.specs.Regions.{regions_in, skipped_text}
use Rattle.damage_skip.specs.Walks.{piece_of, event_text, IsEventIn}
use Rattle.damage_skip.specs.declared.events.Event.{Event}
use Rattle.damage_skip.specs.declared.events.Event.TheVariants as event
use Rattle.damage_skip.specs.declared.progress.Progress.{Progress}
use Rattle.damage_skip.specs.declared.regions.Region.{Region}
use Rattle.repair_copy.specs.Copies.{TakesLine, HasSkipped}
use Rattle.repair_copy.specs.Repairs.{AnswersWithin, IsRepairWithin, Skips}
use Rattle.repair_copy.specs.CopyEnds.{SkipsUpTo}
use Rattle.repair_copy.specs.declared.repairs.Repaired.{Repaired}
use Rattle.repair_copy.specs.declared.repairs.RepairEnd.{RepairEnd}
use Rattle.repair_copy.specs.declared.repairs.RepairEnd.TheVariants as end
use Rattle.damage_skip.proofs.RegionsIn.{each_append, kept_no_region, skipped_text-event}

-- the region that an event is, if it is one
abbrev pub regions_of : Event → List Region
regions_of e = regions_in (piece_of e ∷ [])

module _ {F : Type 0} (test : Shared F (Bor Region × Unit {0}) Bool) (f : F) where
  -- it was allowed
  pub event_allowed : (t : F) (at : Progress) (to : ℕ) (e : Event) → t ≡ f → IsEventIn at to e → to ≤ 2 ^ 60
      → ((region : Region) → e ≡ event.Skipped region → FnReturnsAt test t region true) → AllByRecursion (IsAllowedRegion test f) (regions_of e)
  event_allowed t at to (event.Records begin records chunk) same h reach allowed = tt
  event_allowed t at to (event.Kept begin chunk unread) same h reach allowed =
      subst (AllByRecursion (IsAllowedRegion test f)) (sym (kept_no_region begin chunk unread)) tt
  event_allowed t at to (event.Skipped region) same h reach allowed = (
    (
      record { ordered = omega (arith, h.rises); in_reach = omega (arith, h.to_place, reach) },
      subst (λ (x : F). FnReturnsAt test x region true) same (allowed region refl),
    ),
    tt,
  )

  -- an event was copied
  pub skipped_next : (count now : ℕ) (n m o : Option (List ℕ)) (e : Event) → HasSkipped test f count n m
      → Takes m o (event_text e) → now ≡ count + length (regions_of e) → AllByRecursion (IsAllowedRegion test f) (regions_of e)
      → HasSkipped test f now n o
  skipped_next count now n m o e h line more pass = record {
    regions = h.regions ++ regions_of e;
    allowed = each_append (IsAllowedRegion test f) h.regions (regions_of e) h.allowed pass;
    lines = subst (λ (xs : List ℕ). Takes n o xs) (sym (skipped_text-event h.regions e))
        (Takes-append n m o (skipped_text h.regions) (event_text e) h.lines line);
    counted = omega (arith, more, h.counted, length-append h.regions (regions_of e));
  }

  -- or that was cut off
  pub skips_cut : (end : RepairEnd) (count : ℕ) (n m o : Option (List ℕ)) (e : Event) → HasSkipped test f count n m
      → TakesLine end m o (event_text e) → AllByRecursion (IsAllowedRegion test f) (regions_of e) → SkipsUpTo test f end n o
  skips_cut end.Made count n m o e h line pass = record {
    regions = h.regions;
    allowed = h.allowed;
    answer = tt;
    lines = subst (λ (xs : List ℕ). Takes n o xs) (append-nil (skipped_text h.regions)) (Takes-append n m o (skipped_text h.regions) [] h.lines line);
  }
  skips_cut end.Notes count n m o e h line pass = record {
    regions = h.regions ++ regions_of e;
    allowed = each_append (IsAllowedRegion test f) h.regions (regions_of e) h.allowed pass;
    answer = tt;
    lines = subst (λ (xs : List ℕ). TakesShort n o xs) (sym (skipped_text-event h.regions e))
        (TakesShort-append n m o (skipped_text h.regions) (event_text e) h.lines line);
  }
  skips_cut end.Store count n m o e h line pass = absurd line
  skips_cut end.Memory count n m o e h line pass = absurd line
  skips_cut (end.Stopped region) count n m o e h line pass = absurd line

  -- a call that it ends says so
  pub skips_failed : (result : Result Repaired RepairEnd) (why : RepairEnd) (n m : Option (List ℕ)) → result ≡ Err why
      → SkipsUpTo test f why n m → Skips test f result n m
  skips_failed result end.Made n m is h = subst (λ (x : Result Repaired RepairEnd). Skips test f x n m) (sym is) h
  skips_failed result end.Notes n m is h = subst (λ (x : Result Repaired RepairEnd). Skips test f x n m) (sym is) h
  skips_failed result end.Store n m is h = absurd h
  skips_failed result end.Memory n m is h = absurd h
  skips_failed result (end.Stopped region) n m is h = absurd h

  -- and neither stopped nor failed to read
  pub within_failed : (size : ℕ) (result : Result Repaired RepairEnd) (why : RepairEnd) (n m : Option (List ℕ)) → result ≡ Err why
      → SkipsUpTo test f why n m → AnswersWithin size result
  within_failed size result why n m is h = record {
    done = subst (λ (x : Result Repaired RepairEnd). IfOk x (IsRepairWithin size)) (sym is) tt;
    stopped = λ region stopped.
        let same : why ≡ end.Stopped region = cc (sym is ∙ stopped) in
        absurd (subst (λ (e : RepairEnd). SkipsUpTo test f e n m) same h);
  }

  pub read_on : (result : Result Repaired RepairEnd) (why : RepairEnd) (n m : Option (List ℕ)) → result ≡ Err why → SkipsUpTo test f why n m
      → ¬ (result ≡ Err end.Store)
  read_on result why n m is h store =
      let same : why ≡ end.Store = cc (sym is ∙ store) in
      subst (λ (e : RepairEnd). SkipsUpTo test f e n m) same h
