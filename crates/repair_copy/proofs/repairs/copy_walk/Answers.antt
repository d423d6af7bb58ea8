use Rattle.std.proofs.Common.{◌≡◌, ◌∙◌, ℕ, ◌+◌, ◌-◌, ◌*◌, ◌≤◌, false, true, None, Some, Option, Ok, Err, IfSome, List, [], refl, sym, ap, subst, arith, rules}
use Rattle.std.specs.List.{AllByRecursion}
use Rattle.std.proofs.lemmas.Result.{err_from_is_err_and}
use Rattle.record_io.specs.Puts.{taken_by}
use Rattle.record_io.specs.Calls.{OnlyAsks, OnlyCounts}
use Rattle.record_writer.specs.MadeFiles.{nothing_made}
use Rattle.chunk_reader.proofs.Rooms.{IsSized}
use Rattle.damage_skip.specs.Policies.{IsAllowedRegion}
use Rattle.damage_skip.specs.Steps.{IsOnward}
use Rattle.damage_skip.specs.Takings.{IsTakenFrom}
use Rattle.damage_skip.proofs.Takings.{called-on, called-to}
use Rattle.damage_skip.specs.Walks.{piece_of, IsEventIn, IsAllowedEvent, IsRefusedStop, IsStop, IsStoppedAt, GoesOn, StandsIn, WalksOn, stop_of}
use Rattle.damage_skip.specs.declared.events.WalkEnd.TheVariants as walk
use Rattle.damage_skip.specs.declared.regions.Region.{Region}
use Rattle.damage_skip.proofs.RegionsIn.{one_region}
use Rattle.damage_skip.proofs.WalkFronts.{front-judging, front-stands}
use Rattle.repair_copy.specs.Walked.{EndsAt}
use Rattle.repair_copy.specs.Copies.{next_chunk_place, HasSkipped, HasWalked}
use Rattle.repair_copy.proofs.CopySteps.{fits, grows, next_place_small}
use Rattle.repair_copy.proofs.WalkedFiles.{judging-test, taken-passed, walk_ended, walked_to_end, walked_next, cut_within, ends_at_end, ends_at_region, ends_with}
use Rattle.repair_copy.proofs.SkippedRegions.{regions_of, event_allowed, skipped_next, skips_cut}
use Rattle.repair_copy.proofs.repairs.copy_walk.Goals as goal
use Rattle.repair_copy.proofs.repairs.copy_walk.Goals.{In-Ok-Some, In_ok-put-in-Ok-Some, In-Err, After-next}

-- an event that the walk gives
given : (g : _) (c : In-Ok-Some g)
    → IsAllowedEvent g.F.Fn c.loop-event.walker.policy.test c.loop-event.walker.progress c.next.new.self.progress.place c.in-Ok-Some.event
given g c = c.in-Ok-Some.ensures.event c.in-Ok-Some.event (ap Ok c.in-Ok-Some.field-0-is)

-- the walk goes on past it
on : (g : _) (c : In-Ok-Some g)
    → WalksOn (g.S.Store.bytes c.loop-event.store) c.loop-event.walker.progress c.next.new.self.progress (Ok (Some c.in-Ok-Some.event))
on g c = rw c.in-Ok-Some.field-0-is at c.in-Ok-Some.ensures.goes_on

-- and was allowed where it is a region
allowed : (g : _) (c : In-Ok-Some g) → AllByRecursion (IsAllowedRegion g.F.Fn c.args.policy.test) (regions_of c.in-Ok-Some.event)
allowed g c =
    let e = given g c in
    event_allowed _ _ c.loop-event.walker.policy.test _ _ c.in-Ok-Some.event c.loop-event.invariant.same_test e.bounds
    (omega (arith, c.next.new.self.progress.within, c.in-Ok-Some.ensures.stands.in_reach)) e.allowed

pub loop-event-init : goal.loop-event-init
loop-event-init g c =
    let front = front-judging c.args.size true c.new.result c.judging-walker.result c.new.ensures.begins c.judging-walker.ensures in
    record {
      same_size = front.size_is;
      keeps = front.unread_ok_is;
      going_on = front.going;
      same_test = judging-test _ _ c.judging-walker.ensures ∙ c.new.ensures.test;
      stands = front-stands _ _ c.args.size true false _ front c.requires.sized;
      copied = search (rules, front);
      skipped = search rules;
      quiet = search rules;
      unbegun = search rules;
      going = search rules;
      small = search (rules, front);
      few = search (rules, front);
      store = search rules;
      taken = search (rules, front);
      made = search rules;
      notes = search rules;
    }

pub put-requires-clause-fits : goal.put-requires-clause-fits
put-requires-clause-fits g c =
    let at = (goal.at.put-requires-clause-fits g c).In-Ok-Some in
    fits c.loop-event.walker.progress c.next.new.self.progress.place (next_chunk_place c.loop-event.copied) c.in-Ok-Some.event (given g at).bounds
    (next_place_small c.loop-event.walker.progress.place c.loop-event.copied c.loop-event.invariant.small)
    (omega (arith, c.next.new.self.progress.within, c.in-Ok-Some.ensures.stands.in_reach))

pub returns-in_err-put-in-Ok-Some-clause-copies : goal.returns-in_err-put-in-Ok-Some-clause-copies
returns-in_err-put-in-Ok-Some-clause-copies g c =
    let at = (goal.at.returns-in_err-put-in-Ok-Some-clause-copies g c).In-Ok-Some in
    let kept = c.loop-event.invariant in
    let p = err_from_is_err_and c.from_residual.result c.from_residual.ensures.1 in
    cut_within g.F.Fn c.args.policy.test _ _ c.loop-event.walker.progress.unread_ok c.loop-event.walker.progress.place c.next.new.self.progress.place kept.store.same_bytes kept.keeps
    c.loop-event.copied _ _ _ _ (piece_of c.in-Ok-Some.event) c.in_err-put-in-Ok-Some.field-0.0 c.from_residual.result _ (p.1 ∙ ap Err p.2) kept.copied (on g at).past
    (allowed g at)
    c.in_err-put-in-Ok-Some.ensures.copies
    (called-on _ _ c.loop-event.walker.progress.unread_ok true 0 c.loop-event.walker.progress.place c.next.new.self.progress.place _
    (Some c.in-Ok-Some.event) _ _ _ kept.store.same_bytes kept.keeps (ap Ok c.in-Ok-Some.field-0-is) kept.taken c.in-Ok-Some.ensures.takes)

pub returns-in_err-put-in-Ok-Some-clause-skips : goal.returns-in_err-put-in-Ok-Some-clause-skips
returns-in_err-put-in-Ok-Some-clause-skips g c =
    let at = (goal.at.returns-in_err-put-in-Ok-Some-clause-skips g c).In-Ok-Some in
    let p = err_from_is_err_and c.from_residual.result c.from_residual.ensures.1 in
    λ end is.
    skips_cut g.F.Fn c.args.policy.test end _ _ _ _ c.in-Ok-Some.event c.loop-event.invariant.skipped
    (c.in_err-put-in-Ok-Some.ensures.tells.front end (cc (p.1 ∙ ap Err p.2, is))) (allowed g at)

-- what was copied with the event
copied : (g : _) (c : In_ok-put-in-Ok-Some g)
    → WalksOn (g.S.Store.bytes c.loop-event.store) c.loop-event.walker.progress c.next.new.self.progress (Ok (Some c.in-Ok-Some.event))
    → AllByRecursion (IsAllowedRegion g.F.Fn c.args.policy.test) (regions_of c.in-Ok-Some.event)
    → IfSome (g.S.Store.bytes c.args.store.now) (HasWalked g.F.Fn c.args.policy.test
    c.next.new.self.progress.place c.put.new.self (taken_by (g.M.Sink.taken c.args.made.now) None (g.E.Sink.taken c.args.notes.now))
    (taken_by (g.M.Sink.taken c.put.new.made) None (g.E.Sink.taken c.put.new.notes)))
copied g c on allowed =
    let kept = c.loop-event.invariant in
    walked_next _ _ _ _ c.loop-event.walker.progress.unread_ok c.loop-event.walker.progress.place c.next.new.self.progress.place kept.store.same_bytes kept.keeps
    c.loop-event.copied c.put.new.self _ _ _ (piece_of c.in-Ok-Some.event) kept.copied on.past
    allowed c.in_ok-put-in-Ok-Some.ensures.copies

-- where that is no region nothing is told
quiet : (g : _) (c : In_ok-put-in-Ok-Some g) → c.put.new.self.regions ≡ 0 → c.put.new.notes ≡ c.args.notes.now
quiet g c none =
    c.in_ok-put-in-Ok-Some.ensures.past.quiet (omega (arith, none, c.in_ok-put-in-Ok-Some.ensures.past.regions))
    ∙ c.loop-event.invariant.quiet (omega (arith, none, c.in_ok-put-in-Ok-Some.ensures.past.regions))

small : (g : _) (c : In_ok-put-in-Ok-Some g)
    → IsEventIn c.loop-event.walker.progress c.next.new.self.progress.place c.in-Ok-Some.event
    → c.put.new.self.file.place ≤ 64 + 2 * c.next.new.self.progress.place
small g c there =
    omega (
      arith,
      c.in_ok-put-in-Ok-Some.ensures.past.place,
      grows c.loop-event.walker.progress c.next.new.self.progress.place (next_chunk_place c.loop-event.copied) c.in-Ok-Some.event there
          (next_place_small c.loop-event.walker.progress.place c.loop-event.copied c.loop-event.invariant.small),
    )

few : (g : _) (c : In_ok-put-in-Ok-Some g)
    → IsEventIn c.loop-event.walker.progress c.next.new.self.progress.place c.in-Ok-Some.event
    → c.put.new.self.regions ≤ c.next.new.self.progress.place
few g c there =
    omega (
      arith,
      c.in_ok-put-in-Ok-Some.ensures.past.regions,
      one_region c.in-Ok-Some.event,
      c.loop-event.invariant.few,
      there.from_place,
      there.rises,
      there.to_place,
    )

-- what holds behind the event, however it is dropped
preserved : (g : _) (c : In_ok-put-in-Ok-Some g)
    → IsAllowedEvent g.F.Fn c.loop-event.walker.policy.test c.loop-event.walker.progress c.next.new.self.progress.place c.in-Ok-Some.event
    → WalksOn (g.S.Store.bytes c.loop-event.store) c.loop-event.walker.progress c.next.new.self.progress (Ok (Some c.in-Ok-Some.event))
    → AllByRecursion (IsAllowedRegion g.F.Fn c.args.policy.test) (regions_of c.in-Ok-Some.event)
    → record {
      same_size : c.next.new.self.progress.size ≡ c.args.size;
      keeps : c.next.new.self.progress.unread_ok ≡ true;
      going_on : c.next.new.self.progress.stopped ≡ None;
      same_test : c.next.new.self.policy.test ≡ c.args.policy.test;
      stands : StandsIn (g.S.Store.bytes c.next.new.store) (g.S.Store.told c.next.new.store) c.next.new.self.progress;
      copied : IfSome (g.S.Store.bytes c.args.store.now) (HasWalked g.F.Fn c.args.policy.test
          c.next.new.self.progress.place c.put.new.self (taken_by (g.M.Sink.taken c.args.made.now) None (g.E.Sink.taken c.args.notes.now))
          (taken_by (g.M.Sink.taken c.put.new.made) None (g.E.Sink.taken c.put.new.notes)));
      skipped : HasSkipped g.F.Fn c.args.policy.test c.put.new.self.regions (g.E.Sink.taken c.args.notes.now) (g.E.Sink.taken c.put.new.notes);
      quiet : c.put.new.self.regions ≡ 0 → c.put.new.notes ≡ c.args.notes.now;
      unbegun : c.put.new.self.begun ≡ false → c.put.new.self.file ≡ nothing_made;
      going : c.put.new.self.file.spent ≡ false;
      small : c.put.new.self.file.place ≤ 64 + 2 * c.next.new.self.progress.place;
      few : c.put.new.self.regions ≤ c.next.new.self.progress.place;
      store : OnlyAsks g.S.Store.bytes g.S.Store.told g.S.Store.name g.S.Store.faults ⊥ c.args.store.now c.next.new.store;
      taken : IfSome (g.S.Store.bytes c.args.store.now) (λ file. IsTakenFrom true file 0 c.next.new.self.progress.place
          (g.S.Store.handed c.next.new.store - g.S.Store.handed c.args.store.now));
      made : OnlyCounts g.M.Sink.lent g.M.Sink.faults ⊥ c.args.made.now c.put.new.made;
      notes : OnlyCounts g.E.Sink.lent g.E.Sink.faults ⊥ c.args.notes.now c.put.new.notes;
    }
preserved g c given on passed =
    let kept = c.loop-event.invariant in
    let e = c.in-Ok-Some.ensures in
    record {
      same_size = e.goes_on.same_size ∙ kept.same_size;
      keeps = e.goes_on.same_unread_ok ∙ kept.keeps;
      going_on = on.stopped;
      same_test = e.same_test ∙ kept.same_test;
      stands = subst (λ (told : Option ℕ). StandsIn (g.S.Store.bytes c.next.new.store) told c.next.new.self.progress) (sym e.store.same_told)
          (subst (λ (b : Option (List ℕ)). StandsIn b (g.S.Store.told c.loop-event.store) c.next.new.self.progress) (sym e.store.same_bytes) e.stands);
      copied = copied g c on passed;
      skipped = skipped_next _ _ _ _ _ _ _ c.in-Ok-Some.event kept.skipped c.in_ok-put-in-Ok-Some.ensures.tells.whole c.in_ok-put-in-Ok-Some.ensures.past.regions passed;
      quiet = quiet g c;
      unbegun = λ unbegun. cc (unbegun, c.in_ok-put-in-Ok-Some.ensures.past.begun);
      going = c.in_ok-put-in-Ok-Some.ensures.past.going;
      small = small g c given.bounds;
      few = few g c given.bounds;
      store = search rules;
      taken = called-on _ _ c.loop-event.walker.progress.unread_ok true 0 c.loop-event.walker.progress.place c.next.new.self.progress.place _
          (Some c.in-Ok-Some.event) _ _ _ kept.store.same_bytes kept.keeps (ap Ok c.in-Ok-Some.field-0-is) kept.taken e.takes;
      made = search rules;
      notes = search rules;
    }

pub loop-event-preserved-in_ok-put-in-Ok-Some : goal.loop-event-preserved-in_ok-put-in-Ok-Some
loop-event-preserved-in_ok-put-in-Ok-Some g c =
    let at = goal.at.loop-event-preserved-in_ok-put-in-Ok-Some g c in
    preserved g at.In_ok-put-in-Ok-Some (given g at.In-Ok-Some) (on g at.In-Ok-Some) (allowed g at.In-Ok-Some)

pub loop-event-preserved-in_ok-put-in-Ok-Some-2 : goal.loop-event-preserved-in_ok-put-in-Ok-Some-2
loop-event-preserved-in_ok-put-in-Ok-Some-2 g c =
    let at = goal.at.loop-event-preserved-in_ok-put-in-Ok-Some-2 g c in
    preserved g at.In_ok-put-in-Ok-Some (given g at.In-Ok-Some) (on g at.In-Ok-Some) (allowed g at.In-Ok-Some)

pub loop-event-preserved : goal.loop-event-preserved
loop-event-preserved g c =
    let at = goal.at.loop-event-preserved g c in
    preserved g at.In_ok-put-in-Ok-Some (given g at.In-Ok-Some) (on g at.In-Ok-Some) (allowed g at.In-Ok-Some)

-- where the walk has come to without a further event
ended : (g : _) (c : After-next g)
    → IfSome (g.S.Store.bytes c.loop-event.store) (λ file. GoesOn c.loop-event.walker.progress.unread_ok file c.loop-event.walker.progress.place
    c.next.new.self.progress.place [])
    → IfSome (g.S.Store.bytes c.args.store.now) (HasWalked g.F.Fn c.args.policy.test c.next.new.self.progress.place c.loop-event.copied
    (taken_by (g.M.Sink.taken c.args.made.now) None (g.E.Sink.taken c.args.notes.now))
    (taken_by (g.M.Sink.taken c.loop-event.made) None (g.E.Sink.taken c.loop-event.notes)))
ended g c none =
    let kept = c.loop-event.invariant in
    walked_to_end _ _ _ _ c.loop-event.walker.progress.unread_ok c.loop-event.walker.progress.place c.next.new.self.progress.place kept.store.same_bytes kept.keeps
    c.loop-event.copied _ _ kept.copied none

-- what the store shows has as many bytes as was told
sized : (g : _) (c : After-next g) → IsSized (g.S.Store.bytes c.loop-event.store) (Some c.loop-event.walker.progress.size)
sized g c =
    subst (IsSized (g.S.Store.bytes c.loop-event.store)) c.loop-event.invariant.stands.size (g.met.S.Store.sized c.loop-event.store)

pub returns-in-Ok-None-clause-copies : goal.returns-in-Ok-None-clause-copies
returns-in-Ok-None-clause-copies g c =
    let at = (goal.at.returns-in-Ok-None-clause-copies g c).After-next in
    let kept = c.loop-event.invariant in
    walk_ended g.F.Fn c.args.policy.test _ c.next.new.self.progress.place c.loop-event.copied _ _ None _
    (ended g at (rw c.in-Ok-None.field-0-is at c.in-Ok-None.ensures.goes_on).past)
    (ends_at_end g.F.Fn c.args.policy.test _ _ c.loop-event.walker.progress.unread_ok c.loop-event.walker.progress.place c.next.new.self.progress.place kept.store.same_bytes kept.keeps
    c.loop-event.walker.progress.size (sized g at) (c.in-Ok-None.ensures.ended (ap Ok c.in-Ok-None.field-0-is)))
    (taken-passed _ c.next.new.self.progress.place _
    (called-on _ _ c.loop-event.walker.progress.unread_ok true 0 c.loop-event.walker.progress.place c.next.new.self.progress.place _ None _ _ _
    kept.store.same_bytes kept.keeps (ap Ok c.in-Ok-None.field-0-is) kept.taken c.in-Ok-None.ensures.takes))

-- where the walk stops, at a region that the test can refuse
refused : (g : _) (c : In-Err g) (region : Region) → c.in-Err.end ≡ walk.Stopped region
    → IsRefusedStop g.F.Fn c.args.policy.test c.next.new.self.progress.size c.next.new.self.progress.place region
refused g c region is =
    rw (← c.loop-event.invariant.same_test)
    (c.in-Err.ensures.refused region (ap Err is) c.loop-event.invariant.going_on)

there : (g : _) (c : In-Err g) → IsSized (g.S.Store.bytes c.loop-event.store) (Some c.loop-event.walker.progress.size) → (region : Region) → c.in-Err.end ≡ walk.Stopped region
    → IfSome (g.S.Store.bytes c.args.store.now) (λ file. EndsAt g.F.Fn c.args.policy.test file c.next.new.self.progress.place (Some region))
there g c sized region is =
    let kept = c.loop-event.invariant in
    let e = c.in-Err.ensures in
    let stop = refused g c region is in
    ends_at_region g.F.Fn c.args.policy.test _ _ c.next.new.self.progress.unread_ok c.loop-event.walker.progress.place c.next.new.self.progress.place kept.store.same_bytes
    (e.goes_on.same_unread_ok ∙ kept.keeps) c.loop-event.walker.progress.size region sized
    (subst (λ (size : ℕ). IsStop size c.next.new.self.progress.place region) e.goes_on.same_size stop.stop)
    (subst (λ (stopped : Option Region). IfSome (g.S.Store.bytes c.loop-event.store) (λ file.
    IsStoppedAt c.next.new.self.progress.unread_ok file c.next.new.self.progress.place stopped))
    (e.goes_on.stopped ∙ ap stop_of (ap Err is)) e.stands.stopped_there)
    stop.refused

pub returns-in-Err-clause-copies : goal.returns-in-Err-clause-copies
returns-in-Err-clause-copies g c =
    let at = goal.at.returns-in-Err-clause-copies g c in
    let kept = c.loop-event.invariant in
    walk_ended g.F.Fn c.args.policy.test _ c.next.new.self.progress.place c.loop-event.copied _ _ (Some c.in-Err.end) _
    (ended g at.After-next c.in-Err.ensures.goes_on.past)
    (ends_with g.F.Fn c.args.policy.test _ _ c.loop-event.walker.progress.unread_ok c.loop-event.walker.progress.place c.next.new.self.progress.place kept.store.same_bytes kept.keeps
    c.in-Err.end (λ is. c.in-Err.ensures.memory (ap Err is)) (there g at.In-Err (sized g at.After-next)))
    (called-to _ _ c.loop-event.walker.progress.unread_ok true 0 c.loop-event.walker.progress.place c.next.new.self.progress.place _ c.in-Err.end _ _ _
    kept.store.same_bytes kept.keeps refl kept.taken c.in-Err.ensures.takes)

pub returns-in-Err-clause-stop : goal.returns-in-Err-clause-stop
returns-in-Err-clause-stop g c =
    λ region is.
    let at = (goal.at.returns-in-Err-clause-stop g c).In-Err in
    let there = refused g at region (cc is) in
    let onward : IsOnward c.args.size region.begin region.end =
    subst (λ (size : ℕ). IsOnward size region.begin region.end) (c.in-Err.ensures.goes_on.same_size ∙ c.loop-event.invariant.same_size)
    (subst (λ (place : ℕ). IsOnward c.next.new.self.progress.size place region.end) (sym there.stop.begin) there.stop.onward) in (
      onward,
      (
        record {
          ordered = omega (arith, onward.past);
          in_reach = omega (arith, there.stop.onward.within, c.in-Err.ensures.stands.in_reach);
        },
        there.refused,
      ),
    )
