use Rattle.std.proofs.Common.{◌≡◌, ◌∙◌, false, true, ℕ, Option, List, Ok, Err, Some, None, [], ◌∷◌, ap, sym, subst, refl, inl, inr, arith, rules}
use Rattle.record_io.proofs.Calls.{Takes-nothing}
use Rattle.damage_skip.proofs.BoundedWalks.{MaySkipEach}
use Rattle.damage_skip.specs.Walkers.{progress_of, test_of}
use Rattle.damage_skip.specs.Bounds.{may_skip}
use Rattle.damage_skip.specs.Walks.{StandsIn, piece_of, stop_of}
use Rattle.damage_skip.proofs.WalkFronts.{front-stands}
use Rattle.damage_skip.proofs.Takings.{taken-front, called-on, called-to}
use Rattle.recover_command.proofs.RecoverSteps.{after-ok}
use Rattle.damage_skip.specs.declared.events.WalkEnd.TheVariants.{Stopped}
use Rattle.damage_skip.specs.declared.regions.Region.{Region}
use Rattle.command_frame.specs.declared.status.Status.{Status}
use Rattle.command_frame.proofs.FileRuns.{told-in_reach}
use Rattle.recover_command.proofs.RecoverRuns.{step-allowed, walk-allowed}
use Rattle.recover_command.proofs.RecoverLoop.{bound-same, event-allowed, event-room, printed-none, goes-same, step-by, step-done, step-ended, step-failed, step-printed, step-not_reading_cut_off, step-said, step-passed, step-so_far, step-stood, step-told, step-untold, stop-refused, stop-same}
use Rattle.show_command.proofs.ShowSteps.{exact_told, short_told}
use Rattle.recover_command.proofs.recovering.print_events.Goals as goal
use Rattle.recover_command.proofs.recovering.print_events.Goals.{After-print_event, In-Err}

pub loop-event-init : goal.loop-event-init
loop-event-init g c = record {
  same_size = c.new-walker.ensures.begins.size_is;
  not_kept = c.new-walker.ensures.begins.unread_ok_is;
  decodes = c.new-walker.ensures.begins.decodes_is;
  going = c.new-walker.ensures.begins.going;
  same_test = refl;
  file = search rules;
  stands = front-stands _ _ c.args.size false true _ c.new-walker.ensures.begins c.requires.sized;
  printed = λ made. printed-none c.args.words.now _ _ _ _ c.new-walker.ensures.begins.at_front c.requires.none_held;
  told_of = ([], record { may = tt; says = Takes-nothing _ }, refl);
  kept = λ _. refl;
  taken = taken-front _ false _ _ c.new-walker.ensures.begins.at_front (omega arith);
  out = search rules;
  notes = search rules;
}

-- the region at which the walk stopped may not be skipped
refused : (g : _) (c : In-Err g) (region : Region) → c.in-Err.end ≡ Stopped region → may_skip c.args.words.now.most region ≡ false
refused g c region is =
    let there = c.in-Err.ensures.refused region (ap Err is) c.loop-event.invariant.going in
    stop-refused _ (test_of c.loop-event.walker) c.args.words.now.most (progress_of c.next.new.self).size (progress_of c.next.new.self).place region
    there.stop c.in-Err.ensures.stands.in_reach there.refused
    (bound-same _ _ _ c.args.words.now.most c.loop-event.invariant.same_test (search rules))

-- an event that is given may be passed
passed : (g : _) (c : After-print_event g) → MaySkipEach c.args.words.now.most (piece_of c.in-Ok-Some.event ∷ [])
passed g c =
    let e = c.in-Ok-Some.ensures.event c.in-Ok-Some.event (ap Ok c.in-Ok-Some.field-0-is) in
    event-allowed _ (test_of c.loop-event.walker) c.args.words.now.most _ _ (progress_of c.next.new.self).size c.in-Ok-Some.event
    e.bounds (progress_of c.next.new.self).within c.in-Ok-Some.ensures.stands.in_reach e.allowed
    (bound-same _ _ _ c.args.words.now.most c.loop-event.invariant.same_test (search rules))

pub returns-in-Err-clause-printed : goal.returns-in-Err-clause-printed
returns-in-Err-clause-printed g c = λ made.
    step-ended c.args.words.now _ (progress_of c.loop-event.walker).place (progress_of c.next.new.self).place c.args.size (progress_of c.next.new.self).size
    _ _ _ c.loop-event.status c.in-Err.end _ c.end_of_walk.ensures
    c.requires.sized.in_reach (exact_told _ _ _ c.requires.sized.is_told (g.met.S.Store.sized c.args.file.now)) (c.in-Err.ensures.goes_on.same_size ∙ c.loop-event.invariant.same_size) (c.loop-event.invariant.printed made)
    (goes-same _ _ _ _ _ (Err c.in-Err.end) (Err c.in-Err.end) c.loop-event.invariant.file.same_bytes c.loop-event.invariant.not_kept refl
    c.in-Err.ensures.goes_on.past)
    (λ region is. (
      (c.in-Err.ensures.refused region (ap Err is) c.loop-event.invariant.going).stop,
      refused g (goal.at.returns-in-Err-clause-printed g c).In-Err region is,
      stop-same _ _ _ _ _ _ region c.loop-event.invariant.file.same_bytes c.in-Err.ensures.goes_on.same_unread_ok c.loop-event.invariant.not_kept
          (c.in-Err.ensures.goes_on.stopped ∙ ap (λ e. stop_of (Err e)) is) c.in-Err.ensures.stands.stopped_there,
    ))

pub returns-in-Err-clause-so_far : goal.returns-in-Err-clause-so_far
returns-in-Err-clause-so_far g c = λ short made.
    step-so_far c.args.words.now _ (progress_of c.loop-event.walker).place (progress_of c.next.new.self).place _ _ _ c.loop-event.status c.in-Err.end _ _
    (c.loop-event.invariant.printed made)
    (goes-same _ _ _ _ _ (Err c.in-Err.end) (Err c.in-Err.end) c.loop-event.invariant.file.same_bytes c.loop-event.invariant.not_kept refl
    c.in-Err.ensures.goes_on.past)
    (called-to _ _ (progress_of c.loop-event.walker).unread_ok false 0 (progress_of c.loop-event.walker).place (progress_of c.next.new.self).place
    (Err c.in-Err.end) c.in-Err.end _ _ _ c.loop-event.invariant.file.same_bytes c.loop-event.invariant.not_kept refl c.loop-event.invariant.taken
    c.in-Err.ensures.takes)

pub returns-in-Err-clause-said : goal.returns-in-Err-clause-said
returns-in-Err-clause-said g c =
    step-said c.args.words.now _ _ c.loop-event.status c.in-Err.end _ c.end_of_walk.ensures c.loop-event.invariant.told_of
    (refused g (goal.at.returns-in-Err-clause-said g c).In-Err)

pub returns-in-Err-clause-allowed : goal.returns-in-Err-clause-allowed
returns-in-Err-clause-allowed g c =
    walk-allowed c.args.words.now c.in-Err.end _ _ c.end_of_walk.ensures
    (told-in_reach _ _ (c.in-Err.ensures.store.same_told ∙ c.loop-event.invariant.file.same_told ∙ c.requires.sized.is_told) c.requires.sized.in_reach)

pub returns-in_err-status-in-Ok-Some-clause-so_far : goal.returns-in_err-status-in-Ok-Some-clause-so_far
returns-in_err-status-in-Ok-Some-clause-so_far g c = λ short.
    absurd (step-not_reading_cut_off _ (step-by Status c.in_err-status-in-Ok-Some.field-0.0 _ _ _ _ _ _ c.from_residual.result c.from_residual.ensures.0 c.from_residual.ensures.1
    (c.in_err-status-in-Ok-Some.ensures.prints None)) short)

pub returns-in_err-status-in-Ok-Some-clause-printed : goal.returns-in_err-status-in-Ok-Some-clause-printed
returns-in_err-status-in-Ok-Some-clause-printed g c = λ made.
    step-failed Status c.args.words.now _ (progress_of c.loop-event.walker).place (progress_of c.next.new.self).place _ _ _ _ _ c.loop-event.status
    c.in-Ok-Some.event c.in_err-status-in-Ok-Some.field-0.0 c.from_residual.result c.from_residual.ensures.0 c.from_residual.ensures.1
    (short_told _ _ c.requires.sized.in_reach (exact_told _ _ _ c.requires.sized.is_told (g.met.S.Store.sized c.args.file.now))) (c.loop-event.invariant.printed made)
    (goes-same _ _ _ _ _ _ (Ok (Some c.in-Ok-Some.event)) c.loop-event.invariant.file.same_bytes c.loop-event.invariant.not_kept (ap Ok c.in-Ok-Some.field-0-is) c.in-Ok-Some.ensures.goes_on.past)
    (passed g (goal.at.returns-in_err-status-in-Ok-Some-clause-printed g c).After-print_event)
    (c.in_err-status-in-Ok-Some.ensures.prints made) c.in_err-status-in-Ok-Some.ensures.emptied

pub returns-in_err-status-in-Ok-Some-clause-said : goal.returns-in_err-status-in-Ok-Some-clause-said
returns-in_err-status-in-Ok-Some-clause-said g c =
    step-untold Status c.args.words.now _ _ _ _ _ c.loop-event.status
    c.in-Ok-Some.event c.in_err-status-in-Ok-Some.field-0.0 c.from_residual.result c.from_residual.ensures.0 c.from_residual.ensures.1
    c.loop-event.invariant.told_of
    (passed g (goal.at.returns-in_err-status-in-Ok-Some-clause-said g c).After-print_event)
    (c.in_err-status-in-Ok-Some.ensures.prints None)

pub returns-in_err-status-in-Ok-Some-clause-allowed : goal.returns-in_err-status-in-Ok-Some-clause-allowed
returns-in_err-status-in-Ok-Some-clause-allowed g c =
    step-allowed Status c.args.words.now _ _ _ _ c.in-Ok-Some.event
    c.in_err-status-in-Ok-Some.field-0.0 c.from_residual.result _ c.from_residual.ensures.0 c.from_residual.ensures.1
    (passed g (goal.at.returns-in_err-status-in-Ok-Some-clause-allowed g c).After-print_event)
    (c.in_err-status-in-Ok-Some.ensures.prints None)
    (told-in_reach _ _ (c.in-Ok-Some.ensures.store.same_told ∙ c.loop-event.invariant.file.same_told ∙ c.requires.sized.is_told) c.requires.sized.in_reach)

pub returns-in_err-status-in-Ok-Some-clause-file : goal.returns-in_err-status-in-Ok-Some-clause-file
returns-in_err-status-in-Ok-Some-clause-file g c =
    let kept = c.loop-event.invariant.file in
    let asked = c.in-Ok-Some.ensures.store in
    record {
      same_bytes = asked.same_bytes ∙ kept.same_bytes;
      same_told = asked.same_told ∙ kept.same_told;
      same_name = asked.same_name ∙ kept.same_name;
      cause = λ is.
          elim (step-by Status c.in_err-status-in-Ok-Some.field-0.0 _ _ _ _ _ _ c.from_residual.result c.from_residual.ensures.0 c.from_residual.ensures.1
          (c.in_err-status-in-Ok-Some.ensures.prints None)) [ inl out ↦ absurd (cc (sym out ∙ is)) | inr notes ↦ absurd (cc (sym notes ∙ is)) ];
      never_falls = omega (arith, kept.never_falls, asked.never_falls);
      small = λ h. asked.small (kept.small h);
    }

pub print_event-requires : goal.print_event-requires
print_event-requires g c =
    let e = c.in-Ok-Some.ensures.event c.in-Ok-Some.event (ap Ok c.in-Ok-Some.field-0-is) in
    event-room _ _ (progress_of c.next.new.self).size c.in-Ok-Some.event e.bounds c.loop-event.invariant.decodes
    (progress_of c.next.new.self).within c.in-Ok-Some.ensures.stands.in_reach

pub loop-event-smaller : goal.loop-event-smaller
loop-event-smaller g c =
    let there = (c.in-Ok-Some.ensures.event c.in-Ok-Some.event (ap Ok c.in-Ok-Some.field-0-is)).bounds in
    omega (arith, there.from_place, there.rises, there.to_place, (progress_of c.next.new.self).within, c.in-Ok-Some.ensures.goes_on.same_size)

pub loop-event-preserved : goal.loop-event-preserved
loop-event-preserved g c =
    let asked = c.in-Ok-Some.ensures in
    record {
      same_size = asked.goes_on.same_size ∙ c.loop-event.invariant.same_size;
      not_kept = asked.goes_on.same_unread_ok ∙ c.loop-event.invariant.not_kept;
      decodes = asked.goes_on.same_decodes ∙ c.loop-event.invariant.decodes;
      going = asked.goes_on.stopped ∙ ap (λ e. stop_of (Ok e)) c.in-Ok-Some.field-0-is;
      same_test = asked.same_test ∙ c.loop-event.invariant.same_test;
      file = search rules;
      stands = subst (λ (told : Option ℕ). StandsIn (g.S.Store.bytes c.next.new.store) told (progress_of c.next.new.self)) (sym asked.store.same_told)
          (subst (λ (b : Option (List ℕ)). StandsIn b (g.S.Store.told c.loop-event.file) (progress_of c.next.new.self)) (sym asked.store.same_bytes) asked.stands);
      printed = λ made.
          step-printed c.args.words.now _ (progress_of c.loop-event.walker).place (progress_of c.next.new.self).place _ _ _ _ _ c.loop-event.status
          c.in-Ok-Some.event _ c.in_ok-status-in-Ok-Some.ensures.status (c.loop-event.invariant.printed made)
          (goes-same _ _ _ _ _ _ (Ok (Some c.in-Ok-Some.event)) c.loop-event.invariant.file.same_bytes c.loop-event.invariant.not_kept (ap Ok c.in-Ok-Some.field-0-is) c.in-Ok-Some.ensures.goes_on.past)
          (passed g (goal.at.loop-event-preserved g c).After-print_event) (c.in_ok-status-in-Ok-Some.ensures.prints made);
      told_of = step-told c.args.words.now _ _ _ _ _ c.loop-event.status c.in-Ok-Some.event _ c.in_ok-status-in-Ok-Some.ensures.status c.loop-event.invariant.told_of
          (passed g (goal.at.loop-event-preserved g c).After-print_event)
          (c.in_ok-status-in-Ok-Some.ensures.prints None);
      kept = λ is.
          let before = after-ok c.loop-event.status c.in-Ok-Some.event (sym c.in_ok-status-in-Ok-Some.ensures.status ∙ is) in
          c.in_ok-status-in-Ok-Some.ensures.quiet before.1 ∙ c.loop-event.invariant.kept before.0;
      taken = called-on _ _ (progress_of c.loop-event.walker).unread_ok false 0 (progress_of c.loop-event.walker).place (progress_of c.next.new.self).place _
          (Some c.in-Ok-Some.event) _ _ _ c.loop-event.invariant.file.same_bytes c.loop-event.invariant.not_kept (ap Ok c.in-Ok-Some.field-0-is)
          c.loop-event.invariant.taken asked.takes;
      out = search rules;
      notes = search rules;
    }

pub returns-in-Ok-None-clause-printed : goal.returns-in-Ok-None-clause-printed
returns-in-Ok-None-clause-printed g c = λ made.
    step-done c.args.words.now _ (progress_of c.loop-event.walker).place (progress_of c.next.new.self).place c.args.size _ _ _ c.loop-event.status
    c.requires.sized.in_reach (exact_told _ _ _ c.requires.sized.is_told (g.met.S.Store.sized c.args.file.now)) (c.in-Ok-None.ensures.ended (ap Ok c.in-Ok-None.field-0-is) ∙ c.loop-event.invariant.same_size) (c.loop-event.invariant.printed made)
    (goes-same _ _ _ _ _ _ (Ok None) c.loop-event.invariant.file.same_bytes c.loop-event.invariant.not_kept (ap Ok c.in-Ok-None.field-0-is) c.in-Ok-None.ensures.goes_on.past)

pub returns-in-Err-clause-handed_of : goal.returns-in-Err-clause-handed_of
returns-in-Err-clause-handed_of g c =
    step-stood c.args.words.now _ (progress_of c.loop-event.walker).place (progress_of c.next.new.self).place _ _ _ c.loop-event.status c.in-Err.end _
    (c.loop-event.invariant.printed None)
    (goes-same _ _ _ _ _ (Err c.in-Err.end) (Err c.in-Err.end) c.loop-event.invariant.file.same_bytes c.loop-event.invariant.not_kept refl
    c.in-Err.ensures.goes_on.past)
    (called-to _ _ (progress_of c.loop-event.walker).unread_ok false 0 (progress_of c.loop-event.walker).place (progress_of c.next.new.self).place
    (Err c.in-Err.end) c.in-Err.end _ _ _ c.loop-event.invariant.file.same_bytes c.loop-event.invariant.not_kept refl c.loop-event.invariant.taken
    c.in-Err.ensures.takes)

pub returns-in-Ok-None-clause-handed_of : goal.returns-in-Ok-None-clause-handed_of
returns-in-Ok-None-clause-handed_of g c =
    step-passed c.args.words.now _ (progress_of c.loop-event.walker).place (progress_of c.next.new.self).place _ _ _ c.loop-event.status [] _ tt
    (c.loop-event.invariant.printed None)
    (goes-same _ _ _ _ _ _ (Ok None) c.loop-event.invariant.file.same_bytes c.loop-event.invariant.not_kept (ap Ok c.in-Ok-None.field-0-is)
    c.in-Ok-None.ensures.goes_on.past)
    (called-on _ _ (progress_of c.loop-event.walker).unread_ok false 0 (progress_of c.loop-event.walker).place (progress_of c.next.new.self).place _
    None _ _ _ c.loop-event.invariant.file.same_bytes c.loop-event.invariant.not_kept (ap Ok c.in-Ok-None.field-0-is)
    c.loop-event.invariant.taken c.in-Ok-None.ensures.takes)

pub returns-in_err-status-in-Ok-Some-clause-handed_of : goal.returns-in_err-status-in-Ok-Some-clause-handed_of
returns-in_err-status-in-Ok-Some-clause-handed_of g c =
    step-passed c.args.words.now _ (progress_of c.loop-event.walker).place (progress_of c.next.new.self).place _ _ _ c.loop-event.status
    (piece_of c.in-Ok-Some.event ∷ []) _
    (passed g (goal.at.returns-in_err-status-in-Ok-Some-clause-handed_of g c).After-print_event)
    (c.loop-event.invariant.printed None)
    (goes-same _ _ _ _ _ _ (Ok (Some c.in-Ok-Some.event)) c.loop-event.invariant.file.same_bytes c.loop-event.invariant.not_kept (ap Ok c.in-Ok-Some.field-0-is) c.in-Ok-Some.ensures.goes_on.past)
    (called-on _ _ (progress_of c.loop-event.walker).unread_ok false 0 (progress_of c.loop-event.walker).place (progress_of c.next.new.self).place _
    (Some c.in-Ok-Some.event) _ _ _ c.loop-event.invariant.file.same_bytes c.loop-event.invariant.not_kept (ap Ok c.in-Ok-Some.field-0-is)
    c.loop-event.invariant.taken c.in-Ok-Some.ensures.takes)
