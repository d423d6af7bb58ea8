use Rattle.std.proofs.Common.{◌≡◌, ◌-◌, ℕ, Some, None, Result, Err, IfSome, Option, List, [], ◌∷◌, ◌∙◌, refl, sym, ap, subst, arith, rules}
use Rattle.std.proofs.lemmas.Result.{err_from_is_err_and}
use Rattle.std.proofs.lemmas.Grind.{common_steps}
use Rattle.chunk_reader.specs.Reasons.{Applies, NoneOf, loading_reasons}
use Rattle.chunk_reader.proofs.Rooms.{IsSized}
use Rattle.damage_skip.specs.Walks.{event_of, GoesOn, StandsIn, piece_of, TakesByCall}
use Rattle.damage_skip.specs.declared.events.Event.{Event}
use Rattle.damage_skip.specs.declared.events.WalkEnd.{WalkEnd}
use Rattle.damage_skip.proofs.DamagedWalks.{stays_told}
use Rattle.damage_skip.proofs.FrontWalks.{in_remains, in_remains-cut_off}
use Rattle.damage_skip.proofs.WalkSteps.{events_told, met_on, passes, memory_before, stops_there}
use Rattle.damage_skip.specs.Takings.{IsTakenFrom}
use Rattle.damage_skip.proofs.Takings.{taken_at, taken-start, taken-still, taken-past, taken-to}
use Rattle.damage_skip.proofs.walks.Walker.next.Goals as goal
use Rattle.damage_skip.proofs.walks.Walker.next.Goals.{At-loop-self, In_ok-piece, After-event}

-- the walk stands in the file where the loop has come
stands : (g : _) (c : At-loop-self g) → StandsIn (g.S.Store.bytes c.args.store.now) (g.S.Store.told c.args.store.now) c.loop-self.self.progress
stands g c =
    let from = c.args.self.now.progress in
    let kept = c.loop-self.invariant in
    record {
      size = search rules;
      in_reach = search rules;
      met = met_on _ from.unread_ok c.loop-self.self.progress.unread_ok from.place c.loop-self.self.progress.place [] kept.on.same_unread_ok c.requires.may.stands.met kept.on.past;
      stopped_there = search rules;
    }

-- the told size is that of the file
sized_before : (g : _) (c : At-loop-self g) → IsSized (g.S.Store.bytes c.args.store.now) (Some c.args.self.now.progress.size)
sized_before g c = subst (IsSized (g.S.Store.bytes c.args.store.now)) c.requires.may.stands.size (g.met.S.Store.sized c.args.store.now)

sized : (g : _) (c : At-loop-self g) → IsSized (g.S.Store.bytes c.args.store.now) (Some c.loop-self.self.progress.size)
sized g c =
    subst (λ (n : ℕ). IsSized (g.S.Store.bytes c.args.store.now) (Some n)) (sym c.loop-self.invariant.on.same_size)
    (sized_before g c)

-- past the piece there, with what is told of it
past : (g : _) (c : After-event g) (told : Option Event) → c.event.result ≡ told
    → IfSome (g.S.Store.bytes c.args.store.now) (λ file.
    GoesOn c.args.self.now.progress.unread_ok file c.args.self.now.progress.place c.in_ok-piece.piece.end (events_told told))
past g c told is =
    let from = c.args.self.now.progress in
    let at = c.loop-self.self.progress in
    let kept = c.loop-self.invariant in
    let sized : IsSized (g.S.Store.bytes c.args.store.now) (Some from.size) =
    subst (IsSized (g.S.Store.bytes c.args.store.now)) c.requires.may.stands.size (g.met.S.Store.sized c.args.store.now) in
    subst (λ (o : Option Event). IfSome (g.S.Store.bytes c.args.store.now) (λ file. GoesOn from.unread_ok file from.place c.in_ok-piece.piece.end (events_told o))) is
    (passes _ _ from.unread_ok at.unread_ok from.size from.place at.place at.decodes c.in_ok-piece.piece c.event.result kept.asks.same_bytes kept.on.same_unread_ok sized
    (omega (arith, c.loop-self-test.true, kept.on.same_size)) kept.on.past c.in_ok-piece.ensures.sound c.in_ok-piece.ensures.piece.intact
    (sym {b = event_of at.place c.in_ok-piece.piece} c.event.ensures))

-- what was taken past the piece there
taken : (g : _) (c : In_ok-piece g) → IfSome (g.S.Store.bytes c.args.store.now) (λ file.
    IsTakenFrom c.args.self.now.progress.unread_ok file c.args.self.now.progress.place c.in_ok-piece.piece.end
    (g.S.Store.handed c.piece_at.new.store - g.S.Store.handed c.args.store.now))
taken g c =
    let from = c.args.self.now.progress in
    let at = c.loop-self.self.progress in
    let kept = c.loop-self.invariant in
    let sized : IsSized (g.S.Store.bytes c.args.store.now) (Some from.size) =
    subst (IsSized (g.S.Store.bytes c.args.store.now)) c.requires.may.stands.size (g.met.S.Store.sized c.args.store.now) in
    taken-past _ _ from.unread_ok at.unread_ok from.size from.place at.place c.in_ok-piece.piece _ _ _ kept.asks.same_bytes kept.on.same_unread_ok sized
    (omega (arith, c.loop-self-test.true, kept.on.same_size)) kept.taken c.in_ok-piece.ensures.sound c.in_ok-piece.ensures.takes

pub returns-in_err-piece-clause-stands : goal.returns-in_err-piece-clause-stands
returns-in_err-piece-clause-stands g c = stands g (goal.at.returns-in_err-piece-clause-stands g c).At-loop-self

pub returns-in_err-piece-clause-memory : goal.returns-in_err-piece-clause-memory
returns-in_err-piece-clause-memory g c =
    λ e.
    let place = c.loop-self.self.progress.place in
    subst (λ (b : Option (List ℕ)). IfSome b (λ file. NoneOf (Applies file place) loading_reasons)) c.loop-self.invariant.asks.same_bytes
    (c.in_err-piece.ensures.memory (ap Err (memory_before c.in_err-piece.field-0.0 (rw e at c.from_residual.ensures.1))))

pub returns-in-Some-refused-clause-stands : goal.returns-in-Some-refused-clause-stands
returns-in-Some-refused-clause-stands g c =
    let at = c.loop-self.self.progress in
    let stop = c.in-Some-refused.ensures in
    let here = goal.at.returns-in-Some-refused-clause-stands g c in
    let before = stands g here.At-loop-self in
    record {
      size = before.size;
      in_reach = before.in_reach;
      met = before.met;
      stopped_there = stops_there _ _ at.unread_ok at.unread_ok at.size at.place c.in_ok-piece.piece c.in-Some-refused.region c.loop-self.invariant.asks.same_bytes refl
          (sized g here.At-loop-self) c.loop-self-test.true c.in_ok-piece.ensures.sound stop.0 stop.1 stop.2;
    }

pub returns-in-Some-event-clause-goes_on : goal.returns-in-Some-event-clause-goes_on
returns-in-Some-event-clause-goes_on g c =
    record {
      same_size = search rules;
      same_unread_ok = search rules;
      same_decodes = search rules;
      rises = search rules;
      past = past g (goal.at.returns-in-Some-event-clause-goes_on g c).After-event (Some c.in-Some-event.event) c.in-Some-event.is;
      stopped = search rules;
    }

pub returns-in-Some-event-clause-stands : goal.returns-in-Some-event-clause-stands
returns-in-Some-event-clause-stands g c =
    let at = goal.at.returns-in-Some-event-clause-stands g c in
    let from = c.args.self.now.progress in
    let before = stands g at.At-loop-self in
    record {
      size = before.size;
      in_reach = before.in_reach;
      met = met_on _ from.unread_ok c.loop-self.self.progress.unread_ok from.place c.in_ok-piece.piece.end (piece_of c.in-Some-event.event ∷ [])
          c.loop-self.invariant.on.same_unread_ok c.requires.may.stands.met (past g at.After-event (Some c.in-Some-event.event) c.in-Some-event.is);
      stopped_there = search rules;
    }

pub loop-self-preserved : goal.loop-self-preserved
loop-self-preserved g c =
    let kept = c.loop-self.invariant in
    let given = c.in_ok-piece.ensures in
    record {
      on = record {
        same_size = kept.on.same_size;
        same_unread_ok = kept.on.same_unread_ok;
        same_decodes = kept.on.same_decodes;
        rises = omega (arith, kept.on.rises, given.piece.onward.past);
        past = past g (goal.at.loop-self-preserved g c).After-event None (cc);
        stopped = kept.on.stopped;
      };
      same_policy = kept.same_policy;
      asks = search rules;
      taken = taken g (goal.at.loop-self-preserved g c).In_ok-piece;
    }

pub returns-clause-stands : goal.returns-clause-stands
returns-clause-stands g c = stands g (goal.at.returns-clause-stands g c).At-loop-self

pub returns-in-Some-clause-remains : goal.returns-in-Some-clause-remains
returns-in-Some-clause-remains g c =
    let at = c.args.self.now.progress in
    let sized : IsSized (g.S.Store.bytes c.args.store.now) (Some at.size) =
    subst (IsSized (g.S.Store.bytes c.args.store.now)) c.requires.may.stands.size (g.met.S.Store.sized c.args.store.now) in
    in_remains _ _ _ at at _ sized c.requires.may.stands c.requires.may.stands (record {
      same_size = refl;
      same_unread_ok = refl;
      same_decodes = refl;
      rises = omega arith;
      past = stays_told _ at.unread_ok at.place;
      stopped = search rules;
    })
    (λ none. cc)

pub returns-in_err-piece-clause-remains : goal.returns-in_err-piece-clause-remains
returns-in_err-piece-clause-remains g c =
    let p = err_from_is_err_and c.from_residual.result c.from_residual.ensures.1 in
    in_remains-cut_off _ _ _ c.args.self.now.progress c.loop-self.self.progress c.in_err-piece.field-0.0 c.from_residual.result (p.1 ∙ ap Err p.2)
    (sized_before g (goal.at.returns-in_err-piece-clause-remains g c).At-loop-self) c.requires.may.stands (returns-in_err-piece-clause-stands g c)
    c.loop-self.invariant.on

pub returns-in-Some-refused-clause-remains : goal.returns-in-Some-refused-clause-remains
returns-in-Some-refused-clause-remains g c =
    let on = c.loop-self.invariant.on in
    in_remains _ _ _ c.args.self.now.progress _ _ (sized_before g (goal.at.returns-in-Some-refused-clause-remains g c).At-loop-self)
    c.requires.may.stands (returns-in-Some-refused-clause-stands g c)
    (record { same_size = on.same_size; same_unread_ok = on.same_unread_ok; same_decodes = on.same_decodes; rises = on.rises; past = on.past; stopped = refl }) (λ none. cc)

pub returns-in-Some-event-clause-remains : goal.returns-in-Some-event-clause-remains
returns-in-Some-event-clause-remains g c =
    in_remains _ _ _ c.args.self.now.progress _ _ (sized_before g (goal.at.returns-in-Some-event-clause-remains g c).At-loop-self) c.requires.may.stands
    (returns-in-Some-event-clause-stands g c) (returns-in-Some-event-clause-goes_on g c) (λ none. cc)

pub returns-clause-remains : goal.returns-clause-remains
returns-clause-remains g c =
    let on = c.loop-self.invariant.on in
    in_remains _ _ _ c.args.self.now.progress _ _ (sized_before g (goal.at.returns-clause-remains g c).At-loop-self) c.requires.may.stands
    (returns-clause-stands g c) on (λ none. omega (arith, c.loop-self-test.false, c.loop-self.self.progress.within, on.same_size))

pub loop-self-init : goal.loop-self-init
loop-self-init g c =
    let at = c.args.self.now.progress in
    record {
      on = record { same_size = refl; same_unread_ok = refl; same_decodes = refl; rises = omega arith; past = stays_told _ at.unread_ok at.place; stopped = first_of (search rules, grind (arith, common_steps)) };
      same_policy = first_of (search rules, grind (arith, common_steps));
      asks = first_of (search rules, grind (arith, common_steps));
      taken = taken-start _ at.unread_ok at.place _ (omega arith);
    }

pub returns-in-Some-clause-takes : goal.returns-in-Some-clause-takes
returns-in-Some-clause-takes g c =
    let at = c.args.self.now.progress in
    let sized : IsSized (g.S.Store.bytes c.args.store.now) (Some at.size) =
    subst (IsSized (g.S.Store.bytes c.args.store.now)) c.requires.may.stands.size (g.met.S.Store.sized c.args.store.now) in
    taken-still _ at.unread_ok at.size at.place _ sized at.within (omega arith)

pub returns-in_err-piece-clause-takes : goal.returns-in_err-piece-clause-takes
returns-in_err-piece-clause-takes g c =
    let p = err_from_is_err_and c.from_residual.result c.from_residual.ensures.1 in
    let from = c.args.self.now.progress in
    let at = c.loop-self.self.progress in
    subst (λ (r : Result (Option Event) WalkEnd). IfSome (g.S.Store.bytes c.args.store.now) (λ file.
    TakesByCall from.unread_ok file from.place at.place r (g.S.Store.handed c.piece_at.new.store - g.S.Store.handed c.args.store.now))) (sym p.1)
    (taken-to _ _ from.unread_ok from.place at.place _ _ _ c.loop-self.invariant.asks.same_bytes c.loop-self.invariant.taken
    c.in_err-piece.ensures.takes)

pub returns-in-Some-refused-clause-takes : goal.returns-in-Some-refused-clause-takes
returns-in-Some-refused-clause-takes g c =
    let from = c.args.self.now.progress in
    let at = c.loop-self.self.progress in
    taken-to _ _ from.unread_ok from.place at.place _ _ _ c.loop-self.invariant.asks.same_bytes c.loop-self.invariant.taken
    (taken_at _ at.place _ c.in_ok-piece.ensures.takes)

pub returns-in-Some-event-clause-takes : goal.returns-in-Some-event-clause-takes
returns-in-Some-event-clause-takes g c = taken g (goal.at.returns-in-Some-event-clause-takes g c).In_ok-piece

pub returns-clause-takes : goal.returns-clause-takes
returns-clause-takes g c = c.loop-self.invariant.taken
