use Rattle.std.proofs.Common.{Some, Err, sym, ap, subst, rules}
use Rattle.chunk_reader.proofs.Rooms.{IsSized}
use Rattle.record_seek.proofs.Ways.{way-begun, way-on, way-held, way-refused, paid-begun, paid-on, paid-all}
use Rattle.record_seek.proofs.holders.holder_from.Goals as goal
use Rattle.record_seek.proofs.holders.holder_from.Goals.{Start}

-- the told size is that of the file
sized : (g : _) (c : Start g) → IsSized (g.S.Store.bytes c.args.store.now) (Some c.args.size)
sized g c = subst (IsSized (g.S.Store.bytes c.args.store.now)) c.requires.sized.is_told (g.met.S.Store.sized c.args.store.now)

pub loop-passed-init : goal.loop-passed-init
loop-passed-init g c = record {
  boundary = c.requires.begin.boundary;
  before = c.requires.begin.within;
  way = way-begun _ c.args.size c.args.at c.args.begin (sized g c) c.requires.below c.requires.begin.within;
  paid = paid-begun _ c.args.at c.args.begin _;
  asks = search rules;
}

pub returns-in_err-passed-clause-refused : goal.returns-in_err-passed-clause-refused
returns-in_err-passed-clause-refused g c =
    λ fault e.
    let kept = c.loop-passed.invariant in
    way-refused _ _ c.args.at c.args.begin c.loop-passed.place fault kept.asks.same_bytes kept.way
    (c.in_err-passed.ensures.refused fault (ap Err (sym (rw e at c.from_residual.ensures.1))))

pub returns-in_err-passed-clause-handed : goal.returns-in_err-passed-clause-handed
returns-in_err-passed-clause-handed g c =
    let kept = c.loop-passed.invariant in
    paid-all _ c.args.at c.args.begin c.loop-passed.place _ _ _ kept.before c.passed_at.ensures.store.handed kept.paid

pub returns-then-at-passed-clause-holder : goal.returns-then-at-passed-clause-holder
returns-then-at-passed-clause-holder g c =
    let kept = c.loop-passed.invariant in
    way-held _ _ c.args.at c.args.begin c.loop-passed.place c.in_ok-passed.passed kept.asks.same_bytes kept.way
    c.in_ok-passed.ensures.passed c.if-at-passed.true

pub returns-then-at-passed-clause-handed : goal.returns-then-at-passed-clause-handed
returns-then-at-passed-clause-handed g c =
    let kept = c.loop-passed.invariant in
    paid-all _ c.args.at c.args.begin c.loop-passed.place _ _ _ kept.before c.passed_at.ensures.store.handed kept.paid

pub loop-passed-preserved : goal.loop-passed-preserved
loop-passed-preserved g c =
    let kept = c.loop-passed.invariant in
    let given = c.in_ok-passed.ensures in
    let chunk = c.in_ok-passed.passed in
    record {
      boundary = given.bounds.boundary;
      before = c.if-at-passed.false;
      way = way-on _ _ c.args.at c.args.begin c.loop-passed.place chunk kept.asks.same_bytes kept.way given.passed c.if-at-passed.false;
      paid = paid-on _ _ c.args.size c.args.at c.args.begin c.loop-passed.place chunk _ _ _ kept.asks.same_bytes
          (sized g (goal.at.loop-passed-preserved g c).Start) c.requires.sized.in_reach c.requires.below given.passed given.bounds.past
          c.passed_at.ensures.store.handed kept.paid;
      asks = search rules;
    }
