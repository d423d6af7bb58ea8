use Rattle.std.proofs.Common.{◌∙◌, ◌+◌, ◌-◌, ◌*◌, ◌/◌, Some, None, Err, IfSome, ap, subst, arith, rules}
use Rattle.chunk_reader.proofs.Loads as loads
use Rattle.chunk_reader.proofs.Rooms.{IsSized}
use Rattle.record_seek.specs.KeyTests.{StandsBefore}
use Rattle.record_seek.specs.Steps.{IsReadOn, IsLook}
use Rattle.record_seek.proofs.Begun.{reads-begun}
use Rattle.record_seek.proofs.Finding.{begins-front, begins-at, block-met, fault-met, loads-met}
use Rattle.record_seek.proofs.FoundByKey.{found-in, in-order}
use Rattle.record_seek.proofs.Halves.{halved-begun, halved-up, halved-down, takes-look, takes-begin, takes-reading}
use Rattle.record_seek.proofs.ReadingOn.{ok_at}
use Rattle.record_seek.proofs.RightBehind.{nothing-left, record-met}
use Rattle.record_seek.proofs.Ways.{same_told}
use Rattle.record_seek.proofs.finds.find.Goals as goal
use Rattle.record_seek.proofs.finds.find.Goals.{Start}

-- the told size is that of the file
sized : (g : _) (c : Start g) → IsSized (g.S.Store.bytes c.args.store.now) (Some c.args.size)
sized g c = subst (IsSized (g.S.Store.bytes c.args.store.now)) c.requires.sized.is_told (g.met.S.Store.sized c.args.store.now)

pub returns-clause-found : goal.returns-clause-found
returns-clause-found g c =
    let kept = c.loop-high.invariant in
    let given = c.in_ok-begin.ensures in
    found-in (StandsBefore g.F.Fn c.args.test.now.test) _ _ _ c.args.size c.loop-high.low c.in_ok-begin.begin c.read_on.result kept.asks.same_bytes
    (given.store.asks.same_bytes ∙ kept.asks.same_bytes) (sized g (goal.at.returns-clause-found g c).Start) c.requires.sized.in_reach kept.begins given.begin
    c.read_on.ensures.read

pub returns-clause-in_order : goal.returns-clause-in_order
returns-clause-in_order g c = in-order (StandsBefore g.F.Fn c.args.test.now.test) _ c.read_on.result (returns-clause-found g c)

pub returns-in_err-begin-clause-refused : goal.returns-in_err-begin-clause-refused
returns-in_err-begin-clause-refused g c =
    λ fault e.
    block-met _ _ (c.loop-high.low * 65536) fault c.loop-high.invariant.asks.same_bytes
    (c.in_err-begin.ensures.refused fault (ap Err (loads.refused_before c.in_err-begin.field-0.0 fault (rw e at c.from_residual-in_err-begin.ensures.1))))

pub returns-clause-met : goal.returns-clause-met
returns-clause-met g c =
    λ found is.
    let kept = c.loop-high.invariant in
    let given = c.in_ok-begin.ensures in
    let Before = StandsBefore g.F.Fn c.args.test.now.test in
    record-met Before _ _ _ c.loop-high.low c.in_ok-begin.begin found kept.asks.same_bytes (given.store.asks.same_bytes ∙ kept.asks.same_bytes) kept.begins
    given.begin
    (ok_at (λ f. IfSome (g.S.Store.bytes c.reading_begin.new.store) (λ file. IsReadOn Before file c.in_ok-begin.begin f)) c.read_on.result (Some found)
    c.read_on.ensures.read is)

pub returns-clause-none : goal.returns-clause-none
returns-clause-none g c =
    λ is.
    let kept = c.loop-high.invariant in
    let given = c.in_ok-begin.ensures in
    let Before = StandsBefore g.F.Fn c.args.test.now.test in
    nothing-left Before _ _ _ c.loop-high.low c.in_ok-begin.begin kept.asks.same_bytes (given.store.asks.same_bytes ∙ kept.asks.same_bytes) kept.begins
    given.begin
    (ok_at (λ f. IfSome (g.S.Store.bytes c.reading_begin.new.store) (λ file. IsReadOn Before file c.in_ok-begin.begin f)) c.read_on.result None
    c.read_on.ensures.read is)

pub returns-clause-refused : goal.returns-clause-refused
returns-clause-refused g c =
    λ fault e.
    let kept = c.loop-high.invariant in
    let given = c.in_ok-begin.ensures in
    fault-met _ _ _ c.loop-high.low c.in_ok-begin.begin fault kept.asks.same_bytes (given.store.asks.same_bytes ∙ kept.asks.same_bytes) given.begin
    (c.read_on.ensures.refused fault e)

pub returns-in_err-look-clause-handed : goal.returns-in_err-look-clause-handed
returns-in_err-look-clause-handed g c =
    let kept = c.loop-high.invariant in
    takes-look (StandsBefore g.F.Fn c.args.test.now.test) _ _ c.args.size c.loop-high.low c.loop-high.high _ _ _ kept.asks.same_bytes
    (sized g (goal.at.returns-in_err-look-clause-handed g c).Start) kept.halved c.in_err-look.ensures.handed

pub returns-in_err-begin-clause-handed : goal.returns-in_err-begin-clause-handed
returns-in_err-begin-clause-handed g c =
    takes-begin (StandsBefore g.F.Fn c.args.test.now.test) _ c.args.size c.loop-high.low c.loop-high.high _ _ _
    (sized g (goal.at.returns-in_err-begin-clause-handed g c).Start) c.loop-high.invariant.halved c.in_err-begin.ensures.store.handed

pub returns-clause-handed : goal.returns-clause-handed
returns-clause-handed g c =
    let kept = c.loop-high.invariant in
    let given = c.in_ok-begin.ensures in
    takes-reading (StandsBefore g.F.Fn c.args.test.now.test) _ _ _ c.args.size c.loop-high.low c.loop-high.high c.in_ok-begin.begin _ _ _ _
    kept.asks.same_bytes (given.store.asks.same_bytes ∙ kept.asks.same_bytes) (sized g (goal.at.returns-clause-handed g c).Start)
    c.requires.sized.in_reach kept.halved kept.ordered (omega (arith, c.loop-high-test.false)) given.begin given.store.handed c.read_on.ensures.handed

pub loop-high-init : goal.loop-high-init
loop-high-init g c = record {
  ordered = omega arith;
  within = omega (arith, c.div_ceil-high.ensures);
  below = λ some. absurd (omega (arith, some));
  begins = begins-front (StandsBefore g.F.Fn c.args.test.now.test) _;
  halved = halved-begun (StandsBefore g.F.Fn c.args.test.now.test) _ c.args.size c.div_ceil-high.result _
      (sized g (goal.at.loop-high-init g c).Start) (omega (arith, c.div_ceil-high.ensures));
  below_look = tt;
  above_look = tt;
  asks = search rules;
}

pub loop-high-preserved-then-look : goal.loop-high-preserved-then-look
loop-high-preserved-then-look g c =
    let kept = c.loop-high.invariant in
    let given = c.in_ok-look.ensures in
    record {
      ordered = omega (arith, kept.ordered, c.loop-high-test.true);
      within = kept.within;
      below = λ some. omega (arith, kept.ordered, kept.within, c.loop-high-test.true);
      begins = begins-at (StandsBefore g.F.Fn c.args.test.now.test) _ _ (c.loop-high.low + (c.loop-high.high - c.loop-high.low) / 2)
          c.in_ok-look.look kept.asks.same_bytes given.told given.look c.if-look.true;
      halved = halved-up (StandsBefore g.F.Fn c.args.test.now.test) _ _ c.args.size c.loop-high.low c.loop-high.high _ _ _
          kept.asks.same_bytes kept.halved c.loop-high-test.true given.handed;
      below_look = same_told (IsLook (StandsBefore g.F.Fn c.args.test.now.test) c.in_ok-look.look) _ _ kept.asks.same_bytes given.look;
      above_look = kept.above_look;
      asks = search rules;
    }

pub loop-high-preserved : goal.loop-high-preserved
loop-high-preserved g c =
    let kept = c.loop-high.invariant in
    let given = c.in_ok-look.ensures in
    record {
      ordered = omega arith;
      within = omega (arith, kept.within, kept.ordered);
      below = kept.below;
      begins = kept.begins;
      halved = halved-down (StandsBefore g.F.Fn c.args.test.now.test) _ _ c.args.size c.loop-high.low c.loop-high.high _ _ _
          c.in_ok-look.look kept.asks.same_bytes (sized g (goal.at.loop-high-preserved g c).Start) c.requires.sized.in_reach kept.halved
          c.loop-high-test.true given.handed given.told given.look c.if-look.false;
      below_look = kept.below_look;
      above_look = same_told (IsLook (StandsBefore g.F.Fn c.args.test.now.test) c.in_ok-look.look) _ _ kept.asks.same_bytes given.look;
      asks = search rules;
    }

pub returns-clause-memory : goal.returns-clause-memory
returns-clause-memory g c =
    λ e.
    let kept = c.loop-high.invariant in
    let given = c.in_ok-begin.ensures in
    loads-met _ _ _ c.loop-high.low c.in_ok-begin.begin kept.asks.same_bytes (given.store.asks.same_bytes ∙ kept.asks.same_bytes) given.begin
    (c.read_on.ensures.memory e)

pub returns-clause-begin : goal.returns-clause-begin
returns-clause-begin g c =
    let kept = c.loop-high.invariant in
    let given = c.in_ok-begin.ensures in
    reads-begun (StandsBefore g.F.Fn c.args.test.now.test) _ _ _ c.loop-high.low c.in_ok-begin.begin c.read_on.result kept.asks.same_bytes
    (given.store.asks.same_bytes ∙ kept.asks.same_bytes) given.begin c.read_on.ensures.read
