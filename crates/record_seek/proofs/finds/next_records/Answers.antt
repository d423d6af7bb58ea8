use Rattle.std.proofs.Common.{◌∙◌, Some, Err, sym, ap, subst, arith, rules}
use Rattle.chunk_reader.proofs.Loads as loads
use Rattle.chunk_reader.proofs.Rooms.{IsSized}
use Rattle.record_seek.proofs.ReadingOn.{empty-on, empty-ended, empty-come, first-records, paid-header, paid-chunk, fault-header, fault-chunk, loads-on}
use Rattle.record_seek.proofs.finds.next_records.Goals as goal
use Rattle.record_seek.proofs.finds.next_records.Goals.{Start}

-- the told size is that of the file
sized : (g : _) (c : Start g) → IsSized (g.S.Store.bytes c.args.store.now) (Some c.args.size)
sized g c = subst (IsSized (g.S.Store.bytes c.args.store.now)) c.requires.sized.is_told (g.met.S.Store.sized c.args.store.now)

pub returns-in_err-passed-clause-refused : goal.returns-in_err-passed-clause-refused
returns-in_err-passed-clause-refused g c =
    λ fault e.
    let kept = c.loop-place.invariant in
    fault-header _ _ c.args.size c.args.from c.loop-place.place fault kept.asks.same_bytes
    (sized g (goal.at.returns-in_err-passed-clause-refused g c).Start) c.loop-place-test.true
    (empty-come _ c.args.from c.loop-place.place _ _ kept.empty)
    (c.in_err-passed.ensures.refused fault (ap Err (loads.refused_before c.in_err-passed.field-0.0 fault (rw e at c.from_residual.ensures.1))))

pub returns-in_err-passed-clause-handed : goal.returns-in_err-passed-clause-handed
returns-in_err-passed-clause-handed g c =
    paid-header _ c.args.from c.loop-place.place _ _ _ c.loop-place.invariant.empty c.in_err-passed.ensures.store.handed

pub returns-in_err-records_at-clause-refused : goal.returns-in_err-records_at-clause-refused
returns-in_err-records_at-clause-refused g c =
    λ fault e.
    let kept = c.loop-place.invariant in
    fault-chunk _ _ c.args.size c.args.from c.loop-place.place fault (c.in_ok-passed.ensures.store.asks.same_bytes ∙ kept.asks.same_bytes)
    (sized g (goal.at.returns-in_err-records_at-clause-refused g c).Start) c.loop-place-test.true
    (empty-come _ c.args.from c.loop-place.place _ _ kept.empty)
    (c.in_err-records_at.ensures.refused fault (ap Err (sym (rw e at c.from_residual-in_err-records_at.ensures.1))))

pub returns-in_err-records_at-clause-handed : goal.returns-in_err-records_at-clause-handed
returns-in_err-records_at-clause-handed g c =
    let kept = c.loop-place.invariant in
    let given = c.in_ok-passed.ensures in
    paid-chunk _ _ _ c.args.from c.loop-place.place c.in_ok-passed.passed _ _ _ _ kept.asks.same_bytes
    (given.store.asks.same_bytes ∙ kept.asks.same_bytes) kept.empty given.passed c.if-passed-gt0.true given.store.handed c.in_err-records_at.ensures.handed

pub returns-in_err-records_at-clause-memory : goal.returns-in_err-records_at-clause-memory
returns-in_err-records_at-clause-memory g c =
    λ e.
    let kept = c.loop-place.invariant in
    loads-on _ _ c.args.from c.loop-place.place (c.in_ok-passed.ensures.store.asks.same_bytes ∙ kept.asks.same_bytes)
    (empty-come _ c.args.from c.loop-place.place _ _ kept.empty)
    (c.in_err-records_at.ensures.memory (ap Err (sym (rw e at c.from_residual-in_err-records_at.ensures.1))))

pub returns-then-passed-gt0-clause-next : goal.returns-then-passed-gt0-clause-next
returns-then-passed-gt0-clause-next g c =
    let kept = c.loop-place.invariant in
    let given = c.in_ok-passed.ensures in
    let chunk = c.in_ok-records_at.ensures in
    first-records _ _ _ c.args.from c.loop-place.place c.in_ok-passed.passed _ _ _ _ _ kept.asks.same_bytes
    (given.store.asks.same_bytes ∙ kept.asks.same_bytes) kept.empty given.passed c.if-passed-gt0.true given.store.handed chunk.begin chunk.there
    chunk.handed

pub returns-then-passed-gt0-clause-handed : goal.returns-then-passed-gt0-clause-handed
returns-then-passed-gt0-clause-handed g c =
    let kept = c.loop-place.invariant in
    let given = c.in_ok-passed.ensures in
    paid-chunk _ _ _ c.args.from c.loop-place.place c.in_ok-passed.passed _ _ _ _ kept.asks.same_bytes
    (given.store.asks.same_bytes ∙ kept.asks.same_bytes) kept.empty given.passed c.if-passed-gt0.true given.store.handed c.in_ok-records_at.ensures.handed

pub loop-place-preserved : goal.loop-place-preserved
loop-place-preserved g c =
    let kept = c.loop-place.invariant in
    let given = c.in_ok-passed.ensures in
    record {
      boundary = given.bounds.boundary;
      advanced = omega (arith, given.bounds.past, kept.advanced);
      within = given.bounds.within;
      empty = empty-on _ _ c.args.from c.loop-place.place c.in_ok-passed.passed _ _ _ kept.asks.same_bytes kept.empty given.passed
          c.if-passed-gt0.false given.store.handed;
      asks = search rules;
    }

pub returns-clause-next : goal.returns-clause-next
returns-clause-next g c =
    let kept = c.loop-place.invariant in
    empty-ended _ c.args.size c.args.from c.loop-place.place _ _ (sized g (goal.at.returns-clause-next g c).Start) kept.within
    (omega (arith, c.loop-place-test.false)) kept.empty

pub returns-clause-handed : goal.returns-clause-handed
returns-clause-handed g c = paid-header _ c.args.from c.loop-place.place _ _ _ c.loop-place.invariant.empty (omega arith)
