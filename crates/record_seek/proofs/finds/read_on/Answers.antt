use Rattle.std.proofs.Common.{Err, sym, ap, arith, rules}
use Rattle.record_seek.specs.KeyTests.{StandsBefore}
use Rattle.record_seek.specs.Steps.{AreRecordsFrom}
use Rattle.record_seek.proofs.ReadCosts.{paid_read-records, reading-on}
use Rattle.record_seek.proofs.ReadingOn.{some_at, read-come, read-records, read-found, read-ended, fault-further, loads-further, loads-first}
use Rattle.record_seek.proofs.finds.read_on.Goals as goal

pub returns-in_err-chunk-clause-refused : goal.returns-in_err-chunk-clause-refused
returns-in_err-chunk-clause-refused g c =
    λ fault e.
    let kept = c.loop-chunk.invariant in
    fault-further _ _ c.args.begin c.loop-chunk.place fault kept.asks.same_bytes
    (read-come (StandsBefore g.F.Fn c.args.test.now.test) _ c.args.begin c.loop-chunk.place kept.read)
    (c.in_err-chunk.ensures.refused fault (ap Err (sym (rw e at c.from_residual.ensures.1))))

pub returns-in_err-chunk-clause-handed : goal.returns-in_err-chunk-clause-handed
returns-in_err-chunk-clause-handed g c =
    let kept = c.loop-chunk.invariant in
    reading-on (StandsBefore g.F.Fn c.args.test.now.test) _ _ c.args.begin c.loop-chunk.place _ _ _ kept.asks.same_bytes kept.paid
    c.next_records.ensures.handed

pub returns-in_err-chunk-clause-memory : goal.returns-in_err-chunk-clause-memory
returns-in_err-chunk-clause-memory g c =
    λ e.
    let kept = c.loop-chunk.invariant in
    loads-further _ _ c.args.begin c.loop-chunk.place kept.asks.same_bytes
    (read-come (StandsBefore g.F.Fn c.args.test.now.test) _ c.args.begin c.loop-chunk.place kept.read)
    (c.in_err-chunk.ensures.memory (ap Err (sym (rw e at c.from_residual.ensures.1))))

pub first_not-requires-clause-chunk : goal.first_not-requires-clause-chunk
first_not-requires-clause-chunk g c =
    (some_at (AreRecordsFrom c.loop-chunk.place c.args.size) _ c.in-Some.chunk c.in_ok-chunk.ensures.chunk c.in-Some.is).of_chunk

pub returns-in_err-found-clause-handed : goal.returns-in_err-found-clause-handed
returns-in_err-found-clause-handed g c =
    let kept = c.loop-chunk.invariant in
    reading-on (StandsBefore g.F.Fn c.args.test.now.test) _ _ c.args.begin c.loop-chunk.place _ _ _ kept.asks.same_bytes kept.paid
    c.next_records.ensures.handed

pub returns-in_err-found-clause-memory : goal.returns-in_err-found-clause-memory
returns-in_err-found-clause-memory g c =
    λ e.
    let kept = c.loop-chunk.invariant in
    loads-further _ _ c.args.begin c.loop-chunk.place kept.asks.same_bytes
    (read-come (StandsBefore g.F.Fn c.args.test.now.test) _ c.args.begin c.loop-chunk.place kept.read)
    (loads-first _ c.loop-chunk.place _ _ _ c.in-Some.chunk c.in-Some.is c.in_ok-chunk.ensures.next)

pub returns-in-Some-2-clause-read : goal.returns-in-Some-2-clause-read
returns-in-Some-2-clause-read g c =
    let kept = c.loop-chunk.invariant in
    read-found (StandsBefore g.F.Fn c.args.test.now.test) _ _ c.args.begin c.loop-chunk.place _ _ _ c.in-Some.chunk _ c.in-Some-2.found
    kept.asks.same_bytes kept.read c.in-Some.is c.in_ok-chunk.ensures.next c.in-Some-2.is c.in_ok-found.ensures.found

pub returns-in-Some-2-clause-handed : goal.returns-in-Some-2-clause-handed
returns-in-Some-2-clause-handed g c =
    let kept = c.loop-chunk.invariant in
    reading-on (StandsBefore g.F.Fn c.args.test.now.test) _ _ c.args.begin c.loop-chunk.place _ _ _ kept.asks.same_bytes kept.paid
    c.next_records.ensures.handed

pub loop-chunk-preserved : goal.loop-chunk-preserved
loop-chunk-preserved g c =
    let kept = c.loop-chunk.invariant in
    let given = c.in_ok-chunk.ensures in
    let chunk = some_at (AreRecordsFrom c.loop-chunk.place c.args.size) _ c.in-Some.chunk given.chunk c.in-Some.is in
    record {
      boundary = chunk.of_chunk.to_boundary;
      within = chunk.within;
      read = read-records (StandsBefore g.F.Fn c.args.test.now.test) _ _ c.args.begin c.loop-chunk.place _ _ _ c.in-Some.chunk _
          kept.asks.same_bytes kept.read c.in-Some.is given.next c.in_default-2.is c.in_ok-found.ensures.found;
      paid = paid_read-records (StandsBefore g.F.Fn c.args.test.now.test) _ _ c.args.begin c.loop-chunk.place _ c.in-Some.chunk _ _ _ _
          kept.asks.same_bytes kept.paid c.in-Some.is given.next c.in_default-2.is c.in_ok-found.ensures.found;
      asks = search rules;
    }

pub loop-chunk-smaller : goal.loop-chunk-smaller
loop-chunk-smaller g c =
    let given = c.in_ok-chunk.ensures in
    let chunk = some_at (AreRecordsFrom c.loop-chunk.place c.args.size) _ c.in-Some.chunk given.chunk c.in-Some.is in
    omega (arith, chunk.of_chunk.after, chunk.begins, chunk.within)

pub returns-clause-read : goal.returns-clause-read
returns-clause-read g c =
    let kept = c.loop-chunk.invariant in
    read-ended (StandsBefore g.F.Fn c.args.test.now.test) _ _ c.args.begin c.loop-chunk.place _ _ _ kept.asks.same_bytes kept.read
    c.in_default.is c.in_ok-chunk.ensures.next

pub returns-clause-handed : goal.returns-clause-handed
returns-clause-handed g c =
    let kept = c.loop-chunk.invariant in
    reading-on (StandsBefore g.F.Fn c.args.test.now.test) _ _ c.args.begin c.loop-chunk.place _ _ _ kept.asks.same_bytes kept.paid
    c.next_records.ensures.handed
