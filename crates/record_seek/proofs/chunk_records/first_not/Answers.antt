use Rattle.std.proofs.Common.{arith}
use Rattle.std.proofs.lemmas.Option.{slice_get_within}
use Rattle.record_seek.specs.KeyTests.{StandsBefore}
use Rattle.record_seek.proofs.Asking.{first_not_found}
use Rattle.record_seek.proofs.chunk_records.first_not.Goals as goal

pub returns-then-not-before-clause-found : goal.returns-then-not-before-clause-found
returns-then-not-before-clause-found g c =
    let bytes = c.get.result.now in
    let chunk = c.args.chunk.now in
    first_not_found (StandsBefore g.F.Fn c.args.test.now.test) chunk.records chunk.begin c.loop-number.number bytes c.record_of.result
    (slice_get_within chunk.records c.loop-number.number bytes c.get.ensures) c.get.ensures
    (λ stands. cc (c.before-in-loop-number.ensures.exact.1 stands)) c.loop-number.invariant c.record_of.ensures

pub returns-clause-found : goal.returns-clause-found
returns-clause-found g c =
    λ i bytes stands.
    c.loop-number.invariant i bytes
    (omega (arith, slice_get_within c.args.chunk.now.records i bytes stands, c.loop-number-test.false, c.len-number-end.ensures)) stands
