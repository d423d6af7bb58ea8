use Rattle.std.proofs.Common.{arith}
use Rattle.std.proofs.lemmas.Slice.Zip.{AllZip-long}
use Rattle.record_collect.specs.Ends.{IsPassOf}
use Rattle.record_collect.proofs.AllRead.{full_as, passes_belong}
use Rattle.record_collect.proofs.gathering.all_gathered.Goals as goal

pub finish_batches-requires-clause-passes : goal.finish_batches-requires-clause-passes
finish_batches-requires-clause-passes c =
    omega (
      arith,
      AllZip-long IsPassOf c.args.fed.items c.in_ok-passes.passes.items c.in_ok-passes.ensures.passes.each,
      c.in_ok-passes.passes.ok,
      c.args.fed.ok,
      c.requires.count,
    )

pub finish_batches-requires-clause-each : goal.finish_batches-requires-clause-each
finish_batches-requires-clause-each c =
    passes_belong c.args.collector c.args.fed.items c.in_ok-passes.passes.items c.in_ok-passes.are_whole c.in_ok-passes.ensures.passes c.requires.belongs

pub returns-in-Ok-2 : goal.returns-in-Ok-2
returns-in-Ok-2 c =
    full_as c.args.fed.items c.in_ok-passes.passes.items c.in_ok-passes.are_whole c.in-Ok.made c.in_ok-passes.ensures.passes c.in-Ok.ensures.gathered
    c.in-Ok.ensures.bounds c.if-are_whole.false
