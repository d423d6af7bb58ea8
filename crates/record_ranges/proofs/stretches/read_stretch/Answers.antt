use Rattle.std.proofs.Common.{Ok, ap, subst, rules}
use Rattle.chunk_reader.proofs.Rooms.{IsSized}
use Rattle.record_ranges.proofs.Runs.{stretch-at_end}
use Rattle.record_ranges.proofs.stretches.read_stretch.Goals as goal

pub read_on-requires-clause-from : goal.read_on-requires-clause-from
read_on-requires-clause-from g c =
    let its = c.in_ok-begin.ensures.begin c.in-Some.begin (ap Ok c.in-Some.is) in (its.0, its.1)

pub returns-in-None : goal.returns-in-None
returns-in-None g c = record {
  stretch = stretch-at_end g.K.Keeper.kept_as _ c.args.size c.args.span c.at.result
      (subst (IsSized (g.S.Store.bytes c.args.store.now)) c.requires.sized.is_told (g.met.S.Store.sized c.args.store.now))
      c.requires.within (c.in_ok-begin.ensures.none.0 (ap Ok c.in-None.is)) c.at.ensures;
  asks = search rules;
}
