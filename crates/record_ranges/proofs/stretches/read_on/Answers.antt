use Rattle.std.proofs.Common.{subst, arith, rules}
use Rattle.chunk_reader.proofs.Rooms.{IsSized}
use Rattle.record_ranges.proofs.Runs.{stretch-whole}
use Rattle.record_ranges.proofs.stretches.read_on.Goals as goal

pub returns : goal.returns
returns g c =
    let kept = c.loop-stretch.invariant in
    record {
      stretch = stretch-whole g.K.Keeper.kept_as _ c.args.size c.args.begin c.args.span c.loop-stretch.stretch
          (subst (IsSized (g.S.Store.bytes c.args.store.now)) c.requires.sized.is_told (g.met.S.Store.sized c.args.store.now))
          c.requires.from.1 kept.same_begin (omega (arith, c.loop-stretch-test.false)) kept.inside kept.judged;
      asks = search rules;
    }
