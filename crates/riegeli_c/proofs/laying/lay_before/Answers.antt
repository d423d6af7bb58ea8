use Rattle.std.proofs.Common.{◌^◌, None, arith}
use Rattle.record_writer.proofs.Reaches.{reach_of-last}
use Rattle.riegeli_c.proofs.LaidBy.{none-laid, counts-same}
use Rattle.riegeli_c.proofs.laying.lay_before.Goals as goal

pub lay_group-requires-clause-may_reach : goal.lay_group-requires-clause-may_reach
lay_group-requires-clause-may_reach g c =
    let push = rw c.in-Some.is at c.in_ok-group.ensures.push in
    let given = rw c.in-Some.is at c.in_ok-group.ensures.given in
    record {
      unspent = c.requires.going;
      in_reach = omega (
        arith,
        reach_of-last c.args.writer.now.position c.args.grouper.now c.in-Some.group (2 ^ 61) c.requires.in_reach push.1 given.limits.some,
      );
    }

pub returns-in_default : goal.returns-in_default
returns-in_default g c =
    let push = rw c.in_default.is at c.in_ok-group.ensures.push in
    record {
      whole = (None, push, none-laid (g.M.Sink.taken c.args.made.now) c.args.writer.now c.requires.going);
      closes = λ is. absurd (cc is);
      short = λ is. absurd (cc is);
      counts = counts-same g.M.Sink.lent g.M.Sink.faults _ c.args.made.now (λ is. cc is);
    }
