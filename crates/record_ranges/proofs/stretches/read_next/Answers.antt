use Rattle.record_ranges.proofs.Runs.{stretch-goes_on}
use Rattle.record_ranges.proofs.stretches.read_next.Goals as goal

pub returns-clause-judged : goal.returns-clause-judged
returns-clause-judged g c =
    let taken = c.in_ok-take.ensures.taken in
    stretch-goes_on g.K.Keeper.kept_as _ c.args.size c.args.span c.args.stretch.now c.take.new.self c.in_ok-judged.judged taken.held c.in_ok-judged.ensures.judged
    c.in_ok-judged.ensures.sound c.take.ensures.begin taken.last taken.end taken.holds taken.adds
