use Rattle.record_ranges.proofs.Between.{between-more}
use Rattle.record_ranges.proofs.stretches.take_records.Goals as goal

pub loop-number-preserved : goal.loop-number-preserved
loop-number-preserved g c =
    between-more g.K.Keeper.kept_as c.args.span.from c.args.span.to c.args.begin c.loop-number.number c.args.held.now c.args.kept.now c.loop-number.kept
    c.take_record.new.kept c.get.result.now c.get.ensures c.loop-number.invariant c.in_ok-take_record.ensures
