use Rattle.write_command.proofs.KnownEnds.{knows-next, knows-unmarked}
use Rattle.write_command.proofs.line_ends.LineEnds.moved.Goals as goal

pub loop-mask-preserved : goal.loop-mask-preserved
loop-mask-preserved c =
    knows-next c.args.bytes.now c.args.from c.args.to c.loop-mask.base c.marks_at-mask.result
    (knows-unmarked c.loop-mask.invariant c.loop-mask-test.true) c.if-base-to.true c.requires.within c.requires.whole c.marks_at-mask.ensures
