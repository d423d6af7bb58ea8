use Rattle.std.proofs.Common.{◌+◌, Err, sym, ap, arith, rules}
use Rattle.chunk_reader.proofs.Scans.{accepted-one, accepted-joined, accepted-narrower, refused-passed, judged-last, judged-all}
use Rattle.chunk_reader.proofs.block_judges.judge_blocks.Goals as goal

pub judge-requires-clause-judges : goal.judge-requires-clause-judges
judge-requires-clause-judges g c =
    let kept = c.loop-block.invariant in
    record {
      fits = rw kept.asks.same_told c.requires.judges.fits;
      begun = omega (arith, c.requires.judges.begun, kept.from_place);
      ordered = omega arith;
      within = omega (arith, c.requires.judges.within, c.loop-block-test.true);
    }

pub loop-block-preserved : goal.loop-block-preserved
loop-block-preserved g c =
    let kept = c.loop-block.invariant in
    let given = c.in_ok-judge.ensures in
    let block = c.loop-block.block in
    let accepts = g.J.JudgesBlocks.accepts c.args.judge.now in
    record {
      at_block = omega (arith, kept.at_block);
      from_place = omega (arith, kept.from_place);
      near = omega (arith, c.loop-block-test.true);
      accepted = accepted-joined _ _ accepts c.args.from block (block + 65536) kept.asks.same_bytes kept.accepted
          (accepted-one _ accepts block (block + 65536) kept.at_block (omega arith) given.accepted);
      handed = omega (arith, kept.handed, given.store.handed, kept.from_place, kept.at_block);
      asks = search rules;
    }

pub returns-in_err-judge-clause-refused : goal.returns-in_err-judge-clause-refused
returns-in_err-judge-clause-refused g c =
    λ told e.
    let kept = c.loop-block.invariant in
    let here = c.in_err-judge.ensures.refused told (ap Err (sym (rw e at c.from_residual.ensures.1))) in (
      here.0,
      refused-passed _ _ (g.J.JudgesBlocks.accepts c.args.judge.now) (g.J.JudgesBlocks.tells c.args.judge.now) c.args.from c.loop-block.block
          c.args.to told _ _ _ kept.asks.same_bytes kept.at_block kept.from_place c.loop-block-test.true kept.accepted kept.handed
          c.judge.ensures.store.handed here.1,
    )

pub returns-in_err-judge-clause-looks : goal.returns-in_err-judge-clause-looks
returns-in_err-judge-clause-looks g c =
    let kept = c.loop-block.invariant in
    judged-last _ (g.J.JudgesBlocks.accepts c.args.judge.now) c.args.from c.loop-block.block c.args.to _ _ _ kept.at_block kept.from_place
    c.loop-block-test.true kept.accepted kept.handed c.judge.ensures.store.handed

pub returns-in_err-judge-clause-store : goal.returns-in_err-judge-clause-store
returns-in_err-judge-clause-store g c =
    let kept = c.loop-block.invariant in
    record {
      asks = search rules;
      handed = omega (arith, kept.handed, c.judge.ensures.store.handed, kept.from_place, kept.at_block, c.loop-block-test.true);
    }

pub returns-clause-accepted : goal.returns-clause-accepted
returns-clause-accepted g c =
    accepted-narrower _ (g.J.JudgesBlocks.accepts c.args.judge.now) c.args.from c.loop-block.block c.args.to c.loop-block-test.false
    c.loop-block.invariant.accepted

pub returns-clause-looks : goal.returns-clause-looks
returns-clause-looks g c =
    let kept = c.loop-block.invariant in
    judged-all _ (g.J.JudgesBlocks.accepts c.args.judge.now) c.args.from c.loop-block.block c.args.to _ _ kept.at_block c.loop-block-test.false
    kept.near kept.accepted kept.handed

pub returns-clause-store : goal.returns-clause-store
returns-clause-store g c =
    let kept = c.loop-block.invariant in
    record {
      asks = search rules;
      handed = omega (arith, kept.handed, kept.at_block, kept.near, c.loop-block-test.false);
    }
