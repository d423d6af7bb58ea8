use Rattle.std.proofs.lemmas.List.{take_more}
use Rattle.simple_chunk.proofs.Checking.{Follows-append}
use Rattle.simple_chunk.proofs.checker.Checker.take_front.Goals as goal
use Rattle.simple_chunk.proofs.checker.Checker.take_front.Goals.{in-Front, in-SizesLen}

pub loop-at-preserved : goal.loop-at-preserved
loop-at-preserved c =
    let next = take_more c.args.piece.now c.loop-at.at 0 c.loop-at-test.true in
    elim c.match-self.branch [
      | in-Front w ↦ rw (next, w.self-is) (Follows-append _ _ _ _ _ c.loop-at.invariant w.take_compression.ensures)
      | in-SizesLen w ↦ rw (next, w.self-is) (Follows-append _ _ _ _ _ c.loop-at.invariant w.take_sizes_len.ensures)
    ]
