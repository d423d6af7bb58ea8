use Rattle.std.proofs.Common.{arith, rules}
use Rattle.record_io.proofs.Calls.{OnErr-any}
use Rattle.show_command.proofs.Digits.{digits-begun, digits-put, digits-failed}
use Rattle.show_command.proofs.record_lines.put_digits.Goals as goal

pub loop-at-init : goal.loop-at-init
loop-at-init g c = record { within = omega arith; whole = digits-begun _ _; counts = search rules }

pub returns-in_err-put_piece : goal.returns-in_err-put_piece
returns-in_err-put_piece g c = record {
  out = record {
    whole = search rules;
    front = OnErr-any _ (digits-failed _ _ _ c.args.lines.now _ c.args.bytes.now c.loop-at.at c.min-count.result c.loop-at.invariant.whole
        c.in_err-put_piece.ensures.out.front);
    emptied = search rules;
    counts = search rules;
  };
}

pub loop-at-preserved : goal.loop-at-preserved
loop-at-preserved g c = record {
  within = search rules;
  whole = digits-put _ _ _ c.args.lines.now _ c.args.bytes.now c.loop-at.at c.min-count.result c.loop-at.invariant.whole _ c.in_ok-put_piece.ensures.out.whole;
  counts = search rules;
}
