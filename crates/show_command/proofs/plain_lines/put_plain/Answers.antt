use Rattle.std.proofs.Common.{arith, rules}
use Rattle.std.proofs.lemmas.Option.{get_or_from_slice_get}
use Rattle.command_frame.specs.Answers.{line}
use Rattle.record_io.proofs.Calls.{OnErr-any}
use Rattle.show_command.proofs.LinePuts.{lines-next, lines-failed, page-put, page-failed}
use Rattle.show_command.proofs.plain_lines.put_plain.Goals as goal

pub returns-in_err-put_straight : goal.returns-in_err-put_straight
returns-in_err-put_straight g c = record {
  out = record {
    whole = search rules;
    front = OnErr-any _ (page-failed line _ _ _ c.args.lines.now _ _ c.args.records.now c.loop-number.number c.lay_lines-next.result.0
        c.lay_lines-next.ensures.laid c.loop-number.invariant.whole c.in_err-put_straight.ensures.sink.front);
    emptied = search rules;
    counts = search rules;
  };
}

pub loop-number-preserved-then-number-next : goal.loop-number-preserved-then-number-next
loop-number-preserved-then-number-next g c = record {
  within = c.lay_lines-next.ensures.within;
  whole = page-put line _ _ _ c.args.lines.now _ _ c.args.records.now c.loop-number.number c.lay_lines-next.result.0
      c.lay_lines-next.ensures.laid c.loop-number.invariant.whole _ c.in_ok-put_straight.ensures.sink.whole;
  counts = search rules;
}

pub returns-in_err-put_record : goal.returns-in_err-put_record
returns-in_err-put_record g c = record {
  out = record {
    whole = search rules;
    front = OnErr-any _ (lines-failed line _ _ _ c.args.lines.now _ c.args.records.now c.loop-number.number c.get.result.now
        (omega (arith, c.loop-number-test.true, c.len.ensures))
        (get_or_from_slice_get c.args.records.now c.loop-number.number c.get.result.now _ c.get.ensures)
        c.loop-number.invariant.whole c.in_err-put_record.ensures.out.front);
    emptied = search rules;
    counts = search rules;
  };
}

pub loop-number-preserved : goal.loop-number-preserved
loop-number-preserved g c = record {
  within = omega (arith, c.loop-number-test.true, c.len.ensures);
  whole = lines-next line _ _ _ c.args.lines.now _ _ c.args.records.now c.loop-number.number c.get.result.now
      (omega (arith, c.loop-number-test.true, c.len.ensures))
      (get_or_from_slice_get c.args.records.now c.loop-number.number c.get.result.now _ c.get.ensures)
      c.loop-number.invariant.whole c.in_ok-put_record.ensures.out.whole;
  counts = search rules;
}
