use Rattle.std.proofs.Common.{◌≡◌, ◌∙◌, ◌+◌, ◌<◌, List, ℕ, ap, arith, rules, length, get_or, take_all, subst, ◌++◌}
use Rattle.std.specs.List.{enumerate_from}
use Rattle.std.proofs.lemmas.List.FromFn.{length-enumerate_from, get_or-enumerate_from}
use Rattle.std.proofs.lemmas.Option.{get_or_from_slice_get}
use Rattle.record_io.specs.Buffers.{TakesAndHolds}
use Rattle.show_command.specs.Readings.{record_line}
use Rattle.show_command.specs.ShowProgress.{record_lines}
use Rattle.show_command.proofs.LinePuts.{lines-next, lines-failed, plain-record_lines}
use Rattle.record_io.proofs.Calls.{OnErr-any}
use Rattle.show_command.proofs.record_lines.put_records.Goals as goal

-- the record of this number stands there with its position
numbered : (begin : ℕ) (records : List (List ℕ)) (i : ℕ) (bytes : List ℕ) → i < length records → get_or records i bytes ≡ bytes
    → get_or (enumerate_from begin records) i (begin + i, bytes) ≡ (begin + i, bytes)
numbered begin records i bytes within is =
    get_or-enumerate_from begin records i (begin + i, bytes) within ∙ ap (λ (b : List ℕ). (begin + i, b)) is

pub returns-then-len-ge-MANY : goal.returns-then-len-ge-MANY
returns-then-len-ge-MANY g c = record {
  out = rw (plain-record_lines c.args.form.now c.args.begin c.args.records.now (search rules) (search rules)) c.put_plain.ensures.out;
}

pub returns-in_err-put_record : goal.returns-in_err-put_record
returns-in_err-put_record g c = record {
  out = record {
    whole = search rules;
    front = OnErr-any _ (lines-failed (record_line c.args.form.now) _ _ _ c.args.lines.now _
        (enumerate_from c.args.begin c.args.records.now) c.loop-number.number (c.args.begin + c.loop-number.number, c.get.result.now)
        (omega (arith, length-enumerate_from c.args.begin c.args.records.now, c.loop-number-test.true, c.len-number-end.ensures))
        (numbered c.args.begin c.args.records.now c.loop-number.number c.get.result.now
        (omega (arith, c.loop-number-test.true, c.len-number-end.ensures))
        (get_or_from_slice_get c.args.records.now c.loop-number.number c.get.result.now _ c.get.ensures))
        c.loop-number.invariant.whole c.in_err-put_record.ensures.out.front);
    emptied = search rules;
    counts = search rules;
  };
}

pub loop-number-preserved : goal.loop-number-preserved
loop-number-preserved g c = record {
  whole = lines-next (record_line c.args.form.now) _ _ _ c.args.lines.now _ _
      (enumerate_from c.args.begin c.args.records.now) c.loop-number.number (c.args.begin + c.loop-number.number, c.get.result.now)
      (omega (arith, length-enumerate_from c.args.begin c.args.records.now, c.loop-number-test.true, c.len-number-end.ensures))
      (numbered c.args.begin c.args.records.now c.loop-number.number c.get.result.now
      (omega (arith, c.loop-number-test.true, c.len-number-end.ensures))
      (get_or_from_slice_get c.args.records.now c.loop-number.number c.get.result.now _ c.get.ensures))
      c.loop-number.invariant.whole c.in_ok-put_record.ensures.out.whole;
  counts = search rules;
}

pub returns : goal.returns
returns g c = record {
  out = record {
    whole = subst (λ ps. TakesAndHolds (g.O.Sink.taken c.args.out.now) (g.O.Sink.taken c.loop-number.out) (c.args.lines.now ++ record_lines c.args.form.now ps) c.loop-number.lines)
        (take_all c.loop-number.number (enumerate_from c.args.begin c.args.records.now)
        (omega (arith, length-enumerate_from c.args.begin c.args.records.now, c.loop-number-test.false, c.len-number-end.ensures)))
        c.loop-number.invariant.whole;
    front = tt;
    emptied = tt;
    counts = search rules;
  };
}
