use Rattle.std.proofs.Common.{◌≡◌, ℕ, List, get_or, rules}
use Rattle.record_io.proofs.Calls.{OnErr-any}
use Rattle.show_command.proofs.LinePuts.{lines-next, lines-failed}
use Rattle.record_ranges.specs.declared.stretches.Stretch.{Stretch}
use Rattle.record_ranges.proofs.part_lines.put_each_part.Goals as goal

pub returns-in_err-put : goal.returns-in_err-put
returns-in_err-put g c =
    let there : get_or c.args.parts.now c.loop-number.number c.index-parts-number.result ≡ c.index-parts-number.result = search rules in
    record {
      out = record {
        whole = search rules;
        front = OnErr-any _ (lines-failed (λ (s : Stretch (List ℕ)). s.kept) _ _ _ c.args.lines.now _ c.args.parts.now c.loop-number.number
            c.index-parts-number.result c.loop-number-test.true there c.loop-number.invariant.whole (rw (c.text.ensures, there) at c.in_err-put.ensures.sink.front));
        emptied = search rules;
        counts = search rules;
      };
    }

pub loop-number-preserved : goal.loop-number-preserved
loop-number-preserved g c =
    let there : get_or c.args.parts.now c.loop-number.number c.index-parts-number.result ≡ c.index-parts-number.result = search rules in
    record {
      whole = lines-next (λ (s : Stretch (List ℕ)). s.kept) _ _ _ c.args.lines.now _ _ c.args.parts.now c.loop-number.number
          c.index-parts-number.result c.loop-number-test.true there c.loop-number.invariant.whole (rw (c.text.ensures, there) at c.in_ok-put.ensures.sink.whole);
      counts = search rules;
    }
