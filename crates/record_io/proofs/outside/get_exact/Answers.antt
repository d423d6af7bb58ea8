use Rattle.std.proofs.Common.{◌≤◌, ℕ, ◌<◌, length, arith, rules, length-drop, length-append}
use Rattle.std.proofs.lemmas.List.{length-take}
use Rattle.record_io.proofs.Readings.{read-behind, end-fits, raised-or_greatest}
use Rattle.record_io.proofs.outside.get_exact.Goals as goal

pub loop-got-preserved : goal.loop-got-preserved
loop-got-preserved g c =
    let more = c.in_ok-got.ensures.reads in
    let kept = c.loop-got.invariant in
    let fits : c.in_ok-got.field-0 ≤ length c.read_at.new.buf = omega (arith, c.read_at.auto, more.fits, length-take {A = ℕ}, length-drop {A = ℕ}) in
    let some : 0 < length c.args.buf.now = omega arith in
    record {
      within = omega (arith, c.read_at.auto, length-append {A = ℕ}, length-take {A = ℕ}, length-drop {A = ℕ});
      fits = end-fits _ _ c.args.at c.loop-got.got c.in_ok-got.field-0 (c.requires.within some) (rw kept.asks.same_told at more.within) (rw kept.asks.same_told at more.told_small);
      given = read-behind _ c.loop-got.buf c.read_at.new.buf c.args.at c.loop-got.got _ c.in_ok-got.field-0 kept.within fits kept.given (rw kept.asks.same_bytes at more.given);
      handed = raised-or_greatest _ c.loop-got.got c.in_ok-got.field-0 _ _ _ kept.handed more.handed_out;
      handed_small = λ small. (omega (arith, kept.handed_small small, more.handed_out), omega (arith, kept.handed_small small, more.handed_out));
      handed_most = omega (arith, more.handed_out);
      asks = search rules;
    }

pub returns-in_err-got-clause-store : goal.returns-in_err-got-clause-store
returns-in_err-got-clause-store g c = record { asks = search rules; handed = omega (arith, c.in_err-got.ensures.reads.same_handed) }

pub returns-clause-store : goal.returns-clause-store
returns-clause-store g c = record { asks = search rules; handed = omega arith }
