use Rattle.std.proofs.Common.{ℕ, arith, rules, length-drop}
use Rattle.std.proofs.lemmas.List.{length-take}
use Rattle.record_io.proofs.Calls.{OnErr-any, TakesShort-at}
use Rattle.record_io.proofs.Pieces.{Takes-more}
use Rattle.record_io.proofs.outside.put_all.Goals as goal

pub loop-at-preserved : goal.loop-at-preserved
loop-at-preserved g c = record {
  within = omega (arith, c.in_ok-at.ensures.takes.fits, length-take {A = ℕ}, length-drop {A = ℕ});
  taken = Takes-more _ _ _ c.args.piece.now c.loop-at.at c.in_ok-at.field-0 c.loop-at.invariant.taken c.in_ok-at.ensures.takes.takes;
  counts = search rules;
}

pub returns-in_err-at : goal.returns-in_err-at
returns-in_err-at g c = record {
  sink = record {
    whole = search rules;
    front = OnErr-any _ (TakesShort-at _ _ _ c.args.piece.now c.loop-at.at (omega arith) c.loop-at.invariant.taken c.in_err-at.ensures.takes.kept);
    counts = search rules;
  };
}
