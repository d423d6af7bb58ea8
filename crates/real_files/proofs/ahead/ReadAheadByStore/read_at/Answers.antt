use Rattle.std.proofs.Common.{rules, arith}
use Rattle.std.proofs.lemmas.Grind.{common_steps}
use Rattle.real_files.proofs.ahead.ReadAheadByStore.read_at.Goals as goal

pub returns-in_err-count-clause-reads : goal.returns-in_err-count-clause-reads
returns-in_err-count-clause-reads g c = record {
  some = search rules;
  fits = search rules;
  within = search rules;
  given = search rules;
  handed_out = search rules;
  same_handed = search rules;
  same_bytes = search rules;
  same_told = search rules;
  told_small = search rules;
  counts = search rules;
}

pub returns-clause-reads : goal.returns-clause-reads
returns-clause-reads g c = record {
  some = search rules;
  fits = search rules;
  within = search rules;
  given = grind (arith, common_steps);
  handed_out = search rules;
  same_handed = search rules;
  same_bytes = search rules;
  same_told = search rules;
  told_small = search rules;
  counts = search rules;
}
