use Rattle.std.proofs.Common.{◌≡◌, length, take}
use Rattle.std.specs.List.{concat}
use Rattle.riegeli_c.specs.Chunks.{ends_from}
use Rattle.riegeli_c.proofs.reading.put_ends.Given as goal

abbrev pub invariant-loop-i : goal.invariant-loop-i
invariant-loop-i l = record {
  end : l.end ≡ length (concat (take l.i l.records));
  ends : take l.i l.ends ≡ ends_from 0 (take l.i l.records);
}
