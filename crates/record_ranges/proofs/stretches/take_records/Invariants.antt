use Rattle.std.proofs.Common.{take}
use Rattle.std.specs.List.{enumerate_from}
use Rattle.record_ranges.specs.Ranges.{records_between}
use Rattle.record_ranges.specs.Stretches.{Adds}
use Rattle.record_ranges.proofs.stretches.take_records.Given as goal

abbrev pub invariant-loop-number : goal.invariant-loop-number
invariant-loop-number g l =
    Adds g.K.Keeper.kept_as l.fn.kept l.kept (records_between l.span.from l.span.to (enumerate_from l.begin (take l.number l.held)))
