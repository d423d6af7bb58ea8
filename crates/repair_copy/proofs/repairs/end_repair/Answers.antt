use Rattle.std.proofs.Common.{refl, ap, arith}
use Rattle.record_values.specs.declared.file_totals.Totals.{Totals}
use Rattle.repair_copy.proofs.CopySteps.{next_place_small}
use Rattle.repair_copy.proofs.WalkEnds.{put_whole, put_stopped, put_failed, put_store, put_memory}
use Rattle.repair_copy.proofs.repairs.end_repair.Goals as goal

pub returns-in_err-finish-in-None-clause-put : goal.returns-in_err-finish-in-None-clause-put
returns-in_err-finish-in-None-clause-put g c = λ before notes events copied.
    put_failed c.from_residual.result _ _ before _ events c.from_residual.ensures.0 c.from_residual.ensures.1
    (c.in_err-finish-in-None.ensures.puts before notes events copied)

pub returns-in_err-finish-in-Some-Stopped-clause-put : goal.returns-in_err-finish-in-Some-Stopped-clause-put
returns-in_err-finish-in-Some-Stopped-clause-put g c = λ before notes events copied.
    let failed = c.from_residual-in_err-finish-in-Some-Stopped in
    put_failed failed.result _ _ before _ events failed.ensures.0 failed.ensures.1
    (c.in_err-finish-in-Some-Stopped.ensures.puts before notes events copied)

pub returns-in_ok-finish-in-None-clause-put : goal.returns-in_ok-finish-in-None-clause-put
returns-in_ok-finish-in-None-clause-put g c = λ before notes events copied.
    put_whole _ _ _ before _ c.finish.new.self events c.totals.ensures.counted refl (c.in_ok-finish-in-None.ensures.puts before notes events copied)

pub returns-in_ok-finish-in-None-clause-bounds : goal.returns-in_ok-finish-in-None-clause-bounds
returns-in_ok-finish-in-None-clause-bounds g c = λ size small few. record {
  bytes = omega (
    arith,
    ap (λ (t : Totals). t.bytes) c.totals.ensures.counted,
    c.in_ok-finish-in-None.ensures.place,
    next_place_small size c.args.copied small,
  );
  chunks = c.totals.ensures.chunks;
  records = c.totals.ensures.records;
  unread = c.totals.ensures.unread;
  regions = omega (arith, c.in_ok-finish-in-None.ensures.regions, few);
}

pub returns-in_ok-finish-in-Some-Stopped-clause-put : goal.returns-in_ok-finish-in-Some-Stopped-clause-put
returns-in_ok-finish-in-Some-Stopped-clause-put g c = λ before notes events copied.
    put_stopped c.in-Some-Stopped.region _ _ before _ c.finish-in-Some-Stopped.new.self events
    (c.in_ok-finish-in-Some-Stopped.ensures.puts before notes events copied)

pub returns-in-Some-Store-clause-put : goal.returns-in-Some-Store-clause-put
returns-in-Some-Store-clause-put g c = λ before notes events copied.
    put_store _ _ before _ events (c.break_off.ensures.put before notes events copied)

pub returns-in-Some-Memory-clause-put : goal.returns-in-Some-Memory-clause-put
returns-in-Some-Memory-clause-put g c = λ before notes events copied.
    put_memory _ _ before _ events (c.break_off-in-Some-Memory.ensures.put before notes events copied)
