use Rattle.std.proofs.Common.{refl}
use Rattle.chunk_header.specs.Views.{value_of_chunk}
use Rattle.meta_chunk.specs.Laid.{end_of_chunk}
use Rattle.damage_skip.proofs.KeptChunks.{kept_region}
use Rattle.repair_copy.specs.declared.repairs.RepairEnd.TheVariants.{Made}
use Rattle.repair_copy.proofs.CopySteps.{chunk_put, chunk_failed, copies_failed}
use Rattle.repair_copy.proofs.EventChunks.{kept_chunk}
use Rattle.repair_copy.proofs.copying.Copied.put_event.Goals as goal

pub returns-in_err-put-in-Records-clause-copies : goal.returns-in_err-put-in-Records-clause-copies
returns-in_err-put-in-Records-clause-copies g c =
    rw c.in-Records.is
    (copies_failed c.from_residual.result Made _ _ c.args.self.now _ _ c.from_residual.ensures.0 c.from_residual.ensures.1
    (chunk_failed _ _ _ c.args.self.now.file c.put.new.self _ (value_of_chunk c.in-Records.chunk) refl refl
    c.in_err-put-in-Records.ensures.laid.laid.front refl))

pub returns-in_err-put-in-Kept-clause-copies : goal.returns-in_err-put-in-Kept-clause-copies
returns-in_err-put-in-Kept-clause-copies g c =
    let k = value_of_chunk c.in-Kept.chunk in
    let failed = c.from_residual-in_err-put-in-Kept in
    rw c.in-Kept.is
    (copies_failed failed.result Made _ _ c.args.self.now _ _ failed.ensures.0 failed.ensures.1
    (chunk_failed _ _ _ c.args.self.now.file c.put-in-Kept.new.self _ k (kept_chunk k) (kept_region c.in-Kept.begin (end_of_chunk c.in-Kept.begin k) k)
    c.in_err-put-in-Kept.ensures.laid.laid.front refl))

pub returns-in_ok-put-in-Records-clause-copies : goal.returns-in_ok-put-in-Records-clause-copies
returns-in_ok-put-in-Records-clause-copies g c =
    rw c.in-Records.is
    (chunk_put _ _ _ c.args.self.now _ _ (value_of_chunk c.in-Records.chunk) refl refl c.in_ok-put-in-Records.ensures.laid.laid.whole refl refl)

pub returns-in_ok-put-in-Kept-clause-copies : goal.returns-in_ok-put-in-Kept-clause-copies
returns-in_ok-put-in-Kept-clause-copies g c =
    let k = value_of_chunk c.in-Kept.chunk in
    rw c.in-Kept.is
    (chunk_put _ _ _ c.args.self.now _ _ k (kept_chunk k) (kept_region c.in-Kept.begin (end_of_chunk c.in-Kept.begin k) k)
    c.in_ok-put-in-Kept.ensures.laid.laid.whole refl refl)
