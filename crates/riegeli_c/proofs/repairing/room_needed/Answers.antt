use Rattle.std.proofs.Common.{◌∙◌, None, Err, refl, ap, rules}
use Rattle.damage_skip.specs.Bounds.{MaySkip}
use Rattle.riegeli_c.proofs.RepairSteps.{loads_walked, measured}
use Rattle.riegeli_c.proofs.repairing.room_needed.Goals as goal

pub returns-in-Ok-clause-measures : goal.returns-in-Ok-clause-measures
returns-in-Ok-clause-measures c =
    measured _ c.new-policy.result.test c.args.file.now _ c.in-Ok.repaired _ _ _ _ _ _ c.new-store.ensures.bytes (search rules) (search rules) c.in-Ok.ensures.repairs

pub returns-in-Err-Memory-clause-memory : goal.returns-in-Err-Memory-clause-memory
returns-in-Err-Memory-clause-memory c = λ _.
    loads_walked _ c.new-policy.result.test (MaySkip None) c.args.file.now (λ region allowed. refl) _ c.repair.result
    _ _ _ _ _ c.new-store.ensures.bytes (c.in-Err-Memory.is ∙ ap Err c.in-Err-Memory.field-0-is) c.repair.ensures.repairs
