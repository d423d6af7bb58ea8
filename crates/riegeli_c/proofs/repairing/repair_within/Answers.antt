use Rattle.std.proofs.Common.{Some, rules, tests}
use Rattle.damage_skip.specs.Bounds.{MaySkip}
use Rattle.riegeli_c.proofs.RepairSteps.{gives_whole, gives_to, gives_made, gives_notes, loads_walked}
use Rattle.riegeli_c.proofs.Told.{never_rises}
use Rattle.riegeli_c.proofs.repairing.repair_within.Goals as goal

pub returns-clause-whole : goal.returns-clause-whole
returns-clause-whole g c =
    gives_whole _ c.new-policy.result.test c.args.most (λ region answer is returned. search (rules, tests)) c.args.file.now c.requires.short _ _ _ _ _ _
    c.repair.result _ _ c.new-store.ensures.bytes c.requires.made c.requires.notes c.repair.ensures.repairs

pub returns-clause-stopped : goal.returns-clause-stopped
returns-clause-stopped g c = λ region is.
    gives_to _ c.new-policy.result.test c.args.most (λ region answer is returned. search (rules, tests)) c.args.file.now c.requires.short _ _ _ _ _ _
    c.repair.result region _ _ c.new-store.ensures.bytes c.requires.made c.requires.notes is c.repair.ensures.repairs

pub returns-clause-made_less : goal.returns-clause-made_less
returns-clause-made_less g c = λ is.
    gives_made _ c.new-policy.result.test c.args.most (λ region answer is returned. search (rules, tests)) c.args.file.now c.requires.short _ _ _ _ _ _
    c.repair.result _ _ c.new-store.ensures.bytes c.requires.made c.requires.notes is c.repair.ensures.repairs

pub returns-clause-notes_less : goal.returns-clause-notes_less
returns-clause-notes_less g c = λ is.
    gives_notes _ c.new-policy.result.test c.args.most (λ region answer is returned. search (rules, tests)) c.args.file.now c.requires.short _ _ _ _ _ _
    c.repair.result _ _ c.new-store.ensures.bytes c.requires.made c.requires.notes is c.repair.ensures.repairs

pub returns-clause-not_store : goal.returns-clause-not_store
returns-clause-not_store g c = λ is. never_rises (c.repair.ensures.store.cause is)

pub returns-clause-memory : goal.returns-clause-memory
returns-clause-memory g c = λ is.
    loads_walked _ c.new-policy.result.test (MaySkip (Some c.args.most)) c.args.file.now (λ region allowed. search (rules, tests)) _ c.repair.result
    _ _ _ _ _ c.new-store.ensures.bytes is c.repair.ensures.repairs
