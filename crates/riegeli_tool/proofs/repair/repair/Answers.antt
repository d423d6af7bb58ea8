use Rattle.std.proofs.Common.{true, [], ◌∷◌, arith, refl}
use Rattle.riegeli_tool.specs.RepairCommand.{IsRepaired, IsRepairedSoFar, repair_meaning}
use Rattle.recover_command.specs.WalkAnswers.{MayTakeWalk}
use Rattle.command_frame.proofs.FileRuns.{still-sized, told-files, file-keeps}
use Rattle.riegeli_tool.proofs.RepairEnds.{repair_walks}
use Rattle.recover_command.proofs.WalkRuns.{runs-walking}
use Rattle.riegeli_tool.proofs.repair.repair.Goals as goal

pub returns-clause-runs : goal.returns-clause-runs
returns-clause-runs g c = λ others.
    let did = c.repair_file-ended.ensures in
    let words = c.args.words.now in
    let exact = still-sized _ _ _ did.same_bytes (g.met.S.Store.sized c.repair_file-ended.new.file) in
    runs-walking (repair_meaning words) (IsRepaired words) (IsRepairedSoFar words) words.most (repair_walks words) others.input _ _ _ _ others.grown _ _ _ _ _
    (file-keeps (repair_meaning words) (IsRepaired words) (IsRepairedSoFar words) (repair_walks words).one others.input _ _ _ _ others.grown _ _ _ _
    did.file.never_falls did.made.never_falls did.out.never_falls (omega (arith, did.notes.never_falls, c.end_walk.ensures.notes.speaks.counts.never_falls)) exact did.handed
    (told-files (repair_meaning words) others.input _ _ others.grown _ _
    (λ files. MayTakeWalk true words.most files (g.S.Store.handed c.args.file.now ∷ []) (g.S.Store.handed c.repair_file-ended.new.file ∷ [])) refl did.handed_of))
    c.repair_file-ended.result _ did.allowed exact
    did.walks (λ short sound. did.so_far short (sound.made refl)) did.said c.end_walk.ensures.notes.said did.notes.never_falls
    did.file.cause did.made.cause did.out.cause did.notes.cause
