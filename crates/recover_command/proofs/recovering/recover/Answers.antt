use Rattle.std.proofs.Common.{false, [], ◌∷◌, arith, refl}
use Rattle.recover_command.specs.RecoverCommand.{IsRecovered, IsRecoveredSoFar, recover_meaning}
use Rattle.recover_command.specs.WalkAnswers.{MayTakeWalk}
use Rattle.record_io.specs.declared.cut.Cut.TheVariants.{Made}
use Rattle.command_frame.proofs.FileEnds.{cut-allowed}
use Rattle.command_frame.proofs.FileRuns.{still-sized, told-files, file-keeps}
use Rattle.recover_command.proofs.RecoverRuns.{recover_walks}
use Rattle.recover_command.proofs.WalkRuns.{runs-walking}
use Rattle.recover_command.proofs.recovering.recover.Goals as goal

pub returns-clause-runs : goal.returns-clause-runs
returns-clause-runs g c = λ others.
    let did = c.recover_file-ended.ensures in
    let words = c.args.words.now in
    let exact = still-sized _ _ _ did.same_bytes (g.met.S.Store.sized c.recover_file-ended.new.file) in
    runs-walking (recover_meaning words) (IsRecovered words) (IsRecoveredSoFar words) words.most (recover_walks words) others.input others.made others.made _ _ others.grown _ _ _ _ _
    (file-keeps (recover_meaning words) (IsRecovered words) (IsRecoveredSoFar words) (recover_walks words).one others.input others.made others.made _ _ others.grown _ _ _ _
    did.file.never_falls (omega arith) did.streams.out_counts.never_falls (omega (arith, did.streams.notes_counts.never_falls, c.end_walk.ensures.notes.speaks.counts.never_falls)) exact did.handed
    (told-files (recover_meaning words) others.input others.made _ others.grown _ _
    (λ files. MayTakeWalk false words.most files (g.S.Store.handed c.args.file.now ∷ []) (g.S.Store.handed c.recover_file-ended.new.file ∷ [])) refl did.handed_of))
    c.recover_file-ended.result _ did.allowed exact
    (did.printed others.made.bytes)
    (λ short sound. did.so_far short (sound.out refl) others.made.bytes) did.said c.end_walk.ensures.notes.said did.streams.notes_counts.never_falls
    did.file.cause (λ is. absurd (cc (cut-allowed (recover_meaning words) Made _ _ did.allowed is))) did.streams.out_counts.cause did.streams.notes_counts.cause
