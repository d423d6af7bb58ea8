use Rattle.std.proofs.Common.{[], ◌∷◌, ap, refl, arith}
use Rattle.command_frame.proofs.FileRuns.{still-sized, told-files, file-keeps}
use Rattle.show_command.proofs.ReadingRuns.{runs-reading}
use Rattle.show_command.proofs.VerifyEnds.{unprinted-so_far}
use Rattle.seek_command.specs.SeekCommand.{IsSeekAnswer, IsSeekSoFar, MayTakeOf, seek_meaning}
use Rattle.seek_command.proofs.SeekRuns.{seek_reads}
use Rattle.seek_command.proofs.seeking.show_found.Goals as goal

pub returns-clause-runs : goal.returns-clause-runs
returns-clause-runs g c = λ others.
    let did = c.print_found-ended.ensures in
    let words = c.args.words.now in
    let exact = still-sized _ _ _ did.same_bytes (g.met.S.Store.sized c.print_found-ended.new.file) in
    runs-reading (seek_meaning words) (IsSeekAnswer words) IsSeekSoFar (seek_reads words) others.input others.made _ _ others.grown _ _ _ _
    (file-keeps (seek_meaning words) (IsSeekAnswer words) IsSeekSoFar (seek_reads words).one others.input others.made others.made _ _ others.grown _ _ _ _
    did.file.never_falls (omega arith) did.out.never_falls c.end_search.ensures.notes.speaks.counts.never_falls exact did.handed
    (told-files (seek_meaning words) others.input others.made _ others.grown _ _
    (λ files. MayTakeOf words.by files (g.S.Store.handed c.args.file.now ∷ []) (g.S.Store.handed c.print_found-ended.new.file ∷ [])) refl did.handed_of))
    c.print_found-ended.result _ did.allowed exact
    (did.printed others.made.bytes (g.E.Sink.taken c.args.notes.now))
    (λ short sound. unprinted-so_far _ others.made.bytes _ _ (g.E.Sink.taken c.args.notes.now)
    (ap g.O.Sink.taken (did.same_out short))) c.end_search.ensures.notes.said
    did.file.cause did.out.cause
