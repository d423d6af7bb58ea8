use Rattle.std.proofs.Common.{subst, rules}
use Rattle.chunk_reader.proofs.Rooms.{IsSized}
use Rattle.record_ranges.proofs.Answering.{read-by_threads, read-by_one}
use Rattle.record_ranges.proofs.reading.judged_parts.Goals as goal

pub returns-in_ok-check_front-in-Ok-clause-parts : goal.returns-in_ok-check_front-in-Ok-clause-parts
returns-in_ok-check_front-in-Ok-clause-parts g c =
    read-by_threads g.K.Keeper.kept_as _ c.args.size c.args.spans.now c.args.answers.items c.in-Ok.parts.items
    (subst (IsSized (g.S.Store.bytes c.args.store.now)) c.requires.sized.is_told (g.met.S.Store.sized c.args.store.now))
    c.in_ok-check_front-in-Ok.ensures.signed c.in-Ok.ensures.all (search rules)

pub returns-in-Ok-2-clause-parts : goal.returns-in-Ok-2-clause-parts
returns-in-Ok-2-clause-parts g c =
    read-by_one g.K.Keeper.kept_as _ c.args.size c.args.spans.now c.args.answers.items c.read_alone.result
    (subst (IsSized (g.S.Store.bytes c.args.store.now)) c.requires.sized.is_told (g.met.S.Store.sized c.args.store.now)) c.requires.some c.read_alone.ensures.read
