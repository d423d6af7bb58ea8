use Rattle.std.proofs.Common.{Bool, List, sym, ap, subst}
use Rattle.chunk_header.specs.Chunks.{ChunkValue}
use Rattle.record_group.specs.Groups.{padding_if}
use Rattle.riegeli_c.specs.Laying.{AreLaidBy}
use Rattle.riegeli_c.proofs.LaidBy.{lays-ok, none-laid, counts-same}
use Rattle.riegeli_c.proofs.laying.pad_if.Goals as goal

pub returns-else-wanted : goal.returns-else-wanted
returns-else-wanted g c =
    let w = c.args.writer.now in
    lays-ok g.M.Sink.taken g.M.Sink.lent g.M.Sink.faults tt w w (padding_if c.args.wanted w.position) c.args.made.now c.args.made.now (λ is. cc is)
    (subst (λ (ks : List ChunkValue). AreLaidBy (g.M.Sink.taken c.args.made.now) (g.M.Sink.taken c.args.made.now) w w ks)
    (sym (ap (λ (wanted : Bool). padding_if wanted w.position) c.if-wanted.false))
    (none-laid (g.M.Sink.taken c.args.made.now) w c.requires.may_reach.unspent))
    (counts-same g.M.Sink.lent g.M.Sink.faults ⊥ c.args.made.now (λ no. no))
