use Rattle.std.proofs.Common.{◌≡◌, ◌<◌, List, sym, subst, arith}
use Rattle.chunk_header.specs.Chunks.{ChunkValue}
use Rattle.riegeli_c.specs.Laying.{AreLaidBy}
use Rattle.riegeli_c.proofs.LaidBy.{lays-ok, lays-puts, none-laid, counts-same}
use Rattle.riegeli_c.proofs.WrittenChunks.{signed-front, unsigned}
use Rattle.riegeli_c.proofs.laying.lay_signature.Goals as goal

pub returns-then-position-eq0 : goal.returns-then-position-eq0
returns-then-position-eq0 g c =
    let front : c.args.writer.now.position ≡ 0 = omega (arith, c.position.ensures.value, c.if-position-eq0.true) in
    let signed = signed-front c.args.writer.now.position front in
    lays-puts g.M.Sink.taken g.M.Sink.lent g.M.Sink.faults c.start.result c.args.writer.now c.start.new.self _ _ 64 c.args.made.now c.start.new.sink
    c.start.ensures.sink c.start.ensures.goes_on signed.0 signed.1

pub returns-else-position-eq0 : goal.returns-else-position-eq0
returns-else-position-eq0 g c =
    let w = c.args.writer.now in
    let some : 0 < w.position = omega (arith, c.position.ensures.value, c.if-position-eq0.false) in
    lays-ok g.M.Sink.taken g.M.Sink.lent g.M.Sink.faults tt w w _ c.args.made.now c.args.made.now (λ is. cc is)
    (subst (λ (ks : List ChunkValue). AreLaidBy (g.M.Sink.taken c.args.made.now) (g.M.Sink.taken c.args.made.now) w w ks) (sym (unsigned w.position some))
    (none-laid (g.M.Sink.taken c.args.made.now) w c.requires.going))
    (counts-same g.M.Sink.lent g.M.Sink.faults ⊥ c.args.made.now (λ no. no))
