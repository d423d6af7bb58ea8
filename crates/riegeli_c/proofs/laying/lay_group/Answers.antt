use Rattle.std.proofs.Common.{◌≡◌, ◌∙◌, List, ℕ, [], ◌∷◌, Err, refl, ap, subst}
use Rattle.std.proofs.lemmas.Result.{err_from_is_err_and}
use Rattle.chunk_header.specs.SimpleChunks.{simple_chunk}
use Rattle.meta_chunk.specs.Files.{laid_each}
use Rattle.record_io.specs.Outside.{TakesShort}
use Rattle.simple_chunk.specs.SimpleParts.{SimpleValue}
use Rattle.riegeli_c.specs.Laying.{AreLaidBy}
use Rattle.riegeli_c.specs.declared.laying.LayEnd.TheVariants.{Memory, Made}
use Rattle.riegeli_c.proofs.LaidBy.{lays-ok, lays-short, lays-stopped, counts-same}
use Rattle.riegeli_c.proofs.laying.lay_group.Goals as goal
use Rattle.riegeli_c.proofs.laying.lay_group.Goals.{After-encode}

-- the chunk is that of the group
group_is : (g : _) (c : After-encode g) → c.encode.new.self.records ≡ c.args.group.now
group_is g c = ap (λ (v : SimpleValue). v.records) c.encode.ensures ∙ ap (λ (v : SimpleValue). v.records) c.in_ok-replace.ensures.replaced

pub returns-in_err-replace : goal.returns-in_err-replace
returns-in_err-replace g c =
    let p = err_from_is_err_and c.from_residual.result c.from_residual.ensures.1 in
    lays-stopped g.M.Sink.taken g.M.Sink.lent g.M.Sink.faults c.from_residual.result Memory _ _ _ _ _ (p.1 ∙ ap Err p.2)
    (λ is. cc (is, p.1 ∙ ap Err p.2))
    (counts-same g.M.Sink.lent g.M.Sink.faults ⊥ c.args.made.now (λ no. no))

pub returns-in_err-put_chunk : goal.returns-in_err-put_chunk
returns-in_err-put_chunk g c =
    let p = err_from_is_err_and c.from_residual-in_err-put_chunk.result c.from_residual-in_err-put_chunk.ensures.1 in
    let same = group_is g (goal.at.returns-in_err-put_chunk g c).After-encode in
    let place = c.args.writer.now.position in
    let short = subst (λ (group : List (List ℕ)). TakesShort (g.M.Sink.taken c.args.made.now) (g.M.Sink.taken c.put_chunk.new.made) (laid_each place (simple_chunk group ∷ []))) same
    (c.in_err-put_chunk.ensures.short refl) in
    lays-short g.M.Sink.taken g.M.Sink.lent g.M.Sink.faults c.from_residual-in_err-put_chunk.result Made c.args.writer.now c.put_chunk.new.writer
    (simple_chunk c.args.group.now ∷ []) [] c.args.made.now c.put_chunk.new.made (p.1 ∙ ap Err p.2) refl short c.in_err-put_chunk.ensures.counts

pub returns : goal.returns
returns g c =
    let same = group_is g (goal.at.returns g c).After-encode in
    lays-ok g.M.Sink.taken g.M.Sink.lent g.M.Sink.faults tt c.args.writer.now c.put_chunk.new.writer (simple_chunk c.args.group.now ∷ []) c.args.made.now c.put_chunk.new.made
    (λ is. cc is)
    (subst (λ (group : List (List ℕ)). AreLaidBy (g.M.Sink.taken c.args.made.now) (g.M.Sink.taken c.put_chunk.new.made) c.args.writer.now c.put_chunk.new.writer (simple_chunk group ∷ []))
    same c.in_ok-put_chunk.ensures.whole)
    c.in_ok-put_chunk.ensures.counts
