use Rattle.std.proofs.Common.{◌≡◌, ◌∙◌, List, [], ℕ, sym, ap, subst, rules}
use Rattle.chunk_workers.specs.Runs.{RunsValue}
use Rattle.record_writer.specs.EncodedWindows.{AreInOrder}
use Rattle.record_writer.specs.MadeFiles.{Lays, chunks_of_groups}
use Rattle.record_writer.specs.Windows.{WindowValue}
use Rattle.record_writer.proofs.Layings.{Lays-none}
use Rattle.record_writer.proofs.window.Window.put.Goals as goal
use Rattle.record_writer.proofs.window.Window.put.Goals.{in-Some+in_ok-put_runs, in_default}

pub put_runs-requires-clause-order : goal.put_runs-requires-clause-order
put_runs-requires-clause-order g c =
    subst (λ (runs : List RunsValue). AreInOrder c.self.inside.step c.self.inside.groups.groups runs c.in-Some.order) (sym c.deref.ensures.value)
    (c.self.invariant.3 c.in-Some.order (sym c.take.ensures.value ∙ c.in-Some.is))

pub returns-clause-laid : goal.returns-clause-laid
returns-clause-laid g c =
    let same : c.self.inside.groups.groups ≡ c.args.self.now.groups = ap (λ (w : WindowValue). w.groups) c.self.view_is in
    let whole : Lays (g.M.Sink.taken c.args.made.now) (g.M.Sink.taken c.match-take.made) c.args.file.now c.match-take.file (chunks_of_groups c.args.self.now.groups) =
    elim c.match-take.branch [
      | in-Some+in_ok-put_runs w ↦
          rw (w.file-is, w.made-is)
          (subst (λ (gs : List (List (List ℕ))). Lays (g.M.Sink.taken c.args.made.now) (g.M.Sink.taken w.put_runs.new.made) c.args.file.now w.put_runs.new.file
          (chunks_of_groups gs))
          same
          w.in_ok-put_runs.ensures.whole)
      | in_default w ↦
          let none : c.args.self.now.groups ≡ [] = c.requires.ready (search rules) in
          rw (w.file-is, w.made-is)
          (subst (λ (gs : List (List (List ℕ))). Lays (g.M.Sink.taken c.args.made.now) (g.M.Sink.taken c.args.made.now) c.args.file.now c.args.file.now
          (chunks_of_groups gs)) (sym none) (Lays-none _ c.args.file.now c.requires.may_lay.going))
    ] in
    record { whole = whole; front = tt; counts = search rules }
