use Rattle.std.proofs.Common.{ℕ, ◌∙◌, List, length, sym, ap, subst}
use Rattle.number_shares.specs.Once.{HasEachBelow}
use Rattle.chunk_workers.specs.Runs.{run_count}
use Rattle.chunk_workers.specs.Seats.{drawn_by}
use Rattle.record_writer.proofs.EncodedWindows.{runs-simply}
use Rattle.record_writer.proofs.window.encode_runs.Goals as goal

pub returns : goal.returns
returns g c = record {
  each = subst (λ (numbers : List ℕ). HasEachBelow (run_count c.args.step (length c.args.groups.now.groups)) numbers) (sym c.in_ok-encoded.ensures.numbers)
      (subst (λ (n : ℕ). HasEachBelow n (drawn_by c.in_ok-encoded.seats.items)) (c.in_ok-draws.ensures.draws.0 ∙ c.run_count-count.ensures.count ∙ ap (run_count c.args.step) c.len.ensures.count) c.finish.ensures);
  coded = runs-simply (g.C.Coder.chunk_of c.args.coder.now) c.args.step c.args.groups.now.groups _ c.requires.encodes c.requires.groups.short
      c.in_ok-encoded.ensures.coded;
}
