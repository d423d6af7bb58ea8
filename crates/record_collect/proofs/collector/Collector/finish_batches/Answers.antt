use Rattle.std.proofs.Common.{◌≡◌, ◌∙◌, ℕ, length, vec_len, ap, sym, subst, arith}
use Rattle.std.proofs.lemmas.Result.{IfOk-weaker}
use Rattle.record_collect.specs.Gatherings.{GatheredValue, IsInBounds}
use Rattle.record_collect.specs.Passes.{AreGathered}
use Rattle.record_collect.specs.Orders.{AreSorted, gathered_of}
use Rattle.record_collect.proofs.Woven.{are_gathered, in_bounds}
use Rattle.record_collect.proofs.collector.Collector.finish_batches.Goals as goal

pub returns : goal.returns
returns c =
    let passes = c.args.passes.items in
    let all = c.in_ok-all.all.items in
    let count : vec_len c.args.passes ≡ length passes = omega (arith, c.args.passes.ok) in
    let sorted : AreSorted passes (length passes) all = subst (λ (n : ℕ). AreSorted passes n all) count c.in_ok-all.ensures in
    let same : gathered_of all c.len-count.result ≡ gathered_of all (length passes) = ap (gathered_of all) (c.len-count.ensures ∙ count) in
    let made_of = λ (made : GatheredValue). made ≡ gathered_of all c.len-count.result in
    record {
      gathered = IfOk-weaker c.of.result made_of (AreGathered passes) (λ made is. subst (AreGathered passes) (sym (is ∙ same)) (are_gathered passes all sorted)) c.of.ensures;
      bounds = IfOk-weaker c.of.result made_of IsInBounds (λ made is. subst IsInBounds (sym (is ∙ same)) (in_bounds all (length passes) sorted.short sorted.most)) c.of.ensures;
    }
