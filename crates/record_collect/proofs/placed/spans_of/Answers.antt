use Rattle.std.proofs.Common.{◌≡◌, ◌∙◌, ℕ, ◌+◌, List, [], ◌∷◌, ◌++◌, length, take, ap, sym, arith}
use Rattle.std.specs.List.{range_with_len}
use Rattle.std.proofs.lemmas.List.{append-nil, take_more}
use Rattle.std.proofs.lemmas.List.Concat.{flat_map-append}
use Rattle.record_collect.specs.declared.placed.Placed.{Placed}
use Rattle.record_collect.specs.Batches.{numbers_in, numbers_in_span}
use Rattle.record_collect.specs.Orders.{places_of, records_in}
use Rattle.record_collect.proofs.PlacedNumbers.{few_placed, places-push-no, places-push-yes, records-push}
use Rattle.record_collect.proofs.placed.spans_of.Goals as goal
use Rattle.record_collect.proofs.placed.spans_of.Goals.{then-e-pass+in_ok-push, else-e-pass}

pub invariant_of-push : goal.invariant_of-push
invariant_of-push c = record {
  fits = omega (arith, few_placed c.args.all.now c.loop-e.e-index c.e-item.result c.loop-e-test.true c.e-item.is, c.loop-e.invariant.first, c.len-count.ensures, c.requires);
}

pub overflow_add-first : goal.overflow_add-first
overflow_add-first c =
    omega (arith, few_placed c.args.all.now c.loop-e.e-index c.e-item.result c.loop-e-test.true c.e-item.is, c.loop-e.invariant.first, c.len-count.ensures, c.requires)

pub loop-e-preserved : goal.loop-e-preserved
loop-e-preserved c =
    let before : List Placed = take c.loop-e.e-index c.args.all.now in
    let e : Placed = c.e-item.result in
    let first : ℕ = c.loop-e.first in
    let pass : ℕ = c.args.pass in
    let more : take (c.loop-e.e-index + 1) c.args.all.now ≡ before ++ e ∷ [] =
    take_more c.args.all.now c.loop-e.e-index e c.loop-e-test.true ∙ ap (λ (x : Placed). before ++ x ∷ []) (sym c.e-item.is) in
    let old : numbers_in c.loop-e.spans.items ≡ places_of pass 0 before = c.loop-e.invariant.numbers in
    record {
      numbers = elim c.if-e-pass.branch [
        | then-e-pass+in_ok-push w ↦
            ap (λ v. numbers_in v.items) w.spans-is
            ∙ ap numbers_in w.in_ok-push.ensures.items
            ∙ flat_map-append numbers_in_span c.loop-e.spans.items _
            ∙ ap (λ (ns : List ℕ). numbers_in c.loop-e.spans.items ++ ns) (append-nil (range_with_len first c.len-count.result))
            ∙ ap (λ (ns : List ℕ). ns ++ range_with_len first c.len-count.result) old
            ∙ ap (λ (n : ℕ). places_of pass 0 before ++ range_with_len n c.len-count.result) c.loop-e.invariant.first
            ∙ ap (λ (n : ℕ). places_of pass 0 before ++ range_with_len (length (records_in before)) n) c.len-count.ensures
            ∙ sym (places-push-yes pass before e w.if-e-pass.true)
            ∙ ap (places_of pass 0) (sym more)
        | else-e-pass w ↦
            ap (λ v. numbers_in v.items) w.spans-is
            ∙ old
            ∙ sym (places-push-no pass before e w.if-e-pass.false)
            ∙ ap (places_of pass 0) (sym more)
      ];
      first = omega (arith, c.loop-e.invariant.first, c.len-count.ensures, records-push before e, ap (λ (es : List Placed). length (records_in es)) more);
    }
