use Rattle.std.proofs.Common.{rules, ◌≡◌, ◌∙◌, ℕ, ◌+◌, ◌<◌, ◌≤◌, List, [], map, vec_len, ap, sym, subst, arith}
use Rattle.std.specs.List.{slice_index}
use Rattle.std.proofs.lemmas.List.Sorted.{IsNonDecreasingBy-from_sort_by_key}
use Rattle.number_shares.specs.declared.table.Piece.{Piece}
use Rattle.record_collect.specs.declared.placed.Placed.{Placed}
use Rattle.number_shares.specs.Least.{IsLeast}
use Rattle.record_collect.specs.Limits.{limit}
use Rattle.record_collect.specs.Puts.{puts}
use Rattle.record_collect.specs.Passes.{IsShort, ends_of}
use Rattle.record_collect.specs.Orders.{cost_of_placed}
use Rattle.number_shares.proofs.PastPieces.{least_past}
use Rattle.record_collect.proofs.Finished.{IsSortedOut, sorted_out, all_permuted, of_pass_sorted}
use Rattle.record_collect.proofs.Laid.{laid_most}
use Rattle.record_collect.proofs.collector.Collector.sorted.Goals as goal

-- what the table's end and the sort say together
out : (c : goal.In_ok-sort_by_key) → IsSortedOut (slice_index c.close_with.ensures.values.2.0.words 0) c.sort_by_key.new.self.items c.in_ok-whole.whole.me.0
out c =
    let key = c.self.inside.table.shared.key in
    let whole = c.in_ok-whole.whole in
    let final = c.close_with.ensures.values.2 in
    let passes : key.seats ≡ c.args.self.passes = c.self.invariant.3 ∙ ap (λ v. v.passes) c.self.view_is in
    let weight : whole.me.0.weight ≡ key.seats = c.in_ok-whole.ensures.seat.weight ∙ c.requires.passes ∙ sym passes in
    let up = IsNonDecreasingBy-from_sort_by_key (λ (e : Placed). e.at) _ c.in_ok-sort_by_key.ensures.sorted (λ a r q k. search rules) in
    sorted_out key final.0 whole.id whole.me.0 c.in_ok-whole.all.items c.sort_by_key.new.self.items c.self.invariant.2 final.1.0 final.1.1 weight c.in_ok-whole.ensures.seat.mine c.in_ok-sort_by_key.ensures.permutation up

pub returns : goal.returns
returns c =
    let all = c.in_ok-whole.all.items in
    let sorted = c.sort_by_key.new.self.items in
    let permuted = c.in_ok-sort_by_key.ensures.permutation in
    let low : 0 + cost_of_placed sorted ≤ limit = laid_most 0 sorted (omega arith) (out c).tiles.laid (out c).mine in
    let past : List Piece = c.in_ok-whole.whole.me.0.past in
    let ends : map (λ (x : Piece). x.at) past ≡ ends_of c.args.passes.items = c.in_ok-whole.ensures.seat.past in
    let from_none : 0 + cost_of_placed sorted ≡ cost_of_placed sorted = omega arith in
    record {
      each = λ i p at. of_pass_sorted i p.mine all sorted (c.in_ok-whole.ensures.placed.each i p at) (c.in_ok-whole.ensures.placed.rising i p at) (out c).tiles.laid (out c).mine permuted;
      no_other = all_permuted (λ (e : Placed). e.pass < vec_len c.args.passes) all sorted permuted c.in_ok-whole.ensures.placed.no_other;
      receipts = (out c).tiles.laid;
      short = all_permuted (λ (e : Placed). IsShort e.records) all sorted permuted c.in_ok-whole.ensures.placed.short;
      most = omega (arith, low);
      ended = λ ended.
          let some : ¬ (past ≡ []) = λ none. ended (sym ends ∙ ap (map (λ (x : Piece). x.at)) none) in
          subst (λ (n : ℕ). IsLeast n (ends_of c.args.passes.items)) from_none
          (subst (IsLeast (0 + cost_of_placed sorted)) ends
          (least_past puts (0 + cost_of_placed sorted) (slice_index c.close_with.ensures.values.2.0.words 0) past (omega arith) (out c).hand.past (out c).tiles.rest some));
    }
