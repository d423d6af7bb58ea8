use Rattle.std.proofs.Common.{◌≡◌, ◌∙◌, ℕ, ◌++◌, ◌∷◌, [], List, map, ap, sym, subst}
use Rattle.simple_chunk.specs.Costs.{cost_of}
use Rattle.number_shares.proofs.Lists.{all_push}
use Rattle.number_shares.specs.declared.table.Piece.{Piece}
use Rattle.record_collect.specs.declared.collector.Batch.{Batch}
use Rattle.record_collect.specs.Passes.{AreShort, IsShort, ReservedValue, Rises}
use Rattle.record_collect.specs.Puts.{batch_piece}
use Rattle.record_collect.proofs.PassLemmas.{Rises-push, map-push}
use Rattle.record_collect.proofs.collector.Reserved.fill.Goals as goal

pub invariant_of-result : goal.invariant_of-result
invariant_of-result c =
    let batches : List Batch = c.self.inside.batches.items in
    let batch : Batch = record { at = c.self.inside.at; records = c.args.records } in
    let more : c.push.new.self.items ≡ batches ++ batch ∷ [] = c.in_ok-push.ensures.items in
    let cost : c.self.inside.cost ≡ cost_of c.args.records = ap (λ (v : ReservedValue). v.cost) c.self.view_is ∙ sym c.requires.cost in (
      c.self.invariant.0
          ∙ ap (λ (n : ℕ). map batch_piece batches ++ record { at = c.self.inside.at; cost = n } ∷ []) cost
          ∙ sym (map-push batch_piece batches batch)
          ∙ ap (map batch_piece) (sym more),
      ap (map (λ (x : Piece). x.at)) c.self.invariant.1,
      c.self.invariant.2,
      c.self.invariant.3,
      subst Rises (sym more) (Rises-push batches batch c.self.invariant.5 c.self.invariant.4),
      c.self.invariant.6,
      subst AreShort (sym more) (all_push (λ (b : Batch). IsShort b.records) batches batch c.requires.short c.self.invariant.7),
    )
