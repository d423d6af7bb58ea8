use Rattle.std.proofs.Common.{◌≡◌, ◌∙◌, ℕ, ◌+◌, ◌++◌, ◌∷◌, ◌≤◌, [], List, length, map, ap, sym, subst, arith}
use Rattle.std.specs.List.{AllByRecursion}
use Rattle.std.proofs.lemmas.List.Sums.{sum_by-cons}
use Rattle.simple_chunk.specs.Costs.{cost, cost_of}
use Rattle.number_shares.proofs.Lists.{all_push}
use Rattle.number_shares.specs.declared.table.Piece.{Piece}
use Rattle.number_shares.specs.declared.table.SeatView.{SeatView}
use Rattle.record_collect.specs.declared.collector.Batch.{Batch}
use Rattle.record_collect.specs.Passes.{AreShort, IsShort, PassValue, Rises}
use Rattle.record_collect.specs.Puts.{batch_piece}
use Rattle.record_collect.proofs.PassLemmas.{Rises-push, no_past, pieces_above, pieces_push, same_pass}
use Rattle.record_collect.proofs.collector.Collector.put.Goals as goal

pub step-requires-clause-going : goal.step-requires-clause-going
step-requires-clause-going c =
    record {
      going = no_past c.pass.inside.ended c.pass.inside.seat.me.0.past c.pass.invariant.1 c.in_default.is;
      weight = c.pass.invariant.2;
      bounds = c.pass.invariant.5;
    }

-- the pass's batches, and the one that is put
abbrev batches_in : goal.After-push_reserved → List Batch
batches_in c = c.pass.inside.batches.items

abbrev batch_of : goal.After-push_reserved → Batch
batch_of c = record { at = c.in-Ok-step.at; records = c.args.rec.now ∷ [] }

above : (c : goal.After-push_reserved) → AllByRecursion (λ (b : Batch). b.at + cost_of b.records ≤ c.in-Ok-step.at) (batches_in c)
above c = pieces_above c.in-Ok-step.at (batches_in c) c.pass.inside.seat.me.0.mine c.pass.invariant.0 c.in-Ok-step.ensures.taken.above

more : (c : goal.After-push_reserved) → c.push_reserved.new.self.items ≡ batches_in c ++ batch_of c ∷ []
more c =
    c.push_reserved.ensures.items
    ∙ ap (λ (bs : List Batch). bs ++ record { at = c.in-Ok-step.at; records = c.in-Ok.records } ∷ []) c.try_reserve.ensures.items
    ∙ ap (λ (records : List (List ℕ)). batches_in c ++ record { at = c.in-Ok-step.at; records = records } ∷ []) c.in-Ok.ensures

pub invariant_of-pass-in-Ok-step : goal.invariant_of-pass-in-Ok-step
invariant_of-pass-in-Ok-step c =
    let taken = c.in-Ok-step.ensures.taken in
    let old : List Piece = c.pass.inside.seat.me.0.mine in
    let one : length c.args.rec.now + 8 ≡ cost_of (c.args.rec.now ∷ []) = omega (arith, sum_by-cons cost c.args.rec.now []) in (
      ap (λ (v : SeatView). v.mine) taken.view
          ∙ ap (λ (n : ℕ). old ++ record { at = c.in-Ok-step.at; cost = n } ∷ []) one
          ∙ pieces_push (batches_in c) (batch_of c) old c.pass.invariant.0
          ∙ ap (map batch_piece) (sym (more c)),
      ap (λ (v : SeatView). map (λ (x : Piece). x.at) v.past) taken.view ∙ c.pass.invariant.1,
      ap (λ (v : SeatView). v.weight) taken.view ∙ c.pass.invariant.2,
      taken.slots ∙ c.pass.invariant.3,
      subst Rises (sym (more c)) (Rises-push (batches_in c) (batch_of c) (above c) c.pass.invariant.4),
      ap (λ (v : SeatView). v.bounds) taken.view ∙ c.pass.invariant.5,
      subst AreShort (sym (more c)) (all_push (λ (b : Batch). IsShort b.records) (batches_in c) (batch_of c) (omega (arith, c.if-rec-gt-RECORD_SIZE.false), tt) c.pass.invariant.6),
    )

pub returns-in-Ok-step-clause-ok : goal.returns-in-Ok-step-clause-ok
returns-in-Ok-step-clause-ok c =
    let mine : batches_in c ≡ c.args.pass.now.mine = ap (λ (v : PassValue). v.mine) c.pass.view_is in
    let ended : c.pass.inside.ended ≡ c.args.pass.now.ended = ap (λ (v : PassValue). v.ended) c.pass.view_is in
    record {
      short = omega (arith, c.if-rec-gt-RECORD_SIZE.false);
      going = sym ended ∙ c.in_default.is;
      ends = c.in-Ok-step.ensures.taken.ends;
      above = subst (AllByRecursion (λ (b : Batch). b.at + cost_of b.records ≤ c.in-Ok-step.at)) mine (above c);
      pass = same_pass _ _ (c.in-Ok-step.ensures.table ∙ ap (λ (v : PassValue). v.table) c.pass.view_is) (more c ∙ ap (λ (bs : List Batch). bs ++ batch_of c ∷ []) mine) ended;
    }
