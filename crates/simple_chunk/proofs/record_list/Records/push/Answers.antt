use Rattle.std.proofs.Common.{◌≡◌, ℕ, [], ◌∷◌, ◌++◌, ◌∙◌, length, ap, arith, rules}
use Rattle.std.proofs.lemmas.List.{length-append}
use Rattle.simple_chunk.proofs.RecordLists.{pushed, end-behind}
use Rattle.simple_chunk.proofs.record_list.Records.push.Goals as goal

pub invariant_of-self-2 : goal.invariant_of-self-2
invariant_of-self-2 c =
    let ends = c.self.inside.ends.items in
    let items : c.push.new.self.items ≡ ends ++ c.in_ok-end.end ∷ [] = search rules in
    let end : c.in_ok-end.end ≡ length c.push_all.new.self =
    end-behind c.self.inside.values _ c.args.rec.now _ _ c.as_slice.ensures.value c.in_ok-push_all.ensures.appends c.in_ok-end.ensures.0 in
    record {
      order = (pushed ends c.self.inside.values c.args.rec.now c.push.new.self.items c.push_all.new.self c.self.invariant.order
          c.in_ok-push_all.ensures.appends (items ∙ ap (λ (n : ℕ). ends ++ n ∷ []) end)).0;
      few = omega (arith, ap length items, length-append ends (c.in_ok-end.end ∷ []), c.in_ok-end.ensures.1, ap length c.deref.ensures.value);
    }

pub returns-clause-appends : goal.returns-clause-appends
returns-clause-appends c =
    let ends = c.self.inside.ends.items in
    let items : c.push.new.self.items ≡ ends ++ c.in_ok-end.end ∷ [] = search rules in
    let end : c.in_ok-end.end ≡ length c.push_all.new.self =
    end-behind c.self.inside.values _ c.args.rec.now _ _ c.as_slice.ensures.value c.in_ok-push_all.ensures.appends c.in_ok-end.ensures.0 in
    rw (← c.self.view_is) (pushed ends c.self.inside.values c.args.rec.now c.push.new.self.items c.push_all.new.self c.self.invariant.order
    c.in_ok-push_all.ensures.appends (items ∙ ap (λ (n : ℕ). ends ++ n ∷ []) end)).1
