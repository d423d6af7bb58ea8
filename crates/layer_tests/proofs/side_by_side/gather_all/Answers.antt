use Rattle.std.proofs.Common.{◌∙◌, ℕ, ◌^◌, ◌≤◌, length, subst, sym}
use Rattle.std.proofs.lemmas.List.Elements.{All-replicate, recursion_from_All}
use Rattle.std.specs.List.{AllByRecursion}
use Rattle.scripted_io.specs.Memory.{told_if}
use Rattle.layer_tests.specs.declared.meeting_stores.MeetingStore.{MeetingStore}
use Rattle.layer_tests.proofs.ToldSizes.{all_told}
use Rattle.layer_tests.proofs.side_by_side.gather_all.Goals as goal

pub gather-requires-clause-sized : goal.gather-requires-clause-sized
gather-requires-clause-sized g c κs within =
    let same = c.deref.ensures.value ∙ c.in_ok-sizes.ensures.items_if_clones_equal (λ y same. same) in record {
      are_told =
          all_told (λ (s : MeetingStore). told_if s.store.asked (length s.store.bytes)) c.args.size c.args.stores.now c.deref.result.now
          c.requires.told same;
      in_reach = subst (AllByRecursion (λ (n : ℕ). n ≤ 2 ^ 60)) (sym same)
          (recursion_from_All (λ (n : ℕ). n ≤ 2 ^ 60) _ (All-replicate (λ (n : ℕ). n ≤ 2 ^ 60) _ _ c.requires.in_reach));
    }
