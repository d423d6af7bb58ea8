use Rattle.std.proofs.Common.{rules, ◌≡◌, ◌≤◌, ◌∷◌, Some, All, ℕ, List, length, sym, subst, arith}
use Rattle.std.specs.List.{flat_map, slice_get}
use Rattle.record_writer.proofs.ListFeeds.{all_behind, drop-next, in_first, short_next}
use Rattle.record_writer.proofs.records_feed.RecordsFeed.next_record.Goals as goal

pub returns-then-self-len-clause-some : goal.returns-then-self-len-clause-some
returns-then-self-len-clause-some c =
    let is : c.loop-first.self.lists.now ≡ c.in-Some.first.now ∷ c.in-Some.behind.now = search rules in
    let all : List (List ℕ) = flat_map (λ (l : List (List ℕ)). l) c.loop-first.self.lists.now in
    let there : slice_get all c.loop-first.self.at ≡ Some c.get.result.now =
    subst (λ (ls : List (List (List ℕ))). slice_get (flat_map (λ (l : List (List ℕ)). l) ls) c.loop-first.self.at ≡ Some c.get.result.now) (sym is)
    (in_first c.in-Some.first.now c.in-Some.behind.now c.loop-first.self.at c.get.result.now c.get.ensures) in
    drop-next all c.loop-first.self.at c.get.result.now there

pub returns-then-self-len-clause-short : goal.returns-then-self-len-clause-short
returns-then-self-len-clause-short c =
    let is : c.loop-first.self.lists.now ≡ c.in-Some.first.now ∷ c.in-Some.behind.now = search rules in
    let all : List (List ℕ) = flat_map (λ (l : List (List ℕ)). l) c.loop-first.self.lists.now in
    let there : slice_get all c.loop-first.self.at ≡ Some c.get.result.now =
    subst (λ (ls : List (List (List ℕ))). slice_get (flat_map (λ (l : List (List ℕ)). l) ls) c.loop-first.self.at ≡ Some c.get.result.now) (sym is)
    (in_first c.in-Some.first.now c.in-Some.behind.now c.loop-first.self.at c.get.result.now c.get.ensures) in
    short_next all c.loop-first.self.at c.get.result.now c.loop-first.self.short there

pub invariant_of-self : goal.invariant_of-self
invariant_of-self c =
    let is : c.loop-first.self.lists.now ≡ c.in-Some.first.now ∷ c.in-Some.behind.now = search rules in
    record {
      short = all_behind (λ (r : List ℕ). length r ≤ 16777216) c.in-Some.first.now c.in-Some.behind.now
          (subst (λ (ls : List (List (List ℕ))). All (λ (r : List ℕ). length r ≤ 16777216) (flat_map (λ (l : List (List ℕ)). l) ls)) is c.loop-first.self.short);
      within = omega arith;
    }
