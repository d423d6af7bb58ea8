-- Groups that close while records of a feed are taken.
use Rattle.std.proofs.Common.{◌≡◌, ◌≢◌, ◌∙◌, ℕ, ◌+◌, ◌<◌, ◌≤◌, Bool, true, Option, Ok, Err, List, [], ◌++◌, length, refl, arith}
use Rattle.std.specs.Option.{option_to_list}
use Rattle.record_io.specs.Calls.{OnlyCounts}
use Rattle.meta_chunk.specs.Files.{end_of_chunks}
use Rattle.simple_chunk.specs.Costs.{cost_of}
use Rattle.record_group.specs.Groupings.{Grouping, IsPush}
use Rattle.record_writer.specs.declared.cut_off.CutOff.{CutOff}
use Rattle.record_writer.specs.declared.cut_off.CutOff.TheVariants as cut
use Rattle.record_writer.specs.declared.group_taker.FeedPart.TheVariants.{Window}
use Rattle.record_writer.specs.Feeds.{Rest}
use Rattle.record_writer.specs.FeedSteps.{GivesNext, ReadsNothing}
use Rattle.record_writer.specs.MadeFiles.{AreGiven, chunks_of_groups, reach_of}
use Rattle.record_writer.specs.Windows.{TakesGroups}
use Rattle.record_writer.proofs.Given.{AreGiven-push}
use Rattle.record_writer.proofs.Windows.{AreGiven-front, AreGiven-no_more, OnlyCounts-behind}

-- groups were given of a feed, which has no more left then
pub record TakesSome {L N : Type 0} (rest : L → Option Rest) (bound : L → ℕ) (origin : L → N) (faults : L → ℕ)
    (before after : L) (old new : Grouping) (given : List (List (List ℕ))) : Type 0 where
  pub given_of : AreGiven (rest before) (rest after) old new given
  pub in_reach : (place : ℕ) → reach_of (end_of_chunks place (chunks_of_groups given)) new (bound after) ≤ reach_of place old (bound before)
  pub lowers : bound after ≤ bound before
  pub counts : OnlyCounts origin faults ⊥ before after

module _ (L N : Type 0) (rest : L → Option Rest) (bound : L → ℕ) (going : L → Bool) (origin : L → N) (faults : L → ℕ) where
  -- also once the records that it held were taken
  pub TakesSome-held : (a b c : L) (old between new : Grouping) (given all : List (List (List ℕ)))
      → TakesSome rest bound origin faults a b old between given → AreGiven (rest b) (rest c) between new [] → all ≡ given
      → bound c ≤ bound b → ((place : ℕ) → reach_of place new (bound c) ≤ reach_of place between (bound b)) → ReadsNothing going origin faults b c
      → TakesSome rest bound origin faults a c old new all
  TakesSome-held a b c old between new given all h held same lowers reach keeps = record {
    given_of = rw same (AreGiven-no_more (rest a) (rest b) (rest c) old between new given h.given_of held);
    in_reach = λ place. rw same
        (omega (arith, h.in_reach place, reach (end_of_chunks place (chunks_of_groups given))));
    lowers = omega (arith, h.lowers, lowers);
    counts = record {
      same_lent = keeps.same_origin ∙ h.counts.same_lent;
      cause = λ fails. absurd fails;
      never_falls = omega (arith, h.counts.never_falls, keeps.same_faults);
      small = λ below. omega (arith, h.counts.small below, keeps.same_faults);
    };
  }

  -- and once one more was pulled
  pub TakesSome-record : (a b c : L) (old between new : Grouping) (given all : List (List (List ℕ))) (record_bytes : List ℕ) (closed : Option (List (List ℕ))) (P : Type 0)
      → TakesSome rest bound origin faults a b old between given → GivesNext (rest b) (rest c) (bound b) (bound c) record_bytes
      → OnlyCounts origin faults P b c → (P → ⊥)
      → IsPush between record_bytes closed new → all ≡ given ++ option_to_list closed
      → ((place : ℕ) → reach_of (end_of_chunks place (chunks_of_groups all)) new 0
      ≤ reach_of (end_of_chunks place (chunks_of_groups given)) between (length record_bytes + 1))
      → TakesSome rest bound origin faults a c old new all
  TakesSome-record a b c old between new given all record_bytes closed P h gives counts none push is reach = record {
    given_of = rw is (AreGiven-push (rest a) (rest b) (rest c) old between new given record_bytes closed h.given_of gives.next push);
    in_reach = λ place. omega (arith, h.in_reach place, reach place, gives.lowers);
    lowers = omega (arith, h.lowers, gives.lowers);
    counts = record {
      same_lent = counts.same_lent ∙ h.counts.same_lent;
      cause = λ fails. absurd fails;
      never_falls = omega (arith, h.counts.never_falls, counts.never_falls);
      small = λ below. counts.small (h.counts.small below);
    };
  }

  -- they fill a window
  pub TakesGroups-window : (a b c : L) (old new : Grouping) (given : List (List (List ℕ)))
      → TakesSome rest bound origin faults a c old new given → bound b ≤ bound a → bound c < bound b → going c ≡ true
      → TakesGroups rest bound going origin faults a c old new given (Ok Window)
  TakesGroups-window a b c old new given h not_more less goes_on = record {
    given_of = h.given_of;
    may_go_on = λ _. goes_on;
    lowers = λ _. omega (arith, not_more, less);
    in_reach = h.in_reach;
    drained = λ is. cc is;
    counts = record {
      same_lent = h.counts.same_lent;
      cause = λ fails. cc fails;
      never_falls = h.counts.never_falls;
      small = h.counts.small;
    };
    no_sink = λ is. cc is;
  }

  -- or are what was taken before the work was cut off, also where fewer records are in the open group
  pub TakesGroups-cut_off : (a b c : L) (old between new : Grouping) (given : List (List (List ℕ))) (end : CutOff) (P : Type 0)
      → TakesSome rest bound origin faults a b old between given → bound c ≤ bound b → OnlyCounts origin faults P b c → (end ≡ cut.Input → P)
      → end ≢ cut.Made → cost_of new.group ≤ cost_of between.group
      → TakesGroups rest bound going origin faults a c old new given (Err end)
  TakesGroups-cut_off a b c old between new given end P h not_more counts fails no_sink less = record {
    given_of = AreGiven-front (rest a) (rest b) old between given h.given_of;
    may_go_on = λ is. cc is;
    lowers = λ is. cc is;
    in_reach = λ place. omega (arith, h.in_reach place, not_more, less);
    drained = λ is. cc is;
    counts =
        let both = OnlyCounts-behind origin faults ⊥ P a b c h.counts counts in
        record {
          same_lent = both.same_lent;
          cause = λ is. both.cause (fails (cc is));
          never_falls = both.never_falls;
          small = both.small;
        };
    no_sink = λ is. no_sink (cc is);
  }

-- a feed of which nothing more is asked
pub OnlyCounts-none : {L N : Type 0} (origin : L → N) (faults : L → ℕ) (a : L) → OnlyCounts origin faults ⊥ a a
OnlyCounts-none origin faults a = record {
  same_lent = refl;
  cause = λ fails. absurd fails;
  never_falls = omega arith;
  small = λ below. below;
}
