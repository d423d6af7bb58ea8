-- Inside. What a walker is seen as. Own.
use Rattle.std.specs.Prelude.{◌≡◌, false}
use Rattle.damage_skip.specs.declared.progress.Progress.{Progress}
use Rattle.damage_skip.specs.declared.walks.Walker.{Walker}

-- how far it is
abbrev pub progress_of : {F : Type 0} → Walker F → Progress
progress_of walker = walker.progress

-- the test of its policy
abbrev pub test_of : {F : Type 0} → Walker F → F
test_of walker = walker.policy.test

-- a walker is another one, but that it only judges simple chunks
pub record IsJudging {F : Type 0} (before after : Walker F) : Type 0 where
  pub judges : after.progress.decodes ≡ false
  pub same_size : after.progress.size ≡ before.progress.size
  pub same_unread_ok : after.progress.unread_ok ≡ before.progress.unread_ok
  pub same_place : after.progress.place ≡ before.progress.place
  pub same_stopped : after.progress.stopped ≡ before.progress.stopped
  pub same_policy : after.policy ≡ before.policy
