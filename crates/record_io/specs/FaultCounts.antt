-- Inside. How a count of faults goes on. Own.
use Rattle.std.specs.Prelude.{◌≡◌, ℕ, ◌+◌, ◌-◌, ◌^◌, ◌<◌, ◌≤◌, min, Result, is_err, if◌then◌else◌}

-- a count after one more; at its greatest it stays
abbrev pub one_more : ℕ → ℕ
one_more count = min (count + 1) (2 ^ 64 - 1)

-- one fault more is counted
pub record AddsFault (before after : ℕ) : Type 0 where
  pub counted : after ≡ one_more before
  pub never_falls : before ≤ after
  pub small : after < 2 ^ 64

-- a count of faults after a call that gave this result, and counts one fault where it failed
abbrev pub faults_after : {X E : Type 0} → Result X E → ℕ → ℕ
faults_after result before = if is_err result then one_more before else before
