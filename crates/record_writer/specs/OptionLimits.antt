-- Inside. The limits of the options of writing, and of what is written under them. Own.
use Rattle.std.specs.Prelude.{◌≡◌, ℕ, ◌^◌, ◌≤◌, Bool, true}
use Rattle.std.specs.Option.{ForSome}
use Rattle.record_writer.specs.declared.options.WriteOptions.{WriteOptions}

-- the options are within their limits
pub record AreInLimits (options : WriteOptions) : Type 0 where
  pub some_size : 1 ≤ options.size
  pub size : options.size ≤ 2 ^ 24
  pub some_workers : 1 ≤ options.workers
  pub workers : options.workers ≤ 16
  pub some_records : ForSome options.every (λ every. 1 ≤ every)
  pub every : ForSome options.every (λ every. every ≤ 2 ^ 24)

-- records of a feed can be put: it may be asked, what it reads is within reach, and the options are within their limits
pub record MayPut (options : WriteOptions) (is_going : Bool) (bound : ℕ) : Type 0 where
  pub going : is_going ≡ true
  pub in_reach : bound ≤ 2 ^ 41
  pub in_limits : AreInLimits options
