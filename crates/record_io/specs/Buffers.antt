-- Inside. What a buffer beside a sink passes on and holds. Own.
use Rattle.std.specs.Prelude.{◌≡◌, ℕ, Option, List, ◌++◌}
use Rattle.record_io.specs.Outside.{Takes}
use Rattle.record_io.specs.Puts.{Stream, Put, Taken, GoOut, puts_to}

-- of these bytes a sink took a front, where it shows what it takes, and the rest is held
pub record TakesAndHolds (before after : Option (List ℕ)) (bytes held : List ℕ) : Type 0 where
  pub passed : List ℕ
  pub parts : bytes ≡ passed ++ held
  pub taken : Takes before after passed

-- what is put went out, but for the last bytes, which go to a stream and are held
pub record GoOutOrAreHeld (before after : Taken) (stream : Stream) (puts : List Put) (held : List ℕ) : Type 0 where
  pub passed : List Put
  pub parts : puts ≡ passed ++ puts_to stream held
  pub went : GoOut before after passed
