-- Inside. What is appended where there is room for it. Own.
use Rattle.std.specs.Prelude.{◌≡◌, ℕ, ◌≤◌, List, ◌++◌}

-- these bytes are appended, and no room is lost
pub record Appends (bytes before after : List ℕ) (room_before room_after : ℕ) : Type 0 where
  pub items : after ≡ before ++ bytes
  pub room : room_before ≤ room_after
