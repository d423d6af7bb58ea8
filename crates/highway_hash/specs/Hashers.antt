-- Inside. What a hasher of pieces has taken so far. Own.
use Rattle.std.specs.Prelude.{ℕ, ◌*◌, ◌/◌, List, drop, length}
use Rattle.highway_hash.specs.HighwayHash.{HashState, after_packets}

-- the state after all whole packets, and the bytes behind them
pub record HasherValue : Type 0 where
  pub state : HashState
  pub held : List ℕ

-- the hasher that has taken these bytes under a key of four words
unfoldable pub hasher_of : List ℕ → List ℕ → HasherValue
hasher_of key bytes =
    let packets = length bytes / 32 in
    record {
      state = after_packets key bytes packets;
      held = drop (32 * packets) bytes;
    }
