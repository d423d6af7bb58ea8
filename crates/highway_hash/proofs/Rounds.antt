-- The rounds of the finish, one after another.
use Rattle.std.proofs.Common.{ℕ, zero, suc}
use Rattle.highway_hash.specs.HighwayHash.{HashState, finishing_round}

-- the state after n finishing rounds
abbrev pub after_rounds : HashState → ℕ → HashState
after_rounds s zero = s
after_rounds s (suc n) = finishing_round (after_rounds s n)
