-- Promise. What a collector takes at most. Own.
use Rattle.std.specs.Prelude.{ℕ, ◌^◌}

-- how much the collected records may cost together
abbrev pub limit : ℕ
limit = 2 ^ 26
