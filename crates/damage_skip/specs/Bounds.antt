-- Promise. Which regions are skipped where their bytes are bounded, and which events come before one that isn't. Own.
use Rattle.std.specs.Prelude.{◌≡◌, ℕ, ◌-◌, Bool, true, false, not, Option, Some, None, List, nat_le}
use Rattle.std.specs.List.{before_first, find}
use Rattle.damage_skip.specs.Pieces.{Piece}
use Rattle.damage_skip.specs.Regions.{region_of, regions_in}
use Rattle.damage_skip.specs.declared.regions.Region.{Region}

-- whether a region may be skipped: where its bytes are bounded it has at most so many
abbrev pub may_skip : Option ℕ → Region → Bool
may_skip None region = true
may_skip (Some most) region = nat_le (region.end - region.begin) most

-- a region that may be skipped
abbrev pub MaySkip : Option ℕ → Region → Type 0
MaySkip most region = may_skip most region ≡ true

-- whether an event is refused: it is a region that may not be skipped
abbrev pub is_refused_as : Option ℕ → Option Region → Bool
is_refused_as most None = false
is_refused_as most (Some region) = not (may_skip most region)

abbrev pub is_refused : Option ℕ → Piece → Bool
is_refused most event = is_refused_as most (region_of event)

-- the events before the first one that is refused
abbrev pub walked : Option ℕ → List Piece → List Piece
walked most events = before_first (is_refused most) events

-- the region that is refused, if there is one
abbrev pub refused_in : Option ℕ → List Piece → Option Region
refused_in most events = find (λ region. not (may_skip most region)) (regions_in events)
