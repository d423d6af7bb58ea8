-- Inside. What a sink took of a repair that it has too little room for. Own.
use Rattle.std.specs.Prelude.{ℕ, ◌<◌, true, Option, Some, IfSome, List, length}
use Rattle.damage_skip.specs.Bounds.{walked}
use Rattle.damage_skip.specs.Pieces.{Piece, AreEvents}

-- of a file's events those before the first region of more than so many bytes have more bytes than were taken, if it is shown what was
pub record TakesLess (bytes_of : List Piece → List ℕ) (file : List ℕ) (most : ℕ) (taken : Option (List ℕ)) : Type 0 where
  pub events : List Piece
  pub are : AreEvents true file events
  pub less : IfSome taken (λ bytes. length bytes < length (bytes_of (walked (Some most) events)))
