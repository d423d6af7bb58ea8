-- Inside. How reading ends before it is done. Own.
use Rattle.std.specs.Prelude.{◌≡◌, ◌⊎◌, List, [], ◌∷◌}
use Rattle.chunk_reader.specs.declared.reasons.VerifyEnd.{VerifyEnd}
use Rattle.chunk_reader.specs.declared.reasons.Why.{Why}
use Rattle.chunk_reader.specs.declared.reasons.VerifyEnd.TheVariants as verify
use Rattle.chunk_reader.specs.declared.reasons.ReadEnd.{ReadEnd}
use Rattle.chunk_reader.specs.declared.reasons.ReadEnd.TheVariants as read

-- an end that takes no memory, as one that may
abbrev pub read_end_of : VerifyEnd → ReadEnd
read_end_of (verify.Refused fault) = read.Refused fault
read_end_of verify.Store = read.Store

-- it is one of the reasons
abbrev pub IsOneOf : List Why → Why → Type 0
IsOneOf [] w = ⊥
IsOneOf (known ∷ reasons) w = (w ≡ known) ⊎ IsOneOf reasons w
