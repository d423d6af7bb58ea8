-- Promise. Faults as they are told to C. Own.
use Rattle.std.specs.Prelude.{◌≡◌, ℕ, true, ◌⊎◌, List}
use Rattle.chunk_reader.specs.Faults.{BeginsWithSignature, IsVerdict}
use Rattle.chunk_reader.specs.declared.reasons.Fault.{Fault}
use Rattle.chunk_reader.specs.declared.reasons.Why.TheVariants.{NoSignature}
use Rattle.riegeli_c.specs.Reasons.{reason_number}
use Rattle.riegeli_c.specs.declared.faults.FaultAt.{FaultAt}

-- this is a fault of which P holds
abbrev pub TellsFault : (Fault → Type 0) → FaultAt → Type 0
TellsFault P told = (fault : Fault) × P fault × (told.place ≡ fault.at) × (told.why ≡ reason_number fault.why)

-- the fault of what stands at a place of a file: at 0 that the file doesn't begin as files do, or else the strict verdict on the
-- chunk there
abbrev pub IsFaultThere : List ℕ → ℕ → Fault → Type 0
IsFaultThere file place fault =
    ((place ≡ 0) × (¬ BeginsWithSignature file) × (fault ≡ record { at = 0; why = NoSignature }))
    ⊎ ((place ≡ 0 → BeginsWithSignature file) × IsVerdict true file place fault)
