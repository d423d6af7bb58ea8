-- Inside. What is told to C of a piece that was found. Own.
use Rattle.std.specs.Prelude.{◌≡◌, ℕ, true, false, ◌⊎◌, List, [], length}
use Rattle.std.specs.List.{concat}
use Rattle.damage_skip.specs.declared.pieces.NextPiece.{NextPiece}
use Rattle.damage_skip.specs.declared.pieces.Found.{Found}
use Rattle.damage_skip.specs.declared.pieces.Found.TheVariants.{Records, Kept, SignatureOrPadding, Skipped}
use Rattle.riegeli_c.specs.Chunks.{IsTooSmall}
use Rattle.riegeli_c.specs.Reasons.{reason_number}
use Rattle.riegeli_c.specs.declared.recovering.PieceTold.{PieceTold}

-- the number of what it is
abbrev pub what_found : Found → ℕ
what_found (Records records chunk) = 1
what_found (Kept chunk false) = 2
what_found (Kept chunk true) = 3
what_found SignatureOrPadding = 2
what_found (Skipped why) = 4

-- the number of the reason for which it is passed over, 0 where it isn't
abbrev pub why_found : Found → ℕ
why_found (Skipped why) = reason_number why
why_found other = 0

-- the records that it gives
abbrev pub records_found : Found → List (List ℕ)
records_found (Records records chunk) = records
records_found other = []

-- this is told of it
pub record TellsNext (begin : ℕ) (next : NextPiece) (told : PieceTold) : Type 0 where
  pub begins : told.begin ≡ begin
  pub end : told.end ≡ next.end
  pub what : told.what ≡ what_found next.what
  pub why : told.why ≡ why_found next.what
  pub count : told.records ≡ length (records_found next.what)
  pub bytes : told.bytes ≡ length (concat (records_found next.what))

-- the status by which it is told, where memory is enough
abbrev pub IsStatusFound : Found → (values ends : List ℕ) → (status : ℕ) → Type 0
IsStatusFound (Skipped why) values ends status = status ≡ 1
IsStatusFound what values ends status =
    ((status ≡ 0) × (¬ IsTooSmall (records_found what) values ends))
    ⊎ ((status ≡ 4) × IsTooSmall (records_found what) values ends)
