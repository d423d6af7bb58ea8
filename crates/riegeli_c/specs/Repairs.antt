-- Promise. What a repair gives, as it is told to C. Own.
use Rattle.std.specs.Prelude.{◌≡◌, ℕ, ◌*◌, ◌-◌, ◌^◌, ◌<◌, ◌⊎◌, min, true, Option, Some, List, length, take}
use Rattle.damage_skip.specs.Bounds.{walked, refused_in}
use Rattle.damage_skip.specs.Pieces.{Piece, AreEvents}
use Rattle.damage_skip.specs.Regions.{regions_in, skipped_text, IsWalkedTo}
use Rattle.damage_skip.specs.declared.regions.Region.{Region}
use Rattle.repair_copy.specs.RelaidFiles.{relaid}
use Rattle.chunk_reader.specs.Reasons.{Applies, NoneOf, loading_reasons}
use Rattle.riegeli_c.specs.Reasons.{reason_number}
use Rattle.riegeli_c.specs.declared.repairing.RegionTold.{RegionTold}
use Rattle.riegeli_c.specs.declared.repairing.RepairTold.{RepairTold}

-- of a file's events, those before the first region of more than so many bytes, which is this one, if there is one, and what was
-- taken of them: their file, and the lines of their regions
pub record TakesRepair (file : List ℕ) (most : ℕ) (refused : Option Region) (made lines : Option (List ℕ)) : Type 0 where
  pub events : List Piece
  pub are : AreEvents true file events
  pub refused_first : refused_in (Some most) events ≡ refused
  pub made_of : made ≡ Some (relaid (walked (Some most) events))
  pub lines_of : lines ≡ Some (skipped_text (regions_in (walked (Some most) events)))

-- the same in room, of which so much is used
abbrev pub GivesRepair : (file : List ℕ) (most : ℕ) (refused : Option Region) → RepairTold → (made lines : List ℕ) → Type 0
GivesRepair file most refused told made lines =
    TakesRepair file most refused (Some (take told.bytes made)) (Some (take told.lines lines))

-- up to a region that is told
pub record StopsRepair (file : List ℕ) (most : ℕ) (region : RegionTold) (told : RepairTold) (made lines : List ℕ) : Type 0 where
  pub refused : Region
  pub gives : GivesRepair file most (Some refused) told made lines
  pub begin : region.begin ≡ refused.begin
  pub end : region.end ≡ refused.end
  pub why : region.why ≡ reason_number refused.why

-- how much room is enough for all events of a file: for their file, and 64 bytes for the line of each region
pub record MeasuresRepair (file : List ℕ) (told : RepairTold) : Type 0 where
  pub events : List Piece
  pub are : AreEvents true file events
  pub bytes : told.bytes ≡ length (relaid events)
  pub lines : told.lines ≡ min (length (regions_in events) * 64) (2 ^ 64 - 1)

-- the lines of the regions among events
abbrev pub told_lines : List Piece → List ℕ
told_lines events = skipped_text (regions_in events)

-- the file of these events, or the lines of their regions, have more bytes than there is room for
pub record ExceedsRoom (file : List ℕ) (most made lines : ℕ) : Type 0 where
  pub events : List Piece
  pub are : AreEvents true file events
  pub exceeds : (made < length (relaid (walked (Some most) events)))
      ⊎ (lines < length (told_lines (walked (Some most) events)))

-- a walk past regions of which P holds comes to a chunk that can be loaded: none of the reasons
-- applies by which a chunk is refused before its data is read
pub record LoadsWalkedChunk (P : Region → Type 0) (file : List ℕ) : Type 0 where
  pub place : ℕ
  pub events : List Piece
  pub walked_to : IsWalkedTo true P file place events
  pub may_load : NoneOf (Applies file place) loading_reasons
