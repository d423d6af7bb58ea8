-- Promise. Regions of a file that are passed over, and the lines that tell of them. Own.
use Rattle.std.specs.Prelude.{ℕ, Bool, Option, Some, None, List, [], ◌∷◌, ◌++◌, decimal}
use Rattle.std.specs.List.{AllByRecursion, filter_map, flat_map}
use lib.Chars.{codes}
use Rattle.chunk_reader.specs.Names.{name_of}
use Rattle.damage_skip.specs.Pieces.{PieceKind, Skipped, Piece, GoesOn}
use Rattle.damage_skip.specs.declared.regions.Region.{Region}

-- the line that tells a region, behind a word
abbrev pub region_text : List ℕ → Region → List ℕ
region_text word region =
    word ++ 32 ∷ decimal region.begin ++ 32 ∷ decimal region.end ++ 32 ∷ name_of region.why ++ 10 ∷ []

-- the region that a piece is, if it is one
abbrev pub region_as : (begin end : ℕ) → PieceKind → Option Region
region_as begin end (Skipped why) = Some (record { begin = begin; end = end; why = why })
region_as begin end other = None

abbrev pub region_of : Piece → Option Region
region_of piece = region_as piece.begin piece.end piece.what

-- the regions among pieces
abbrev pub regions_in : List Piece → List Region
regions_in pieces = filter_map region_of pieces

-- the line of a region that is skipped, if there is one
abbrev pub told_text : Option Region → List ℕ
told_text None = []
told_text (Some region) = region_text (codes "skipped") region

-- the lines of regions that are skipped
abbrev pub skipped_text : List Region → List ℕ
skipped_text regions = flat_map (region_text (codes "skipped")) regions

-- the line of the region at which a walk stopped, if it did
abbrev pub stopped_text : Option Region → List ℕ
stopped_text None = []
stopped_text (Some region) = region_text (codes "stopped") region

-- what is said of a walk: the lines of the regions that it skipped, and that of the one at which it stopped
abbrev pub walk_text : List Region → Option Region → List ℕ
walk_text skipped stopped = skipped_text skipped ++ stopped_text stopped

-- the events of the front of a file up to a place, of which each region is one that P holds of
pub record IsWalkedTo (unread_ok : Bool) (P : Region → Type 0) (file : List ℕ) (place : ℕ)
    (events : List Piece) : Type 0 where
  pub walked : GoesOn unread_ok file 0 place events
  pub each : AllByRecursion P (regions_in events)
