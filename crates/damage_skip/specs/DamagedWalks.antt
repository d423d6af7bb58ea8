-- Inside. How a walk goes on in a damaged file, told by the numbers of its chunks, and in the front of a file. Own.
use Rattle.std.specs.Prelude.{◌≡◌, ℕ, ◌^◌, ◌<◌, ◌≤◌, Bool, false, Option, None, Result, Ok, IfSome, List, [], ◌∷◌, ◌++◌, length, take}
use Rattle.chunk_header.specs.Chunks.{ChunkValue}
use Rattle.meta_chunk.specs.Files.{IsWellFormed, begin_of}
use Rattle.damage_skip.specs.declared.events.Event.{Event}
use Rattle.damage_skip.specs.declared.events.WalkEnd.{WalkEnd}
use Rattle.damage_skip.specs.declared.progress.Progress.{Progress}
use Rattle.damage_skip.specs.declared.regions.Region.{Region}
use Rattle.damage_skip.specs.Damage.{Intact, IsDamaged, IsNext, AreReached, AreLostUpToABlock, DamageLeavesEach}
use Rattle.damage_skip.specs.FrontPieces.{AreFrontPieces}
use Rattle.damage_skip.specs.Pieces.{Piece, Skipped, AreTiles, events_in}
use Rattle.damage_skip.specs.Walks.{events_of, stop_of}

-- the place is where the chunk of this number begins, which is reached, or the file's end
pub record IsReachedAt (ks : List ChunkValue) (intact : Intact) (place number : ℕ) : Type 0 where
  pub numbers : List ℕ
  pub reached : AreReached ks intact 0 number numbers
  pub begins : place ≡ begin_of ks number

-- a region is what damage leaves of the chunk of this number: it ends where the chunk begins that is reached next
abbrev pub IsLeftRegion : (unread_ok : Bool) → List ChunkValue → Intact → ℕ → Region → Type 0
IsLeftRegion unread_ok ks intact number region =
    (next : ℕ)
    × DamageLeavesEach unread_ok ks intact number next
    (record { begin = region.begin; end = region.end; what = Skipped region.why } ∷ [])

-- a call of a walk goes on from a chunk that is reached to another one: it gives the events among what damage leaves of
-- those reached between, none only at the file's end, and stops at what it leaves of the chunk that the walk came to. The chunks
-- before that one that were not reached are lost up to a block
pub record WalksPastDamage (ks : List ChunkValue) (intact : Intact) (before after : Progress) (result : Result (Option Event) WalkEnd) : Type 0 where
  pub «from» : ℕ
  pub to : ℕ
  pub from_reached : IsReachedAt ks intact before.place «from»
  pub to_reached : IsReachedAt ks intact after.place to
  pub pieces : List Piece
  pub left : DamageLeavesEach before.unread_ok ks intact «from» to pieces
  pub events : events_in pieces ≡ events_of result
  pub ended : result ≡ Ok None → to ≡ length ks
  pub stopped : IfSome (stop_of result) (IsLeftRegion before.unread_ok ks intact to)
  pub lost : AreLostUpToABlock ks intact to to_reached.numbers

-- where the chunk that begins at a place of a damaged file has a changed header, the chunk reached next begins here
abbrev pub LeadsPastDamage : List ℕ → (place to : ℕ) → Type 0
LeadsPastDamage damaged place to =
    (ks : List ChunkValue) (file : List ℕ) (intact : Intact) (j : ℕ)
    → length file ≤ 2 ^ 60 → IsDamaged ks file damaged intact
    → j < length ks → place ≡ begin_of ks j → intact.header j ≡ false
    → (next : ℕ) × IsNext ks intact j next × (to ≡ begin_of ks next)

-- in the front of a file of chunks up to a place a call of a walk goes on from where the pieces end that were passed before: it
-- gives the events among the next ones, none only behind the last piece, and stops at the first that is left
pub record WalksInFront (ks : List ChunkValue) (file : List ℕ) (m : ℕ) (before after : Progress) (result : Result (Option Event) WalkEnd) : Type 0 where
  pub pieces : List Piece
  pub apart : AreFrontPieces before.unread_ok ks file m pieces
  pub passed : List Piece
  pub passed_before : AreTiles before.unread_ok (take m file) 0 before.place passed
  pub given : List Piece
  pub passes : AreTiles before.unread_ok (take m file) before.place after.place given
  pub left : List Piece
  pub are : pieces ≡ passed ++ (given ++ left)
  pub events : events_in given ≡ events_of result
  pub ended : result ≡ Ok None → left ≡ []
  pub stopped : IfSome (stop_of result)
      (λ region. (rest : List Piece) × (left ≡ record { begin = region.begin; end = region.end; what = Skipped region.why } ∷ rest))

-- a call of a walk in a file that may be what damage leaves of one of chunks, or the front of one
pub record WalksInRemains (file : Option (List ℕ)) (before after : Progress) (result : Result (Option Event) WalkEnd) : Type 0 where
  pub damaged : IfSome file (λ damaged. (ks : List ChunkValue) (whole : List ℕ) (intact : Intact)
      → length whole ≤ 2 ^ 60 → IsDamaged ks whole damaged intact → WalksPastDamage ks intact before after result)
  pub cut : IfSome file (λ front. (ks : List ChunkValue) (whole : List ℕ) (m : ℕ)
      → IsWellFormed ks whole → m ≤ length whole → front ≡ take m whole
      → WalksInFront ks whole m before after result)
