-- Promise. What is written for C: the chunks of records from a place on. Own.
use Rattle.std.specs.Prelude.{◌≡◌, ℕ, ◌+◌, ◌-◌, ◌^◌, ◌≤◌, ◌⊎◌, Bool, true, false, ◌&&◌, Option, Some, None, List, [], ◌∷◌, ◌++◌, length, map, take, ◌==◌, if◌then◌else◌}
use Rattle.std.specs.List.{flat_map}
use Rattle.block_layout.specs.Layout.{IsBoundary}
use Rattle.chunk_header.specs.Chunks.{ChunkValue}
use Rattle.chunk_header.specs.SimpleChunks.{simple_chunk}
use Rattle.meta_chunk.specs.Files.{signature, end_of_chunks}
use Rattle.simple_chunk.specs.Records.{parts_from}
use Rattle.record_group.specs.declared.pad.Pad.{Pad}
use Rattle.record_group.specs.declared.pad.Pad.TheVariants.{No, Start, End, Both}
use Rattle.record_group.specs.Groups.{groups, pads_end, padding_if, front_padding}
use Rattle.riegeli_c.specs.declared.writing.OptionsTold.{OptionsTold}
use Rattle.riegeli_c.specs.declared.writing.WrittenTold.{WrittenTold}

-- how many records are wanted in each chunk: 0 tells of no number
abbrev pub every_told : ℕ → Option ℕ
every_told count = if count == 0 then None else Some count

-- where padding is wanted: 1 before the chunks of records, 2 behind them, 3 both
abbrev pub pad_told : ℕ → Pad
pad_told number = if number == 1 then Start else (if number == 2 then End else (if number == 3 then Both else No))

-- the records that lie one behind another among values, and end at these places of them
abbrev pub records_cut : (values ends : List ℕ) → List (List ℕ)
records_cut values ends = parts_from 0 ends values

-- of records that begin at a place of values none ends before it begins or behind the last of so many values, or has more than
-- 2 ^ 24 bytes
abbrev pub AreCuts : (begin : ℕ) → (ends : List ℕ) → (size : ℕ) → Type 0
AreCuts begin [] size = Unit {0}
AreCuts begin (end ∷ ends) size = (begin ≤ end) × (end ≤ size) × (end ≤ begin + 2 ^ 24) × AreCuts end ends size

-- options within their limits
pub record AreGoodOptions (options : OptionsTold) : Type 0 where
  pub some_size : 1 ≤ options.chunk
  pub size : options.chunk ≤ 2 ^ 24
  pub every : options.every ≤ 2 ^ 24
  pub pad : options.pad ≤ 3

-- a place that can be written at: a chunk may begin there, at a file's front or behind its signature, at most at 2 ^ 60
pub record IsGoodPlace (place : ℕ) : Type 0 where
  pub boundary : IsBoundary place
  pub behind : (place ≡ 0) ⊎ (64 ≤ place)
  pub near : place ≤ 2 ^ 60

-- the arguments are good: options, place, whether no record follows, and at most 2 ^ 48 values with at most as many records that lie
-- among them
pub record MayWrite (values ends : List ℕ) (options : OptionsTold) (place last : ℕ) : Type 0 where
  pub good_options : AreGoodOptions options
  pub good_place : IsGoodPlace place
  pub flag : last ≤ 1
  pub few_values : length values ≤ 2 ^ 48
  pub few_records : length ends ≤ 2 ^ 48
  pub cuts : AreCuts 0 ends (length values)

-- of groups those that are laid: all, where no record follows, and else all but the last, which stays open
abbrev pub groups_laid : (last : Bool) → List (List (List ℕ)) → List (List (List ℕ))
groups_laid true gs = gs
groups_laid false gs = take (length gs - 1) gs

-- of records those that are laid: the ones of these groups
abbrev pub records_laid : List (List ℕ) → (size : ℕ) → (every : Option ℕ) → (last : Bool) → List (List ℕ)
records_laid records size every last = flat_map (λ group. group) (groups_laid last (groups records size every))

-- the signature, at a file's front
abbrev pub signature_at : ℕ → List ChunkValue
signature_at place = if place == 0 then signature ∷ [] else []

-- what stands before the chunks of records: the signature, and the padding that is wanted there
abbrev pub first_laid : ℕ → Pad → List ChunkValue
first_laid place pad = signature_at place ++ front_padding (end_of_chunks place (signature_at place)) pad

-- these, and a simple chunk for each group that is laid
abbrev pub grouped_laid : ℕ → List (List ℕ) → (size : ℕ) → (every : Option ℕ) → Pad → (last : Bool) → List ChunkValue
grouped_laid place records size every pad last =
    first_laid place pad ++ map simple_chunk (groups_laid last (groups records size every))

-- the chunks that are laid from a place on: these, and where no record follows the padding that is wanted behind them
abbrev pub chunks_laid : ℕ → List (List ℕ) → (size : ℕ) → (every : Option ℕ) → Pad → (last : Bool) → List ChunkValue
chunks_laid place records size every pad last =
    grouped_laid place records size every pad last
    ++ padding_if (last && pads_end pad) (end_of_chunks place (grouped_laid place records size every pad last))

-- the same as it is told
abbrev pub chunks_told : ℕ → List (List ℕ) → OptionsTold → (last : ℕ) → List ChunkValue
chunks_told place records options last =
    chunks_laid place records options.chunk (every_told options.every) (pad_told options.pad) (last == 1)

-- what is told of them: where they end, and how many of the records they hold
pub record TellsWritten (place : ℕ) (records : List (List ℕ)) (options : OptionsTold) (last : ℕ) (told : WrittenTold) : Type 0 where
  pub end : told.end ≡ end_of_chunks place (chunks_told place records options last)
  pub count : told.records ≡ length (records_laid records options.chunk (every_told options.every) (last == 1))
