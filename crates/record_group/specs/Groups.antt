-- Promise. How records are grouped into chunks, and the file of records. Own.
use Rattle.std.specs.Prelude.{ℕ, ◌+◌, Bool, true, false, not, ◌&&◌, ◌||◌, Option, Some, None, List, [], ◌∷◌, ◌++◌, length, map, nat_lt, ◌==◌, if◌then◌else◌}
use Rattle.chunk_header.specs.SimpleChunks.{simple_chunk}
use Rattle.chunk_header.specs.Chunks.{ChunkValue}
use Rattle.simple_chunk.specs.Costs.{cost, cost_of}
use Rattle.meta_chunk.specs.Laid.{end_of_chunk}
use Rattle.meta_chunk.specs.Files.{signature, end_of_chunks, laid_each}
use Rattle.meta_chunk.specs.PaddingSizes.{padding_at}
use Rattle.record_group.specs.declared.pad.Pad.{Pad}
use Rattle.record_group.specs.declared.pad.Pad.TheVariants.{No, Start, End, Both}

-- whether a group of so many records has as many as are wanted in each, where a number is wanted
abbrev pub is_full : Option ℕ → ℕ → Bool
is_full None count = false
is_full (Some every) count = count == every

-- a group closes before a record with which it would pass the size, or that it has no place for, unless it is empty
abbrev pub closes_before : ℕ → Option ℕ → List (List ℕ) → List ℕ → Bool
closes_before size every group record_bytes =
    not (length group == 0) && (nat_lt size (cost_of group + cost record_bytes) || is_full every (length group))

-- the groups of the records that follow an open group; the last group closes at the end, unless it is empty
abbrev pub groups_after : ℕ → Option ℕ → List (List ℕ) → List (List ℕ) → List (List (List ℕ))
groups_after size every group [] = if length group == 0 then [] else group ∷ []
groups_after size every group (record_bytes ∷ records) =
    if closes_before size every group record_bytes
    then group ∷ groups_after size every (record_bytes ∷ []) records
    else groups_after size every (group ++ record_bytes ∷ []) records

-- the groups of records, for a chunk size and maybe a number of records in each
unfoldable pub groups : List (List ℕ) → ℕ → Option ℕ → List (List (List ℕ))
groups records size every = groups_after size every [] records

-- where padding is wanted: before the first chunk of records, and behind the last
abbrev pub pads_start : Pad → Bool
pads_start No = false
pads_start Start = true
pads_start End = false
pads_start Both = true

abbrev pub pads_end : Pad → Bool
pads_end No = false
pads_end Start = false
pads_end End = true
pads_end Both = true

-- the padding from a place to a block, where it is wanted
abbrev pub padding_if : Bool → ℕ → List ChunkValue
padding_if wanted place = if wanted then padding_at place else []

-- the padding before the chunks of records
abbrev pub front_padding : ℕ → Pad → List ChunkValue
front_padding place pad = padding_if (pads_start pad) place

-- that padding, and a simple chunk for each group
abbrev pub front_chunks : ℕ → List (List ℕ) → ℕ → Option ℕ → Pad → List ChunkValue
front_chunks place records size every pad = front_padding place pad ++ map simple_chunk (groups records size every)

-- the padding behind these
abbrev pub end_padding : ℕ → List (List ℕ) → ℕ → Option ℕ → Pad → List ChunkValue
end_padding place records size every pad = padding_if (pads_end pad) (end_of_chunks place (front_chunks place records size every pad))

-- the chunks of records from a place on: padding, a simple chunk for each group, and padding
abbrev pub record_chunks : ℕ → List (List ℕ) → ℕ → Option ℕ → Pad → List ChunkValue
record_chunks place records size every pad =
    front_chunks place records size every pad ++ end_padding place records size every pad

-- the chunks of the file of records: the signature, and those of the records behind it
abbrev pub chunks_of : List (List ℕ) → ℕ → Option ℕ → Pad → List ChunkValue
chunks_of records size every pad = signature ∷ record_chunks (end_of_chunk 0 signature) records size every pad

-- the file of records, as one thread writes it
unfoldable pub file_of : List (List ℕ) → ℕ → Option ℕ → Pad → List ℕ
file_of records size every pad = laid_each 0 (chunks_of records size every pad)
