-- Inside. The lists of records that the chunks of a file of records hold. Own.
use Rattle.std.specs.Prelude.{ℕ, Option, List, [], ◌++◌, map}
use Rattle.chunk_header.specs.Chunks.{ChunkValue}
use Rattle.record_group.specs.declared.pad.Pad.{Pad}
use Rattle.record_group.specs.Groups.{groups, front_padding, end_padding}

-- for each of some chunks no records
abbrev pub no_records : List ChunkValue → List (List (List ℕ))
no_records = map (λ k. [])

-- the lists of records that the chunks of records hold: none for padding, and each group for its own chunk
abbrev pub lists_held : ℕ → List (List ℕ) → ℕ → Option ℕ → Pad → List (List (List ℕ))
lists_held place records size every pad =
    no_records (front_padding place pad)
    ++ groups records size every
    ++ no_records (end_padding place records size every pad)
