-- Inside. The chunk that the next record goes into, as its place is counted. Own.
use Rattle.std.specs.Prelude.{◌≡◌, ℕ, ◌+◌, ◌*◌, ◌≤◌, List, [], ◌∷◌, ◌++◌, Bool, not, ◌&&◌, ◌==◌, length, nat_lt, if◌then◌else◌}
use Rattle.varint_wire.specs.Varint.{shortest}
use Rattle.block_layout.specs.Layout.{chunk_header_size, IsBoundary, chunk_end_of}
use Rattle.record_collect.specs.declared.file_places.OpenChunk.{OpenChunk}

-- a chunk of no records yet
abbrev pub opened_at : ℕ → OpenChunk
opened_at begin = record { begin = begin; records = 0; sizes = 0; values = 0 }

-- it, with one more record of so many bytes
abbrev pub with_record : ℕ → OpenChunk → OpenChunk
with_record len chunk = record chunk { records = chunk.records + 1; sizes = chunk.sizes + length (shortest len); values = chunk.values + len }

-- where it ends
abbrev pub end_of_open : OpenChunk → ℕ
end_of_open chunk = chunk_end_of chunk.begin (chunk_header_size + (1 + length (shortest chunk.sizes) + chunk.sizes + chunk.values)) chunk.records

-- whether it closes before a record of so many bytes
abbrev pub closes : ℕ → ℕ → OpenChunk → Bool
closes size len chunk = not (chunk.records == 0) && nat_lt size (chunk.values + 8 * chunk.records + (len + 8))

-- the chunk that such a record goes into
abbrev pub ready_for : ℕ → ℕ → OpenChunk → OpenChunk
ready_for size len chunk = if closes size len chunk then opened_at (end_of_open chunk) else chunk

-- the position of the next record of a chunk
abbrev pub next_place : OpenChunk → ℕ
next_place chunk = chunk.begin + chunk.records

-- the chunk begins at a boundary, and each size takes from 1 to 10 bytes
pub record IsSound (chunk : OpenChunk) : Type 0 where
  pub boundary : IsBoundary chunk.begin
  pub some : chunk.records ≤ chunk.sizes
  pub few : chunk.sizes ≤ 10 * chunk.records

-- how far it reaches, at most, if it has a record
abbrev pub reach : OpenChunk → ℕ
reach chunk = chunk.begin + 23 * (chunk.values + 8 * chunk.records)

-- the positions that records get, one after another
abbrev pub places_from : ℕ → OpenChunk → List (List ℕ) → List ℕ
places_from size chunk [] = []
places_from size chunk (r ∷ rs) =
    let ready : OpenChunk = ready_for size (length r) chunk in
    next_place ready ∷ places_from size (with_record (length r) ready) rs

-- the positions of records were put behind those before, and whatever records follow get theirs from then on
pub record PlacesOn (size : ℕ) (old : OpenChunk) (before : List ℕ) (records : List (List ℕ)) (new : OpenChunk) (after : List ℕ) : Type 0 where
  pub all : (later : List (List ℕ)) → after ++ places_from size new later ≡ before ++ places_from size old (records ++ later)
