-- Inside. A simple chunk that is made in two steps: its memory is taken, then its sizes and header are made. Own.
use Rattle.std.specs.Prelude.{◌≡◌, ℕ, ◌+◌, ◌^◌, ◌≤◌, Bool, Option, List, length, IfSome}
use Rattle.varint_wire.specs.Varint.{shortest}
use Rattle.chunk_header.specs.SimpleChunks.{simple_chunk, sizes_of}
use Rattle.chunk_header.specs.Views.{IsHeaderOf}
use Rattle.chunk_header.specs.declared.Header.{Header}
use Rattle.simple_chunk.specs.Costs.{cost_of}
use Rattle.simple_chunk.specs.Sizes.{data_front}

-- its records, and whether its sizes and header are made
pub record SimpleValue : Type 0 where
  pub records : List (List ℕ)
  pub encoded : Bool

-- the records cost at most 2^25, their sizes take so many bytes, and there is room for all that stands before them
pub record HaveRoom (records : List (List ℕ)) (sizes_len capacity : ℕ) : Type 0 where
  pub few : cost_of records ≤ 2 ^ 25
  pub sized : sizes_len ≡ length (sizes_of records)
  pub room : 1 + length (shortest sizes_len) + sizes_len ≤ capacity

-- where there is a header, it is the chunk's, and the front is what stands before the records
abbrev pub HasRightParts : List (List ℕ) → List ℕ → Option Header → Type 0
HasRightParts records front header = IfSome header (λ h. IsHeaderOf h (simple_chunk records) × (front ≡ data_front records))
