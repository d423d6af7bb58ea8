-- Inside. Parts of a chunk that is laid piece by piece. Own.
use Rattle.std.specs.Prelude.{◌≡◌, ℕ, ◌-◌, ◌%◌, List, map, nat_lt, if◌then◌else◌, slice_index}
use Rattle.std.specs.List.{range_with_len}
use Rattle.block_layout.specs.Layout.{block_size, block_header_size, room}
use Rattle.block_layout.specs.BlockHeaders.{block_header}

-- a chunk is laid from the same begin to the same end as before
pub record SameSpan (begin begin_then end end_then : ℕ) : Type 0 where
  pub same_begin : begin_then ≡ begin
  pub same_end : end_then ≡ end

-- the byte at a position of a chunk that is laid from a begin to an end, where usable bytes go on at a place: a block
-- header's byte, the next of these bytes, or zero past them
abbrev pub byte_from : (begin end place : ℕ) → List ℕ → ℕ → ℕ
byte_from begin end place own p =
    if nat_lt (p % block_size) block_header_size
    then (let b = p - p % block_size in slice_index (block_header (b - begin) (end - b)) (p % block_size))
    else slice_index own (room place p)

-- the bytes of such a chunk from that place up to another position
unfoldable pub laid_between : (begin end place until : ℕ) → List ℕ → List ℕ
laid_between begin end place until own = map (byte_from begin end place own) (range_with_len place (until - place))
