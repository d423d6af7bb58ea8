-- Padding before and behind the chunks of records.
use Rattle.std.proofs.Common.{◌≡◌, ℕ, Bool, true, false, Option, List, sym, subst}
use Rattle.std.specs.List.{AllByRecursion}
use Rattle.block_layout.specs.Layout.{IsBlock, IsBoundary}
use Rattle.chunk_header.specs.Chunks.{ChunkValue}
use Rattle.meta_chunk.specs.Files.{end_of_chunks}
use Rattle.meta_chunk.specs.PaddingSizes.{padding_at}
use Rattle.meta_chunk.proofs.Joins.{end_of_chunks-append}
use Rattle.meta_chunk.proofs.Begins.{end_of_chunks_boundary}
use Rattle.meta_chunk.proofs.PaddingLemmas.{IsBlock-padding_at}
use Rattle.record_group.specs.declared.pad.Pad.{Pad}
use Rattle.record_group.specs.Groups.{pads_end, padding_if, front_chunks, end_padding, record_chunks}

-- what holds of padding up to a block holds of padding that may be wanted
pub each_if : (P : ChunkValue → Type 0) (wanted : Bool) (place : ℕ) → AllByRecursion P (padding_at place) → AllByRecursion P (padding_if wanted place)
each_if P true place h = h
each_if P false place h = tt

-- where it is wanted, it ends at a block
pub IsBlock-padding_if : (wanted : Bool) (place : ℕ) → IsBoundary place → wanted ≡ true → IsBlock (end_of_chunks place (padding_if wanted place))
IsBlock-padding_if true place boundary is_wanted = IsBlock-padding_at place boundary
IsBlock-padding_if false place boundary is_wanted = absurd (cc is_wanted)

-- so with padding behind them, the chunks of records end at a block
pub IsBlock-record_chunks : (place : ℕ) (records : List (List ℕ)) (size : ℕ) (every : Option ℕ) (pad : Pad) → IsBoundary place → pads_end pad ≡ true
    → IsBlock (end_of_chunks place (record_chunks place records size every pad))
IsBlock-record_chunks place records size every pad boundary is_wanted =
    let front : List ChunkValue = front_chunks place records size every pad in
    subst IsBlock (sym (end_of_chunks-append place front (end_padding place records size every pad)))
    (IsBlock-padding_if (pads_end pad) (end_of_chunks place front) (end_of_chunks_boundary place front boundary) is_wanted)
