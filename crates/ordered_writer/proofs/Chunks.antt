-- Whole chunks: their header, their data and the padding behind it.
use Rattle.std.proofs.Common.{◌≡◌, ◌∙◌, ℕ, ◌+◌, ◌≤◌, Option, List, [], ◌++◌, length, drop, inl, inr, refl, sym, ap, arith}
use Rattle.std.proofs.lemmas.List.{drop_all, length-append}
use Rattle.block_layout.specs.Layout.{IsBoundary, room, end_of, chunk_end_of}
use Rattle.block_layout.specs.NextPlaces.{IsOnBoundary}
use Rattle.block_layout.proofs.Ends.{end_of_after, end_of-more}
use Rattle.record_io.specs.Outside.{TakesShort}
use Rattle.record_io.specs.Buffers.{TakesAndHolds}
use Rattle.meta_chunk.specs.Laid.{end_of_chunk, laid_bytes}
use Rattle.meta_chunk.specs.Files.{signature}
use Rattle.ordered_writer.specs.Layings.{laid_between}
use Rattle.block_layout.proofs.Runs.{room-end_of}
use Rattle.ordered_writer.proofs.RunCalls.{TakesShort-laid_longer, TakesAndHolds-more, TakesShort-more}
use Rattle.ordered_writer.proofs.Both.{TakesAndHolds-both, TakesShort-first, TakesShort-second}

-- the signature ends at 64
pub end_of_chunk-signature : end_of_chunk 0 signature ≡ 64
unfolding end_of chunk_end_of
end_of_chunk-signature = refl

-- a boundary, in both forms
pub IsOnBoundary-from_boundary : (p : ℕ) → IsBoundary p → IsOnBoundary p
IsOnBoundary-from_boundary p (inl block) = λ inside. absurd (omega arith)
IsOnBoundary-from_boundary p (inr inside) = λ _. inside

-- laid bytes are those from the begin to the end
pub laid_bytes-between : (begin end : ℕ) (own : List ℕ) → laid_bytes begin end own ≡ laid_between begin end begin end own
unfolding laid_bytes laid_between
laid_bytes-between begin end own = refl

-- where the header of a chunk ends, and the data behind it
abbrev pub header_end : ℕ → List ℕ → ℕ
header_end begin header = end_of begin (length header)

abbrev pub data_end : ℕ → List ℕ → List ℕ → ℕ
data_end begin header content = end_of (header_end begin header) (length content)

-- and behind these nothing more
rest_laid : (begin end : ℕ) (header content : List ℕ)
    → laid_between begin end (data_end begin header content) end []
    ≡ laid_between begin end (data_end begin header content) end (drop (room begin (data_end begin header content)) (header ++ content))
rest_laid begin end header content =
    let all : room begin (data_end begin header content) ≡ length header + length content =
    ap (room begin) (end_of-more begin (length header) (length content)) ∙ room-end_of begin (length header + length content) in
    ap (laid_between begin end (data_end begin header content) end)
    (sym (drop_all (room begin (data_end begin header content)) (header ++ content) (omega (arith, length-append header content))))

-- where the header failed
pub TakesShort-chunk_header : (a b : Option (List ℕ)) (held : List ℕ) (begin end : ℕ) (header content : List ℕ)
    → header_end begin header ≤ end
    → TakesShort a b (held ++ laid_between begin end begin (header_end begin header) header)
    → TakesShort a b (held ++ laid_bytes begin end (header ++ content))
TakesShort-chunk_header a b held begin end header content within front =
    rw (laid_bytes-between begin end (header ++ content)) (TakesShort-first a b held begin end begin end header content within front)

-- where header and data went well
pub TakesAndHolds-data : (a b c : Option (List ℕ)) (held between after : List ℕ) (begin end : ℕ) (header content : List ℕ)
    → TakesAndHolds a b (held ++ laid_between begin end begin (header_end begin header) header) between
    → TakesAndHolds b c (between ++ laid_between begin end (header_end begin header) (data_end begin header content) content) after
    → TakesAndHolds a c (held ++ laid_between begin end begin (data_end begin header content) (header ++ content)) after
TakesAndHolds-data a b c held between after begin end header content =
    TakesAndHolds-both a b c held between after begin end begin (data_end begin header content) header content refl

-- where the data failed
pub TakesShort-data : (a b c : Option (List ℕ)) (held between : List ℕ) (begin end : ℕ) (header content : List ℕ)
    → data_end begin header content ≤ end
    → TakesAndHolds a b (held ++ laid_between begin end begin (header_end begin header) header) between
    → TakesShort b c (between ++ laid_between begin end (header_end begin header) (data_end begin header content) content)
    → TakesShort a c (held ++ laid_bytes begin end (header ++ content))
TakesShort-data a b c held between begin end header content within first then =
    rw (laid_bytes-between begin end (header ++ content))
    (TakesShort-laid_longer a c held begin end begin (data_end begin header content) end (header ++ content)
    (omega (arith, end_of_after begin (length header), end_of_after (header_end begin header) (length content))) within
    (TakesShort-second a b c held between begin end begin (data_end begin header content) header content refl first then))

-- where the padding behind them went well
pub TakesAndHolds-padding : (a b c : Option (List ℕ)) (held between after : List ℕ) (begin end : ℕ) (header content : List ℕ)
    → data_end begin header content ≤ end
    → TakesAndHolds a b (held ++ laid_between begin end begin (data_end begin header content) (header ++ content)) between
    → TakesAndHolds b c (between ++ laid_between begin end (data_end begin header content) end []) after
    → TakesAndHolds a c (held ++ laid_bytes begin end (header ++ content)) after
TakesAndHolds-padding a b c held between after begin end header content within first then =
    rw (laid_bytes-between begin end (header ++ content))
    (TakesAndHolds-more a b c held between after begin end begin (data_end begin header content) end (header ++ content) []
    (omega (arith, end_of_after begin (length header), end_of_after (header_end begin header) (length content))) within
    (rest_laid begin end header content) first then)

-- and where it failed
pub TakesShort-padding : (a b c : Option (List ℕ)) (held between : List ℕ) (begin end : ℕ) (header content : List ℕ)
    → data_end begin header content ≤ end
    → TakesAndHolds a b (held ++ laid_between begin end begin (data_end begin header content) (header ++ content)) between
    → TakesShort b c (between ++ laid_between begin end (data_end begin header content) end [])
    → TakesShort a c (held ++ laid_bytes begin end (header ++ content))
TakesShort-padding a b c held between begin end header content within first then =
    rw (laid_bytes-between begin end (header ++ content))
    (TakesShort-more a b c held between begin end begin (data_end begin header content) end (header ++ content) []
    (omega (arith, end_of_after begin (length header), end_of_after (header_end begin header) (length content))) within
    (rest_laid begin end header content) first then)
