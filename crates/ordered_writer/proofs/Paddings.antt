-- Padding up to a block, as one chunk of zero bytes.
use Rattle.std.proofs.Common.{◌≡◌, ◌∙◌, ℕ, ◌+◌, ◌-◌, ◌%◌, ◌^◌, ◌<◌, ◌≤◌, List, [], ◌++◌, Bool, false, length, get_or, replicate, refl, sym, ap, inl, inr, arith}
use Rattle.std.proofs.lemmas.Bool.{cases_lt}
use Rattle.std.proofs.lemmas.List.{append-nil, length-replicate, get_or_past, get_or_append_left, get_or-append_right}
use Rattle.block_layout.specs.Layout.{IsBlock, chunk_end_of}
use Rattle.chunk_header.specs.Chunks.{header_bytes}
use Rattle.meta_chunk.specs.Laid.{laid, laid_bytes, end_of_chunk}
use Rattle.meta_chunk.specs.Files.{end_of_chunks, laid_each}
use Rattle.meta_chunk.specs.PaddingSizes.{padding, padding_size_of, padding_at}
use Rattle.meta_chunk.proofs.PaddingLemmas.{padding_at-block, padding_at-inside, padding_at_near}
use Rattle.ordered_writer.specs.Writers.{Writer, writer_at}
use Rattle.ordered_writer.proofs.Between.{get_or-zeros, laid_between-same}
use Rattle.ordered_writer.proofs.Chunks.{laid_bytes-between}

-- at a block there is none
pub end_of_padding-block : (place : ℕ) → IsBlock place → end_of_chunks place (padding_at place) ≡ place
end_of_padding-block place block = ap (end_of_chunks place) (padding_at-block place block)

pub laid_padding-block : (place : ℕ) → IsBlock place → laid_each place (padding_at place) ≡ []
unfolding laid_each
laid_padding-block place block = ap (laid_each place) (padding_at-block place block)

-- within one it is a chunk of so many zero bytes, which ends where that does
pub end_of_padding-inside : (place size : ℕ) → 24 < place % 65536 → size ≡ padding_size_of place
    → end_of_chunks place (padding_at place) ≡ chunk_end_of place (40 + size) 0
end_of_padding-inside place size inside is =
    ap (end_of_chunks place) (padding_at-inside place inside)
    ∙ ap (λ (n : ℕ). chunk_end_of place (40 + n) 0) (length-replicate {A = ℕ} (padding_size_of place) 0 ∙ sym is)

-- zero bytes behind others don't show
zeros_behind : (bytes : List ℕ) (n i : ℕ) → get_or (bytes ++ replicate n 0) i 0 ≡ get_or bytes i 0
zeros_behind bytes n i =
    elim (cases_lt i (length bytes)) [
      | inl within ↦ get_or_append_left bytes (replicate n 0) 0 i within
      | inr past ↦
          get_or-append_right bytes (replicate n 0) (length bytes) i 0 refl past
          ∙ get_or-zeros n (i - length bytes)
          ∙ sym (get_or_past bytes i 0 past)
    ]

pub laid_bytes-zeros : (begin end : ℕ) (bytes : List ℕ) (n : ℕ) → laid_bytes begin end (bytes ++ replicate n 0) ≡ laid_bytes begin end bytes
laid_bytes-zeros begin end bytes n =
    laid_bytes-between begin end (bytes ++ replicate n 0)
    ∙ laid_between-same begin end begin end (bytes ++ replicate n 0) bytes (λ i _. zeros_behind bytes n i)
    ∙ sym (laid_bytes-between begin end bytes)

-- so its bytes are its header's, laid with zero bytes behind them
pub laid_padding-inside : (place size : ℕ) → 24 < place % 65536 → size ≡ padding_size_of place
    → laid_each place (padding_at place) ≡ laid_bytes place (chunk_end_of place (40 + size) 0) (header_bytes (padding size) ++ [])
unfolding laid_each
laid_padding-inside place size inside is =
    ap (laid_each place) (padding_at-inside place inside)
    ∙ append-nil (laid place (padding (padding_size_of place)))
    ∙ ap (λ (n : ℕ). laid place (padding n)) (sym is)
    ∙ laid_bytes-zeros place (end_of_chunk place (padding size)) (header_bytes (padding size)) size
    ∙ ap (λ (n : ℕ). laid_bytes place (chunk_end_of place (40 + n) 0) (header_bytes (padding size))) (length-replicate {A = ℕ} size 0)
    ∙ ap (laid_bytes place (chunk_end_of place (40 + size) 0)) (sym (append-nil (header_bytes (padding size))))

-- it ends within reach
pub end_of_padding_near : (place size : ℕ) → 24 < place % 65536 → size ≡ padding_size_of place → place ≤ 2 ^ 61
    → chunk_end_of place (40 + size) 0 ≤ 2 ^ 62
end_of_padding_near place size inside is near =
    omega (arith, end_of_padding-inside place size inside is, padding_at_near place (inr inside))

-- a writer that is not spent goes on at its position
pub going_on : (w : Writer) → w.spent ≡ false → w ≡ writer_at w.position
going_on w unspent = ap (λ (s : Bool). record { position = w.position; spent = s }) unspent
