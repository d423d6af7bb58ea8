-- Where a chunk ends that is counted, and that of a group whose records stay where they are.
use Rattle.std.proofs.Common.{◌≡◌, ◌∙◌, ℕ, ◌+◌, ◌≤◌, List, [], ◌++◌, length, sym, ap, arith}
use Rattle.std.specs.Prelude.{if◌then◌else◌}
use Rattle.std.specs.List.{concat}
use Rattle.std.proofs.lemmas.List.{length-append}
use Rattle.block_layout.specs.Layout.{chunk_end_of, chunk_header_size}
use Rattle.block_layout.proofs.ChunkEnds.{chunk_end_of_past_records}
use Rattle.chunk_header.specs.Chunks.{ChunkValue, header_bytes}
use Rattle.chunk_workers.specs.Coded.{CodedValue, StandsFor}
use Rattle.simple_chunk.specs.Costs.{cost_of}
use Rattle.simple_chunk.proofs.CostLemmas.{cost_of-is}
use Rattle.meta_chunk.specs.Laid.{end_of_chunk, laid, laid_bytes}
use Rattle.meta_chunk.proofs.LaidChunks.{end_of_chunk_after}

-- the counts stay below where the chunk ends
pub ends_past : (place records : ℕ) (k : ChunkValue) → records ≤ place → (place + 40 ≤ end_of_chunk place k) × (records + k.num_records ≤ end_of_chunk place k)
ends_past place records k few = (
  end_of_chunk_after place k,
  omega (arith, chunk_end_of_past_records place (40 + length k.«data») k.num_records),
)

-- what was coded of a group, with the records that it leaves out, is the data of its chunk
data_is : (k : ChunkValue) (group : List (List ℕ)) (c : CodedValue) (rest : List ℕ) → StandsFor k group c
    → rest ≡ (if c.head.takes_values then concat group else []) → c.front ++ rest ≡ k.«data»
data_is k group c rest stands is = ap (λ (xs : List ℕ). c.front ++ xs) is ∙ stands.joined

-- so it ends where that does
pub coded-end : (begin : ℕ) (k : ChunkValue) (group : List (List ℕ)) (c : CodedValue) (rest : List ℕ) → StandsFor k group c
    → rest ≡ (if c.head.takes_values then concat group else [])
    → chunk_end_of begin (chunk_header_size + (length c.front + length rest)) c.head.num_records ≡ end_of_chunk begin k
coded-end begin k group c rest stands is =
    ap (λ (n : ℕ). chunk_end_of begin (chunk_header_size + n) c.head.num_records)
    (sym (length-append c.front rest) ∙ ap (λ (xs : List ℕ). length xs) (data_is k group c rest stands is))
    ∙ ap (λ (n : ℕ). chunk_end_of begin (chunk_header_size + length k.«data») n) stands.records

-- and has its bytes
pub coded-laid : (begin : ℕ) (k : ChunkValue) (group : List (List ℕ)) (c : CodedValue) (rest : List ℕ) → StandsFor k group c
    → rest ≡ (if c.head.takes_values then concat group else [])
    → laid_bytes begin (chunk_end_of begin (chunk_header_size + (length c.front + length rest)) c.head.num_records) (c.head.header ++ (c.front ++ rest))
    ≡ laid begin k
coded-laid begin k group c rest stands is =
    ap (λ (end : ℕ). laid_bytes begin end (c.head.header ++ (c.front ++ rest))) (coded-end begin k group c rest stands is)
    ∙ ap (λ (xs : List ℕ). laid_bytes begin (end_of_chunk begin k) (xs ++ (c.front ++ rest))) stands.header
    ∙ ap (λ (xs : List ℕ). laid_bytes begin (end_of_chunk begin k) (header_bytes k ++ xs)) (data_is k group c rest stands is)

-- a group has no more records than it costs
pub few_records : (group : List (List ℕ)) → length group ≤ cost_of group
few_records group = omega (arith, cost_of-is group)
