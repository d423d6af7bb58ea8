-- The parts of the chunks of records, put one after another.
use Rattle.std.proofs.Common.{◌≡◌, ◌∙◌, ℕ, ◌+◌, ◌≤◌, Bool, true, false, Option, List, ◌++◌, ap, subst, arith}
use Rattle.block_layout.specs.Layout.{IsBoundary}
use Rattle.chunk_header.specs.Chunks.{ChunkValue}
use Rattle.meta_chunk.specs.Files.{signature_bytes, end_of_chunks}
use Rattle.meta_chunk.proofs.PaddingLemmas.{padding_at_near}
use Rattle.record_group.specs.Groups.{groups, pads_start, pads_end, padding_if, front_padding, front_chunks, end_padding}
use Rattle.record_group.proofs.Signed.{end_of_chunk-signature, file_of-signed}
use Rattle.record_writer.specs.declared.options.WriteOptions.{WriteOptions}
use Rattle.record_writer.specs.Written.{file_under, tail_chunks}
use Rattle.record_writer.specs.WriteAnswers.{tail_under}
use Rattle.record_writer.specs.MadeFiles.{MadeFileValue, Lays, LaysFront, chunks_of_groups}
use Rattle.record_writer.proofs.Layings.{Lays-append, LaysFront-behind, LaysFront-longer}

-- the file of records is the signature and the chunks behind it
pub file_under-signed : (options : WriteOptions) (records : List (List ℕ)) → file_under options records ≡ signature_bytes ++ tail_under options 64 records
file_under-signed options records =
    file_of-signed records options.size options.every options.pad
    ∙ ap (λ (place : ℕ). signature_bytes ++ tail_under options place records) end_of_chunk-signature

-- padding up to a block ends near its begin
padding_near : (wanted : Bool) (place : ℕ) → IsBoundary place → end_of_chunks place (padding_if wanted place) ≤ place + 131072
padding_near false place boundary = omega arith
padding_near true place boundary = omega (arith, padding_at_near place boundary)

pub padded_near : (wanted : Bool) (a b : Option (List ℕ)) (s t : MadeFileValue) → IsBoundary s.place → Lays a b s t (padding_if wanted s.place)
    → t.place ≤ s.place + 131072
padded_near wanted a b s t boundary first = omega (arith, first.place, padding_near wanted s.place boundary)

module _ (options : WriteOptions) (s : MadeFileValue) (records : List (List ℕ)) where
  abbrev gs : List ChunkValue
  gs = chunks_of_groups (groups records options.size options.every)

  abbrev end : List ChunkValue
  end = end_padding s.place records options.size options.every options.pad

  -- behind the padding before them come the chunks of groups
  pub Lays-grouped : (a b c : Option (List ℕ)) (t u : MadeFileValue)
      → Lays a b s t (padding_if (pads_start options.pad) s.place)
      → Lays b c t u (chunks_of_groups (groups records options.size options.every))
      → Lays a c s u (front_chunks s.place records options.size options.every options.pad)
  Lays-grouped a b c t u first then = Lays-append a b c s t u (front_padding s.place options.pad) gs first then

  -- and then the padding behind them
  pub Lays-records : (a b c : Option (List ℕ)) (t u : MadeFileValue)
      → Lays a b s t (front_chunks s.place records options.size options.every options.pad)
      → Lays b c t u (padding_if (pads_end options.pad) t.place)
      → Lays a c s u (tail_chunks options s.place records)
  Lays-records a b c t u first then =
      Lays-append a b c s t u (front_chunks s.place records options.size options.every options.pad) end first
      (subst (λ (place : ℕ). Lays b c t u (padding_if (pads_end options.pad) place)) first.place then)

  -- a front of a part behind those that were put whole is one of them all
  pub LaysFront-padding : {F : Type 0} (a b : Option (List ℕ)) (t : MadeFileValue) → LaysFront F a b s t (padding_if (pads_start options.pad) s.place)
      → LaysFront F a b s t (tail_chunks options s.place records)
  LaysFront-padding a b t front =
      LaysFront-longer a b s t (front_padding s.place options.pad ++ gs) end
      (LaysFront-longer a b s t (front_padding s.place options.pad) gs front)

  pub LaysFront-groups : {F : Type 0} (a b c : Option (List ℕ)) (t u : MadeFileValue)
      → Lays a b s t (padding_if (pads_start options.pad) s.place)
      → LaysFront F b c t u (chunks_of_groups (groups records options.size options.every))
      → LaysFront F a c s u (tail_chunks options s.place records)
  LaysFront-groups a b c t u first then =
      LaysFront-longer a c s u (front_padding s.place options.pad ++ gs) end
      (LaysFront-behind a b c s t u (front_padding s.place options.pad) gs first then)

  pub LaysFront-end : {F : Type 0} (a b c : Option (List ℕ)) (t u : MadeFileValue)
      → Lays a b s t (front_chunks s.place records options.size options.every options.pad)
      → LaysFront F b c t u (padding_if (pads_end options.pad) t.place)
      → LaysFront F a c s u (tail_chunks options s.place records)
  LaysFront-end {F} a b c t u first then =
      LaysFront-behind a b c s t u (front_chunks s.place records options.size options.every options.pad) end first
      (subst (λ (place : ℕ). LaysFront F b c t u (padding_if (pads_end options.pad) place)) first.place then)
