-- How far a file is well formed, as reading it chunk by chunk shows, over a store that may show its bytes.
use Rattle.std.proofs.Common.{◌≡◌, ◌∙◌, ℕ, ◌<◌, true, Option, Some, None, IfSome, List, [], length, sym, ap, subst, inl, arith}
use Rattle.record_values.specs.declared.file_totals.Totals.{Totals}
use Rattle.chunk_header.specs.Chunks.{ChunkValue}
use Rattle.meta_chunk.specs.Files.{totals_of, IsWellFormedChunk, IsChainOf}
use Rattle.chunk_reader.specs.Faults.{IsFault, IsLongest, IsVerdict, BeginsWithSignature}
use Rattle.chunk_reader.specs.LongestFronts.{IsFrontOf}
use Rattle.chunk_reader.specs.Progress.{AreInBounds, AreReadFrom}
use Rattle.chunk_reader.specs.declared.reasons.Fault.{Fault}
use Rattle.chunk_reader.specs.declared.reasons.Why.TheVariants as why
use Rattle.chunk_reader.proofs.ChainReads.{no_further_unsigned}
use Rattle.chunk_reader.proofs.ChainSteps.{IsChainOf-nil, longest_where_refused, longest_where_whole, no_chunks}
use Rattle.chunk_reader.proofs.FileFaults.{same_fault}
use Rattle.chunk_reader.proofs.ReadingSteps.{fault_here}
use Rattle.chunk_reader.proofs.Rooms.{IsSized}
use Rattle.chunk_reader.proofs.SignedFiles.{signed_length}

-- the totals of no chunks are in their bounds
pub AreInBounds-none : (size : ℕ) → AreInBounds size (totals_of [])
AreInBounds-none size = record {
  within = omega arith;
  boundary = λ inside. omega arith;
  signed = λ some. omega arith;
  chunks = omega arith;
  records = omega arith;
  unread = omega arith;
}

-- a file that doesn't begin as files do has no chunks at its front
pub front_unsigned : (bytes : Option (List ℕ)) (totals : Totals) (fault : Fault) → totals ≡ totals_of []
    → (fault.at ≡ 0) × (fault.why ≡ why.NoSignature) × IfSome bytes (λ file. ¬ BeginsWithSignature file)
    → IfSome bytes (λ file. IsFrontOf file (record { totals = totals; fault = Some fault }))
front_unsigned None totals fault none is = tt
front_unsigned (Some file) totals fault none (at, reason, unsigned) =
    let here : totals.bytes ≡ 0 = ap (λ (t : Totals). t.bytes) none in record {
      ks = [];
      longest = record {
        chain = subst (IsChainOf IsWellFormedChunk [] file) (sym here) (IsChainOf-nil file);
        greatest = no_further_unsigned true (Some file) totals.bytes unsigned;
      };
      totals = none;
      fault = inl (unsigned, same_fault fault (record { at = 0; why = why.NoSignature }) at reason);
    }

-- where a verdict stands behind chunks, they are the longest front
pub front_refused : (bytes : Option (List ℕ)) (told : Option ℕ) (totals : Totals) (size : ℕ) (fault : Fault)
    → IsSized bytes told → told ≡ Some size → totals.bytes < size
    → IfSome bytes (λ file. AreReadFrom true file totals) → IfSome bytes BeginsWithSignature
    → IfSome bytes (λ file. IsVerdict true file totals.bytes fault)
    → IfSome bytes (λ file. IsFrontOf file (record { totals = totals; fault = Some fault }))
front_refused None told totals size fault sized is below read begins verdict = tt
front_refused (Some file) told totals size fault sized is below (ks, chain, counts) begins verdict =
    let same : size ≡ length file = subst (λ (o : Option ℕ). IfSome o (λ n. n ≡ length file)) is sized in record {
      ks = ks;
      longest = longest_where_refused true ks file totals.bytes fault.why chain verdict.0;
      totals = counts;
      fault = fault_here true ks file totals.bytes fault begins chain (omega arith) verdict;
    }

-- chunks to the end of the file are the longest front, and all of it
pub front_whole : (bytes : Option (List ℕ)) (told : Option ℕ) (totals : Totals) (size : ℕ)
    → IsSized bytes told → told ≡ Some size → totals.bytes ≡ size
    → IfSome bytes (λ file. AreReadFrom true file totals) → IfSome bytes BeginsWithSignature
    → IfSome bytes (λ file. IsFrontOf file (record { totals = totals; fault = None }))
front_whole None told totals size sized is at_end read begins = tt
front_whole (Some file) told totals size sized is at_end (ks, chain, counts) begins =
    let same : size ≡ length file = subst (λ (o : Option ℕ). IfSome o (λ n. n ≡ length file)) is sized in
    let ends : totals.bytes ≡ length file = at_end ∙ same in
    let whole : IsChainOf IsWellFormedChunk ks file (length file) = subst (IsChainOf IsWellFormedChunk ks file) ends chain in record {
      ks = ks;
      longest = subst (λ (n : ℕ). IsLongest IsWellFormedChunk ks file n) (sym ends) (longest_where_whole IsWellFormedChunk ks file whole);
      totals = counts;
      fault = (
        λ none. omega (
          arith,
          signed_length file begins,
          no_chunks file (length file) (subst (λ (xs : List ChunkValue). IsChainOf IsWellFormedChunk xs file (length file)) none whole),
        ),
        whole,
      );
    }

-- the fault that a front ends with is that of the file
pub fault_of_front : (bytes : Option (List ℕ)) (totals : Totals) (fault : Fault)
    → IfSome bytes (λ file. IsFrontOf file (record { totals = totals; fault = Some fault })) → IfSome bytes (λ file. IsFault true file fault)
fault_of_front None totals fault front = tt
fault_of_front (Some file) totals fault front = front.fault
