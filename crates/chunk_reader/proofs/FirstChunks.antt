-- The chunk that a file begins with, as its bytes show it.
use Rattle.std.proofs.Common.{◌≡◌, ◌∙◌, ℕ, ◌≤◌, Bool, Option, Some, None, IfSome, List, [], ◌∷◌, length, sym, ap, subst, inl, inr, arith}
use Rattle.block_layout.specs.Layout.{IsBoundary}
use Rattle.record_values.specs.declared.file_totals.Totals.{Totals}
use Rattle.chunk_header.specs.Chunks.{ChunkValue, IsChunk}
use Rattle.chunk_header.specs.Views.{HasRightHash, value_of_chunk}
use Rattle.meta_chunk.specs.Files.{totals_of, IsChainOf, signature}
use Rattle.meta_chunk.specs.Laid.{end_of_chunk}
use Rattle.meta_chunk.proofs.Held.{IsSignature-one}
use Rattle.chunk_reader.specs.Contents.{IsWhat, IsJudged, IsJudgedIn}
use Rattle.chunk_reader.specs.Faults.{BeginsWithSignature, IsAllowed}
use Rattle.chunk_reader.specs.Places.{chunk_at, end_at}
use Rattle.chunk_reader.specs.Progress.{AreInBounds, AreReadFrom}
use Rattle.chunk_reader.specs.declared.judging.Judged.{Judged}
use Rattle.chunk_reader.specs.declared.judging.What.TheVariants.{Passive}
use Rattle.chunk_reader.proofs.SignedFiles.{IsChunk-signature, IsLaid-signature, chunk_at-signature, end_at-signature, end_of_chunk-signature, no_reason-signature}
use Rattle.chunk_reader.proofs.ChainSteps.{signature_chain}

-- what is counted of it alone
abbrev pub signature_alone : Totals
signature_alone = record { chunks = 1; records = 0; bytes = 64; unread = 0 }

pub AreInBounds-signature : (size : ℕ) → 64 ≤ size → AreInBounds size signature_alone
AreInBounds-signature size long = record {
  within = long;
  boundary = λ inside. omega arith;
  signed = λ some. omega arith;
  chunks = omega arith;
  records = omega arith;
  unread = omega arith;
}

pub totals_of-signature : totals_of (signature ∷ []) ≡ signature_alone
totals_of-signature = ap (λ (end : ℕ). let t : Totals = record { chunks = 1; records = 0; bytes = end; unread = 0 } in t) end_of_chunk-signature

-- a file that begins with its bytes has it at its front, and was read up to its end
pub signature_chain_in : (unread_ok : Bool) (bytes : Option (List ℕ)) → IfSome bytes BeginsWithSignature
    → IfSome bytes (λ file. IsChainOf (IsAllowed unread_ok) (signature ∷ []) file 64)
signature_chain_in unread_ok None begins = tt
signature_chain_in unread_ok (Some file) begins = signature_chain unread_ok file begins

pub signature_read : (unread_ok : Bool) (bytes : Option (List ℕ)) → IfSome bytes BeginsWithSignature
    → IfSome bytes (λ file. AreReadFrom unread_ok file signature_alone)
signature_read unread_ok None begins = tt
signature_read unread_ok (Some file) begins = (signature ∷ [], signature_chain unread_ok file begins, sym totals_of-signature)

-- the signature chunk is well formed at the front
pub first_judged : (unread_ok : Bool) (size : ℕ) (j : Judged) → 64 ≤ size → j.begin ≡ 0 → j.end ≡ 64 → j.what ≡ Passive
    → value_of_chunk j.chunk ≡ signature → HasRightHash j.chunk → IsJudged unread_ok size 0 j
first_judged unread_ok size j long begin end what chunk right =
    let k = value_of_chunk j.chunk in
    record {
      begin = begin;
      end = end ∙ sym (ap (end_of_chunk 0) chunk ∙ end_of_chunk-signature);
      to_boundary = subst IsBoundary (sym end) (inr (omega arith));
      after = omega (arith, end);
      within = omega (arith, end, long);
      small = omega (arith, ap (λ (c : ChunkValue). length c.«data») chunk);
      right = right;
      sound = subst IsChunk (sym chunk) IsChunk-signature;
      what = subst (IsWhat unread_ok k) (sym what) (inl ((IsSignature-one k).1 chunk));
    }

-- and the first of a file that begins with its bytes
pub first_judged_in : (unread_ok : Bool) (bytes : Option (List ℕ)) (j : Judged) → IfSome bytes BeginsWithSignature
    → value_of_chunk j.chunk ≡ signature → j.end ≡ 64 → IfSome bytes (λ file. IsJudgedIn unread_ok file 0 j)
first_judged_in unread_ok None j begins chunk end = tt
first_judged_in unread_ok (Some file) j begins chunk end =
    let here : chunk_at file 0 ≡ signature = chunk_at-signature file begins in
    let ends : end_at file 0 ≡ 64 = end_at-signature file begins in
    record {
      chunk = chunk ∙ sym here;
      end = end ∙ sym ends;
      laid = rw (here, ends) (IsLaid-signature file begins);
      none = no_reason-signature unread_ok file begins;
    }
