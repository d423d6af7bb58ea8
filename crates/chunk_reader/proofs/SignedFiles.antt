-- The signature at the front of a file.
use Rattle.std.proofs.Common.{◌≡◌, ◌∙◌, ℕ, ◌≤◌, Bool, true, false, List, ◌∷◌, ◌++◌, length, take, refl, sym, ap, subst, inl, inr, arith}
use Rattle.std.specs.Prelude.{slice_range}
use Rattle.std.proofs.lemmas.List.{take_at, take-take, length-take, length-append}
use Rattle.block_layout.specs.Layout.{end_of, chunk_end_of}
use Rattle.chunk_header.specs.Chunks.{ChunkValue, IsChunk}
use Rattle.meta_chunk.specs.Laid.{IsLaid, end_of_chunk}
use Rattle.meta_chunk.specs.Files.{signature, signature_bytes, IsPlain, IsChainOf}
use Rattle.meta_chunk.proofs.LaidChunks.{end-laid, IsLaid-laid}
use Rattle.meta_chunk.proofs.OneLaying.{IsLaid-is}
use Rattle.chunk_reader.specs.Places.{end_at, chunk_at}
use Rattle.chunk_reader.specs.Reasons.{Applies, NoneOf, strict_reasons}
use Rattle.chunk_reader.specs.Faults.{IsAllowed, BeginsWithSignature}
use Rattle.chunk_reader.proofs.LaidAt.{end_at-laid, chunk_at-laid}
use Rattle.chunk_reader.proofs.AllowedChunks.{IsAllowed-unread_too}
use Rattle.chunk_reader.proofs.NoReason.{no_reason}

-- the signature can be held, and is a plain chunk
pub IsChunk-signature : IsChunk signature
IsChunk-signature = record {
  kind = omega arith;
  num_records = omega arith;
  decoded_size = omega arith;
  size = omega arith;
  bytes = tt;
}

pub IsPlain-signature : IsPlain signature
IsPlain-signature = (
  omega arith,
  inr (inl (
    refl,
    record {
      signature = λ is. (refl, refl, refl);
      metadata = λ is. refl;
      padding = λ is. (refl, refl);
    },
  )),
)

pub IsAllowed-signature : (unread_ok : Bool) → IsAllowed unread_ok signature
IsAllowed-signature false = IsPlain-signature
IsAllowed-signature true = IsAllowed-unread_too signature IsPlain-signature

-- it ends 64 bytes behind the file's begin
pub end_of_chunk-signature : end_of_chunk 0 signature ≡ 64
unfolding chunk_end_of end_of
end_of_chunk-signature = refl

-- so many bytes it has
pub length-signature_bytes : length signature_bytes ≡ 64
length-signature_bytes = omega (arith, end-laid 0 signature, end_of_chunk-signature)

-- in a file that begins with its bytes it is laid at 0
pub IsLaid-signature : (file : List ℕ) → BeginsWithSignature file → IsLaid 0 signature (slice_range file 0 64)
IsLaid-signature file begins =
    let front : take 64 file ≡ signature_bytes = ap (λ (n : ℕ). take n file) (sym length-signature_bytes) ∙ begins in
    subst (λ (xs : List ℕ). IsLaid 0 signature xs) (sym front) (IsLaid-laid 0 signature IsChunk-signature)

-- the chunk there is the signature
pub chunk_at-signature : (file : List ℕ) → BeginsWithSignature file → chunk_at file 0 ≡ signature
chunk_at-signature file begins = chunk_at-laid 0 signature file 64 (IsLaid-signature file begins)

pub end_at-signature : (file : List ℕ) → BeginsWithSignature file → end_at file 0 ≡ 64
end_at-signature file begins = end_at-laid 0 signature file 64 (IsLaid-signature file begins) ∙ end_of_chunk-signature

-- and no reason applies to it
pub no_reason-signature : (unread_ok : Bool) (file : List ℕ) → BeginsWithSignature file → NoneOf (Applies file 0) (strict_reasons unread_ok)
no_reason-signature unread_ok file begins =
    no_reason unread_ok 0 signature file 64 (IsLaid-signature file begins) (IsAllowed-signature unread_ok)

-- such a file has at least its bytes
pub signed_length : (file : List ℕ) → BeginsWithSignature file → 64 ≤ length file
signed_length file begins =
    omega (arith, ap length begins, length-take (length signature_bytes) file, length-signature_bytes)

-- bytes of the signature, and of chunks behind it, begin with its bytes
laid_first : (bytes first rest : List ℕ) → IsLaid 0 signature first → bytes ≡ first ++ rest → take (length signature_bytes) bytes ≡ signature_bytes
laid_first bytes first rest h same =
    let is : first ≡ signature_bytes = IsLaid-is 0 signature first (inl refl) (omega arith) h in
    ap (take (length signature_bytes)) same ∙ take_at first rest (length signature_bytes) (ap length is) ∙ is

-- so a file with chunks at its front, the signature first, begins with its bytes
pub begins_signed : {P : ChunkValue → Type 0} (k : ChunkValue) (ks : List ChunkValue) (file : List ℕ) (place : ℕ)
    → IsChainOf P (k ∷ ks) file place → BeginsWithSignature file
begins_signed k ks file place h =
    let parts = h.laid in
    let first : List ℕ = parts.0 in
    let is : IsLaid 0 signature first = subst (λ (c : ChunkValue). IsLaid 0 c first) h.signed parts.3 in
    let enough : length signature_bytes ≤ place =
    omega (
      arith,
      ap length (IsLaid-is 0 signature first (inl refl) (omega arith) is),
      ap length parts.2,
      length-append first parts.1,
      length-take place file,
    ) in
    sym (take-take (length signature_bytes) place file enough) ∙ laid_first (take place file) first parts.1 is parts.2
