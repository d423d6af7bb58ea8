-- How far an old file is kept, and whether it is refused, by how far it is well formed.
use Rattle.std.proofs.Common.{◌≡◌, ◌≢◌, ◌∙◌, ℕ, ◌<◌, ◌≤◌, Bool, true, Option, Some, None, IfSome, Result, Err, ◌⊎◌, List, [], ◌∷◌, length, refl, ap, subst, inl, inr, arith}
use Rattle.std.specs.Prelude.{MatchOption}
use Rattle.chunk_header.specs.Chunks.{ChunkValue}
use Rattle.meta_chunk.specs.Files.{IsWellFormed}
use Rattle.chunk_reader.specs.Faults.{IsFault}
use Rattle.chunk_reader.specs.LongestFronts.{IsFrontOf}
use Rattle.chunk_reader.specs.declared.reasons.Fault.{Fault}
use Rattle.chunk_reader.specs.declared.reasons.VerifyEnd.{VerifyEnd}
use Rattle.chunk_reader.specs.declared.reasons.VerifyEnd.TheVariants as verify
use Rattle.chunk_reader.specs.declared.reasons.Why.TheVariants as why
use Rattle.chunk_reader.specs.declared.verifying.Front.{Front}
use Rattle.chunk_reader.proofs.FileFaults.{fault_is_one, fault_or_none}
use Rattle.record_append.specs.Ends.{end_of_verify}
use Rattle.record_append.specs.Grown.{IsKeptTo, IsRefusedToGrow, IsUnrefused, RefusesFor}
use Rattle.record_append.specs.declared.appends.Appended.{Appended}
use Rattle.record_append.specs.declared.appends.AppendEnd.{AppendEnd}
use Rattle.record_append.specs.declared.appends.AppendEnd.TheVariants.{Refused, Device}

-- what stands in a file and how many bytes it has
abbrev pub IsSized : Option (List ℕ) → ℕ → Type 0
IsSized bytes size = IfSome bytes (λ file. size ≡ length file)

some_bytes : (file : List ℕ) → file ≢ [] → 0 < length file
some_bytes [] some = absurd (some refl)
some_bytes (b ∷ bytes) some = omega arith

-- a file is taken whose fault, if it has one, refuses it only where it is empty
taken_by : (cut : Bool) (file : List ℕ) (ks : List ChunkValue) (fault : Option Fault)
    → MatchOption fault (IsWellFormed ks file) (IsFault true file)
    → IfSome fault (λ own. 0 < length file → ¬ RefusesFor cut own.why) → IsUnrefused cut file
taken_by cut file ks None well_formed none = λ fault refused. fault_or_none true file fault refused.is_fault (ks, well_formed)
taken_by cut file ks (Some own) is none =
    λ fault refused.
    none (some_bytes file refused.some)
    (subst (λ (f : Fault). RefusesFor cut f.why) (fault_is_one true file fault own refused.is_fault is) refused.reason)

pub kept_front : (cut : Bool) (bytes : Option (List ℕ)) (size : ℕ) (front : Front) → IsSized bytes size
    → IfSome bytes (λ file. IsFrontOf file front) → IfSome front.fault (λ own. 0 < size → ¬ RefusesFor cut own.why)
    → IfSome bytes (λ file. IsUnrefused cut file × IsKeptTo file front.totals.bytes)
kept_front cut None size front sized is none = tt
kept_front cut (Some file) size front sized is none = (
  taken_by cut file is.ks front.fault is.fault
      (subst (λ (n : ℕ). IfSome front.fault (λ own. 0 < n → ¬ RefusesFor cut own.why)) sized none),
  (is.ks, is.longest),
)

-- of such a file, unless it is empty, its signature at least is kept
signed_by : (cut : Bool) (size bytes : ℕ) (fault : Option Fault) → (fault ≡ None → (bytes ≡ size) × (64 ≤ size))
    → IfSome fault (λ own. (own.why ≡ why.NoSignature) ⊎ (64 ≤ bytes))
    → IfSome fault (λ own. 0 < size → ¬ RefusesFor cut own.why) → 0 < size → 64 ≤ bytes
signed_by cut size bytes None whole signed none some = let (end, long) = whole refl in omega (arith, end, long)
signed_by cut size bytes (Some own) whole (inl unsigned) none some = absurd (none some (inl unsigned))
signed_by cut size bytes (Some own) whole (inr long) none some = long

pub kept_signed : (cut : Bool) (size : ℕ) (front : Front) → (front.fault ≡ None → (front.totals.bytes ≡ size) × (64 ≤ size))
    → IfSome front.fault (λ own. (own.why ≡ why.NoSignature) ⊎ (64 ≤ front.totals.bytes))
    → IfSome front.fault (λ own. 0 < size → ¬ RefusesFor cut own.why) → 0 < size → 64 ≤ front.totals.bytes
kept_signed cut size front = signed_by cut size front.totals.bytes front.fault

-- and refused where it does
pub refused_front : (cut : Bool) (bytes : Option (List ℕ)) (size : ℕ) (front : Front) (fault : Fault) → IsSized bytes size
    → IfSome bytes (λ file. IsFrontOf file front) → (front.fault ≡ Some fault) × (0 < size) × RefusesFor cut fault.why
    → IfSome bytes (λ file. IsRefusedToGrow cut file fault)
refused_front cut None size front fault sized is (own, some, reason) = tt
refused_front cut (Some file) size front fault sized is (own, some, reason) = record {
  some = λ none. omega (arith, sized, ap length none);
  is_fault = subst (λ (o : Option Fault). MatchOption o (IsWellFormed is.ks file) (IsFault true file)) own is.fault;
  reason = reason;
}

-- a refused file is refused with its own fault alone
pub refused_alone : (cut : Bool) (bytes : Option (List ℕ)) (fault : Fault) (result : Result Appended AppendEnd) → result ≡ Err (Refused fault)
    → IfSome bytes (λ file. IsRefusedToGrow cut file fault)
    → IfSome bytes (λ file. (own : Fault) → IsRefusedToGrow cut file own → (result ≡ Err (Refused own)) ⊎ (result ≡ Err Device))
refused_alone cut None fault result is refused = tt
refused_alone cut (Some file) fault result is refused =
    λ own also. inl (is ∙ ap (λ (f : Fault). Err (Refused f)) (fault_is_one true file fault own refused.is_fault also.is_fault))

-- and one that is taken with none
pub taken_never : (cut : Bool) (bytes : Option (List ℕ)) (place : ℕ) (result : Result Appended AppendEnd)
    → IfSome bytes (λ file. IsUnrefused cut file × IsKeptTo file place)
    → IfSome bytes (λ file. (own : Fault) → IsRefusedToGrow cut file own → (result ≡ Err (Refused own)) ⊎ (result ≡ Err Device))
taken_never cut None place result kept = tt
taken_never cut (Some file) place result (taken, kept) = λ own refused. absurd (taken own refused)

-- what a device told is how many bytes it has
pub sized_told : (bytes : Option (List ℕ)) (told : Option ℕ) (size : ℕ)
    → IfSome bytes (λ file. IfSome told (λ n. n ≡ length file)) → told ≡ Some size → IsSized bytes size
sized_told None told size sized is = tt
sized_told (Some file) told size sized is = subst (λ (o : Option ℕ). IfSome o (λ n. n ≡ length file)) is sized

-- where judging ended early, that is so too
pub complete_early : (cut : Bool) (bytes : Option (List ℕ)) (result : Result Appended AppendEnd) (end : VerifyEnd) → result ≡ Err (end_of_verify end)
    → ((fault : Fault) → end ≡ verify.Refused fault → IfSome bytes (λ file. IsRefusedToGrow cut file fault))
    → IfSome bytes (λ file. (own : Fault) → IsRefusedToGrow cut file own → (result ≡ Err (Refused own)) ⊎ (result ≡ Err Device))
complete_early cut None result end is refused = tt
complete_early cut (Some file) result (verify.Refused fault) is refused = refused_alone cut (Some file) fault result is (refused fault refl)
complete_early cut (Some file) result verify.Store is refused = λ own also. inr is

-- and a refusal is one by the same fault
pub refused_early : (end : VerifyEnd) (fault : Fault) → end_of_verify end ≡ Refused fault → end ≡ verify.Refused fault
refused_early (verify.Refused own) fault is = cc
refused_early verify.Store fault is = cc
