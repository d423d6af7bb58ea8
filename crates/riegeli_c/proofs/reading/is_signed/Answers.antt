use Rattle.std.proofs.Common.{◌≡◌, ◌∙◌, ◌↔◌, ℕ, Bool, true, IsTrue, List, ◌++◌, length, take, drop, refl, sym, ap, subst}
use Rattle.std.proofs.lemmas.Bool.Decides.{Decides-eqb}
use Rattle.std.proofs.lemmas.List.{take_at, take-append-drop}
use Rattle.std.proofs.lemmas.Slice.Eq.{starts_is}
use Rattle.meta_chunk.specs.Files.{signature_bytes}
use Rattle.meta_chunk.specs.declared.file_signature.TheConstants.{SIGNATURE}
use Rattle.meta_chunk.proofs.Signature.{laid-signature}
use Rattle.chunk_reader.specs.Faults.{BeginsWithSignature}
use Rattle.riegeli_c.proofs.reading.is_signed.Goals as goal

-- a file begins as another list does exactly where that is its front
signed : (file front : List ℕ) (r : Bool) → signature_bytes ≡ front
    → (r ≡ true → file ≡ front ++ drop (length front) file) × ((rest : List ℕ) → file ≡ front ++ rest → r ≡ true)
    → IsTrue r ↔ BeginsWithSignature file
signed file front r same (reads, told) = (
  λ is. subst (λ (t : List ℕ). take (length t) file ≡ t) (sym same)
      (ap (take (length front)) (reads is) ∙ take_at front (drop (length front) file) (length front) refl),
  λ begins.
      told (drop (length front) file)
      (sym (take-append-drop (length front) file)
      ∙ ap (λ (t : List ℕ). t ++ drop (length front) file) (subst (λ (t : List ℕ). take (length t) file ≡ t) same begins)),
)

pub returns : goal.returns
returns c =
    signed c.args.file.now SIGNATURE c.starts_with.result laid-signature
    (starts_is Decides-eqb c.args.file.now SIGNATURE c.starts_with.result c.starts_with.ensures.value)
