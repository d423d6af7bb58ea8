use Rattle.std.proofs.Common.{◌≡◌, ◌∙◌, sym, ap, arith}
use Rattle.std.proofs.lemmas.Bool.{both_ways}
use Rattle.std.proofs.lemmas.Bool.Decides.{Decides-eqb}
use Rattle.std.proofs.lemmas.Slice.Eq.{slice_eq-Decides}
use Rattle.meta_chunk.proofs.Signature.{laid-signature}
use Rattle.chunk_reader.specs.declared.reasons.Fault.{Fault}
use Rattle.chunk_reader.specs.declared.reasons.Why.TheVariants.{NoSignature}
use Rattle.chunk_reader.proofs.ChainReads.{signed_by_bytes, unsigned_by_bytes, unsigned_by_size}
use Rattle.chunk_reader.proofs.progress.check_signature.Goals as goal

abbrev no_signature : Fault
no_signature = record { at = 0; why = NoSignature }

pub returns-then-eq-clause-signed : goal.returns-then-eq-clause-signed
returns-then-eq-clause-signed g c =
    let same = slice_eq-Decides Decides-eqb _ _ _ c.eq.ensures in
    signed_by_bytes _ c.get_exact.new.buf c.in_ok-get_exact.ensures.exact (same.0 c.if-eq.true ∙ sym laid-signature)

pub returns-else-eq-clause-refused : goal.returns-else-eq-clause-refused
returns-else-eq-clause-refused g c =
    λ fault is.
    let same : no_signature ≡ fault = cc in
    let same_bytes = slice_eq-Decides Decides-eqb _ _ _ c.eq.ensures in (
      ap (λ (f : Fault). f.at) (sym same),
      ap (λ (f : Fault). f.why) (sym same),
      unsigned_by_bytes _ c.get_exact.new.buf c.in_ok-get_exact.ensures.exact
          (λ signed. both_ways c.eq.result c.if-eq.false (same_bytes.1 (signed ∙ laid-signature))),
    )

pub returns-else-size-clause-refused : goal.returns-else-size-clause-refused
returns-else-size-clause-refused g c =
    λ fault is.
    let same : no_signature ≡ fault = cc in (
      ap (λ (f : Fault). f.at) (sym same),
      ap (λ (f : Fault). f.why) (sym same),
      unsigned_by_size _ _ c.args.size (g.met.S.Store.sized c.args.store.now) c.requires.told (omega arith),
    )
