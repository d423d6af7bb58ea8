use Rattle.std.proofs.Common.{◌≡◌, Option, true, Err, IfSome, List, ℕ, ap, sym, subst, inl, inr, arith, rules, lit≤}
use Rattle.block_layout.proofs.Ends.{end_of_room}
use Rattle.record_values.specs.declared.file_totals.Totals.{Totals}
use Rattle.chunk_reader.specs.Faults.{IsVerdict}
use Rattle.chunk_reader.specs.Pieces.{IsVerifiedIn}
use Rattle.chunk_reader.specs.Progress.{AreInBounds, AreReadFrom}
use Rattle.chunk_reader.proofs.FirstChunks.{AreInBounds-signature, signature_read}
use Rattle.chunk_reader.proofs.FrontsRead.{front_unsigned, front_refused}
use Rattle.chunk_reader.proofs.VerifySteps.{verified_totals, verified_read}
use Rattle.chunk_reader.proofs.verifying.count_front.Goals as goal

pub returns-in_err-check_signature-clause-refused : goal.returns-in_err-check_signature-clause-refused
returns-in_err-check_signature-clause-refused g c =
    λ fault e.
    front_unsigned (g.S.Store.bytes c.args.store.now) c.args.totals.now fault c.requires.no_chunks
    (c.in_err-check_signature.ensures.refused fault (ap Err (sym (rw e at c.from_residual.ensures.1))))

pub returns-in_err-check_signature-clause-signed : goal.returns-in_err-check_signature-clause-signed
returns-in_err-check_signature-clause-signed g c =
    λ fault e. inl (c.in_err-check_signature.ensures.refused fault (ap Err (sym (rw e at c.from_residual.ensures.1)))).1

pub loop-totals-init : goal.loop-totals-init
loop-totals-init g c = record {
  bounds = AreInBounds-signature c.args.size c.in_ok-check_signature.ensures.long;
  signed = lit≤ tt;
  read = signature_read true _ c.in_ok-check_signature.ensures.signed;
  handed = omega (arith, c.check_signature.ensures.store.handed);
  asks = search rules;
}

pub returns-in_err-passed-clause-refused : goal.returns-in_err-passed-clause-refused
returns-in_err-passed-clause-refused g c =
    λ fault e.
    let kept = c.loop-totals.invariant in
    let P : Option (List ℕ) → Type 0 = λ o. IfSome o (λ file. IsVerdict true file c.loop-totals.totals.bytes fault) in
    front_refused (g.S.Store.bytes c.args.store.now) (g.S.Store.told c.args.store.now) c.loop-totals.totals c.args.size fault
    (g.met.S.Store.sized c.args.store.now) c.requires.sized.is_told c.loop-totals-test.true kept.read c.in_ok-check_signature.ensures.signed
    (subst P kept.asks.same_bytes
    (c.in_err-passed.ensures.refused fault (ap Err (sym (rw e at c.from_residual-in_err-passed.ensures.1)))))

pub returns-in_err-passed-clause-signed : goal.returns-in_err-passed-clause-signed
returns-in_err-passed-clause-signed g c = λ fault e. inr c.loop-totals.invariant.signed

pub totals_with_chunk-requires-clause-bounds : goal.totals_with_chunk-requires-clause-bounds
totals_with_chunk-requires-clause-bounds g c =
    let kept = c.loop-totals.invariant.bounds in
    record {
      within = omega (arith, c.in_ok-passed.ensures.end.1, end_of_room c.loop-totals.totals.bytes 40);
      boundary = kept.boundary;
      signed = kept.signed;
      chunks = kept.chunks;
      records = kept.records;
      unread = kept.unread;
    }

pub loop-totals-smaller : goal.loop-totals-smaller
loop-totals-smaller g c =
    let ends : c.totals_with_chunk.result.bytes ≡ c.in_ok-passed.passed.end = ap (λ (t : Totals). t.bytes) c.totals_with_chunk.ensures in
    omega (arith, ends, c.in_ok-passed.ensures.end.1, end_of_room c.loop-totals.totals.bytes 40, c.loop-totals-test.true)

pub loop-totals-preserved : goal.loop-totals-preserved
loop-totals-preserved g c =
    let kept = c.loop-totals.invariant in
    let totals = c.loop-totals.totals in
    let passed = c.in_ok-passed.passed in
    let counts = sym c.totals_with_chunk.ensures in
    let P : Totals → Type 0 = λ t. IfSome (g.S.Store.bytes c.args.store.now) (λ file. AreReadFrom true file t) in
    let Q : Option (List ℕ) → Type 0 = λ o. IfSome o (λ file. IsVerifiedIn true file totals.bytes passed) in
    let ends : c.totals_with_chunk.result.bytes ≡ passed.end = ap (λ (t : Totals). t.bytes) c.totals_with_chunk.ensures in record {
      signed = omega (arith, ends, c.in_ok-passed.ensures.end.1, end_of_room c.loop-totals.totals.bytes 40, kept.signed);
      bounds = subst (AreInBounds c.args.size) counts (verified_totals c.args.size totals passed kept.bounds c.in_ok-passed.ensures.end);
      read = subst P counts
          (verified_read true _ totals passed c.in_ok-check_signature.ensures.signed
          (subst Q kept.asks.same_bytes c.in_ok-passed.ensures.passed) kept.read);
      handed = omega (arith, ap (λ (t : Totals). t.bytes) c.totals_with_chunk.ensures, c.in_ok-passed.ensures.handed, kept.handed);
      asks = search rules;
    }
