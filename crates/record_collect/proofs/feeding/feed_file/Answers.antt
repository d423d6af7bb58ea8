use Rattle.std.proofs.Common.{rules, false, Err, IfSome, List, Ok, Option, ap, subst, sym, ℕ}
use Rattle.chunk_reader.specs.Faults.{IsFault}
use Rattle.chunk_reader.specs.Readers.{IsAhead, ReadsIn}
use Rattle.chunk_reader.proofs.Loads.{refused_before}
use Rattle.record_collect.proofs.FedFiles.{behind_signature, refused-file, taken-signature}
use Rattle.record_collect.proofs.TakenRecords.{ready_belongs}
use Rattle.record_collect.proofs.feeding.feed_file.Goals as goal

pub loop-fed-init : goal.loop-fed-init
loop-fed-init g c =
    let begun = c.in_ok-reader.ensures in
    let reader = c.in_ok-reader.reader in
    record {
      strict = begun.unread_ok;
      behind = behind_signature reader.totals begun.totals;
      reads = subst (λ (told : Option ℕ). ReadsIn (g.S.Store.bytes c.behind_signature.new.store) told reader) (sym begun.store.same_told)
          (subst (λ (file : Option (List ℕ)). ReadsIn file (g.S.Store.told c.args.store.now) reader) (sym begun.store.same_bytes) begun.reads);
      belongs = ready_belongs c.args.collector.now c.args.fed c.requires.ready;
      taken = taken-signature _ reader.totals c.args.collector.now c.args.fed begun.chain begun.totals c.requires.ready;
      asks = search rules;
    }

pub returns-in_err-ahead : goal.returns-in_err-ahead
returns-in_err-ahead g c = record {
  belongs = search rules;
  taken = search rules;
  refused = λ fault e.
      let kept = c.loop-fed.invariant in
      let P : Option (List ℕ) → Type 0 = λ o. IfSome o (λ file. IsFault false file fault) in
      subst P kept.asks.same_bytes
      (refused-file _ c.loop-fed.reader fault kept.strict
      (c.in_err-ahead.ensures.refused fault (ap Err (refused_before c.in_err-ahead.field-0.0 fault (rw e at c.from_residual-in_err-ahead.ensures.1)))));
  asks = search rules;
}

pub feed_next-requires-clause-next : goal.feed_next-requires-clause-next
feed_next-requires-clause-next g c =
    let kept = c.loop-fed.invariant in
    let asked = c.ahead.ensures.store in
    let ahead = c.in-Some.ahead in
    record {
      strict = kept.strict;
      reads = subst (λ (told : Option ℕ). ReadsIn (g.S.Store.bytes c.ahead.new.store) told c.loop-fed.reader) (sym asked.same_told)
          (subst (λ (file : Option (List ℕ)). ReadsIn file (g.S.Store.told c.loop-fed.store) c.loop-fed.reader) (sym asked.same_bytes) kept.reads);
      is_ahead = subst (λ (file : Option (List ℕ)). IsAhead file c.loop-fed.reader ahead) (sym asked.same_bytes)
          (c.in_ok-ahead.ensures.ahead ahead (ap Ok c.in-Some.is));
    }
