use Rattle.std.proofs.Common.{Ok, Err, ap, inl, inr, arith}
use Rattle.std.specs.Prelude.{length}
use Rattle.chunk_reader.specs.Holders.{IsHolderFault}
use Rattle.riegeli_c.proofs.Told.{shown}
use Rattle.riegeli_c.proofs.SplitSteps.{IsSplitOrEnd, first_begin, never_refused}
use Rattle.riegeli_c.proofs.splitting.riegeli_split.Goals as goal

pub returns-then-place-size-clause-split : goal.returns-then-place-size-clause-split
returns-then-place-size-clause-split c = λ _.
    let place = c.in-Ok.place in
    elim (shown (λ file. IsSplitOrEnd file (length c.args.file.now) c.args.at place) c.args.file.now _ c.new-store.ensures.bytes (c.in-Ok.ensures.split place (ap Ok c.in-Ok.place-is))) [
      | inl ended ↦ absurd (omega (arith, ended.1, c.if-place-size.true))
      | inr there ↦ (there.1, c.if-place-size.true)
    ]

pub returns-then-place-size-clause-whole : goal.returns-then-place-size-clause-whole
returns-then-place-size-clause-whole c = λ ks well_formed short.
    let place = c.in-Ok.place in
    first_begin ks c.args.file.now well_formed c.args.at place short
    (shown (λ file. IsSplitOrEnd file (length c.args.file.now) c.args.at place) c.args.file.now _ c.new-store.ensures.bytes (c.in-Ok.ensures.split place (ap Ok c.in-Ok.place-is)))

pub returns-else-place-size-clause-at_end : goal.returns-else-place-size-clause-at_end
returns-else-place-size-clause-at_end c = λ _.
    let place = c.in-Ok.place in
    elim (shown (λ file. IsSplitOrEnd file (length c.args.file.now) c.args.at place) c.args.file.now _ c.new-store.ensures.bytes (c.in-Ok.ensures.split place (ap Ok c.in-Ok.place-is))) [
      | inl ended ↦ (ended.1, inl ended.0)
      | inr there ↦ (omega (arith, there.2, c.if-place-size.false), inr there.1)
    ]

pub returns-else-place-size-clause-whole : goal.returns-else-place-size-clause-whole
returns-else-place-size-clause-whole c = λ ks well_formed short.
    let place = c.in-Ok.place in
    first_begin ks c.args.file.now well_formed c.args.at place short
    (shown (λ file. IsSplitOrEnd file (length c.args.file.now) c.args.at place) c.args.file.now _ c.new-store.ensures.bytes (c.in-Ok.ensures.split place (ap Ok c.in-Ok.place-is)))

pub returns-in-Err-Refused-clause-refused : goal.returns-in-Err-Refused-clause-refused
returns-in-Err-Refused-clause-refused c = λ _. (
  c.in-Err-Refused.met,
  shown (λ file. IsHolderFault file c.args.at c.in-Err-Refused.met) c.args.file.now _ c.new-store.ensures.bytes
      (c.in-Err-Refused.ensures.refused c.in-Err-Refused.met (ap Err c.in-Err-Refused.field-0-is)),
  c.of.ensures.place,
  c.of.ensures.why,
)

pub returns-in-Err-Refused-clause-whole : goal.returns-in-Err-Refused-clause-whole
returns-in-Err-Refused-clause-whole c = λ ks well_formed short.
    absurd (never_refused ks c.args.file.now well_formed c.args.at c.in-Err-Refused.met short
    (shown (λ file. IsHolderFault file c.args.at c.in-Err-Refused.met) c.args.file.now _ c.new-store.ensures.bytes
    (c.in-Err-Refused.ensures.refused c.in-Err-Refused.met (ap Err c.in-Err-Refused.field-0-is))))
