use Rattle.std.proofs.Common.{rules, ◌∙◌, Err, ap, subst, sym}
use Rattle.chunk_header.specs.declared.Header.{Header}
use Rattle.chunk_header.specs.Views.{value_of, value_of_chunk}
use Rattle.record_collect.specs.declared.feeding.Fed.{Fed}
use Rattle.record_collect.specs.declared.feeding.Fed.TheVariants.{Whole, TooLong}
use Rattle.record_collect.specs.Passes.{PassValue}
use Rattle.record_collect.specs.Takings.{HoldsOn}
use Rattle.record_collect.proofs.FedFiles.{next-moved, next-simple, refused-file, simple-cost, taken-more}
use Rattle.record_collect.proofs.TakenRecords.{holds_none, holds_put}
use Rattle.record_collect.proofs.feeding.hold_next.Goals as goal

pub returns-in_err-what : goal.returns-in_err-what
returns-in_err-what g c = λ collector fed is. record {
  goes_on = search rules;
  belongs = search rules;
  taken = search rules;
  refused = λ fault e.
      refused-file _ _ fault c.requires.next.strict (c.in_err-what.ensures.refused fault (ap Err (sym (rw e at c.from_residual.ensures.1))));
  asks = search rules;
}

pub returns-then-has_long : goal.returns-then-has_long
returns-then-has_long g c = λ collector fed is.
    let judged = c.in_ok-what.field-0 in
    let next = c.in_ok-what.ensures.chunk in
    let simple = next-simple _ c.args.reader.now c.read.new.self judged c.in-Records.records next c.in-Records.is in
    record {
      goes_on = (c.read.ensures.goes_on, next-moved _ c.args.reader.now c.read.new.self judged next);
      belongs = tt;
      taken = taken-more _ c.args.reader.now c.read.new.self judged c.in-Records.records fed TooLong c.requires.next.strict next simple
          (holds_none fed c.in-Records.records (c.has_long.ensures.long c.if-has_long.true));
      refused = search rules;
      asks = search rules;
    }

pub fill-requires-clause-cost : goal.fill-requires-clause-cost
fill-requires-clause-cost g c =
    let judged = c.in_ok-what.field-0 in
    let next = c.in_ok-what.ensures.chunk in
    let simple = next-simple _ c.args.reader.now c.read.new.self judged c.in-Records.records next c.in-Records.is in
    simple-cost c.args.ahead.now.header (value_of_chunk judged.chunk) c.in-Records.records c.args.reserved.cost c.requires.cost simple
    (ap (λ (h : Header). value_of h judged.chunk.bytes) c.in_ok-what.ensures.header) next.judged.small

pub returns : goal.returns
returns g c = λ collector fed is.
    let judged = c.in_ok-what.field-0 in
    let next = c.in_ok-what.ensures.chunk in
    let simple = next-simple _ c.args.reader.now c.read.new.self judged c.in-Records.records next c.in-Records.is in
    let pass : PassValue = c.in_ok-fill.field-0 in
    let filled = c.in_ok-fill.ensures in
    record {
      goes_on = (c.read.ensures.goes_on, next-moved _ c.args.reader.now c.read.new.self judged next);
      belongs = (ap (λ (p : PassValue). p.table) filled ∙ is.is_reserved.table ∙ is.belongs, ap (λ (p : PassValue). p.ended) filled);
      taken = taken-more _ c.args.reader.now c.read.new.self judged c.in-Records.records fed (Whole pass) c.requires.next.strict next simple
          (subst (λ (f : Fed). HoldsOn f (Whole pass) c.in-Records.records) (sym is.whole)
          (holds_put is.pass pass c.args.reserved c.args.reserved.cost c.in-Records.records is.is_reserved filled));
      refused = search rules;
      asks = search rules;
    }
