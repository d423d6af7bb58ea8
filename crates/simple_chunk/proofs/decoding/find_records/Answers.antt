use Rattle.std.proofs.Common.{length, refl, rules, ap}
use Rattle.std.specs.Option.{is_some}
use Rattle.chunk_header.specs.Views.{value_of}
use Rattle.simple_chunk.specs.Decoding.{AreEndsOf}
use Rattle.simple_chunk.proofs.PartLemmas.{none-unparted, none-sized, none-spelled, values-behind, IsSimple-ends}
use Rattle.simple_chunk.proofs.decoding.find_records.Goals as goal

pub returns-in_default-clause-judged : goal.returns-in_default-clause-judged
returns-in_default-clause-judged c = record {
  compressed = search rules;
  contents = λ _. (
    λ packed. let no = c.if-is_compressed.ensures.1 (packed.1, packed.2) in cc,
    none-unparted (value_of c.args.header.now c.args.bytes.now) (c.in_default.ensures.none refl),
  );
  accepted = λ h.
      absurd (none-unparted (value_of c.args.header.now c.args.bytes.now) (c.in_default.ensures.none refl) h);
}

pub returns-then-values-header-clause-judged : goal.returns-then-values-header-clause-judged
returns-then-values-header-clause-judged c = record {
  compressed = search rules;
  contents = λ _. (
    λ packed. let no = c.if-is_compressed.ensures.1 (packed.1, packed.2) in cc,
    none-sized (value_of c.args.header.now c.args.bytes.now) _ _ c.in-Some.ensures.parts c.if-values-header.true,
  );
  accepted = λ h.
      absurd (none-sized (value_of c.args.header.now c.args.bytes.now) _ _ c.in-Some.ensures.parts c.if-values-header.true h);
}

pub returns-in_default-2-clause-judged : goal.returns-in_default-2-clause-judged
returns-in_default-2-clause-judged c = record {
  compressed = search rules;
  contents = λ _. (
    λ packed. let no = c.if-is_compressed.ensures.1 (packed.1, packed.2) in cc,
    none-spelled (value_of c.args.header.now c.args.bytes.now) _ _ c.in-Some.ensures.parts c.if-values-header.false
        (c.in_ok-ends.ensures.none (ap is_some c.in_default-2.is)),
  );
  accepted = λ h.
      absurd (none-spelled (value_of c.args.header.now c.args.bytes.now) _ _ c.in-Some.ensures.parts c.if-values-header.false
      (c.in_ok-ends.ensures.none (ap is_some c.in_default-2.is)) h);
}

pub returns-clause-holds : goal.returns-clause-holds
returns-clause-holds c =
    let found : AreEndsOf c.args.header.now.num_records (length c.in-Some.values.now) c.in-Some.sizes.now c.in-Some-2.ends.items = search rules in
    rw (values-behind _ _ _ c.in-Some.ensures.parts)
    (IsSimple-ends (value_of c.args.header.now c.args.bytes.now) _ _ c.in-Some-2.ends.items c.requires.simple c.in-Some.ensures.parts
    c.if-values-header.false found.ends.order found.counted found.spelled)
