use Rattle.std.proofs.Common.{◌≡◌, ◌+◌, ◌-◌, ◌<◌, ◌≤◌, [], ◌∷◌, ◌++◌, refl, subst, arith, rules}
use Rattle.std.proofs.lemmas.List.{nil_from_length}
use Rattle.simple_chunk.specs.Records.{AreEnds}
use Rattle.simple_chunk.proofs.SizeLemmas.{AreSizes-few}
use Rattle.simple_chunk.proofs.ReadEnds.{SizesRead-more, SizesRead-unsplit, SizesRead-above, SizesRead-spelled}
use Rattle.simple_chunk.proofs.decoding.read_ends.Goals as goal

pub returns-then-count-sizes-clause-none : goal.returns-then-count-sizes-clause-none
returns-then-count-sizes-clause-none c = λ _ h. omega (arith, AreSizes-few _ _ _ h)

pub returns-in_default-clause-none : goal.returns-in_default-clause-none
returns-in_default-clause-none c = λ _ h.
    SizesRead-unsplit _ _ _ _ _ _ _ c.loop-number.invariant.reading c.loop-number-test.true (c.in_default.ensures.none refl) (rw c.in_ok-count.ensures h)

pub returns-then-size-from-clause-none : goal.returns-then-size-from-clause-none
returns-then-size-from-clause-none c = λ _ h.
    let above : c.args.whole - c.loop-number.end < c.in-Some.size = omega (arith, c.if-size-from.true, c.from.ensures, c.in_ok-last.ensures) in
    SizesRead-above _ _ _ _ _ _ _ _ _ c.loop-number.invariant.reading c.in-Some.ensures.found above (rw c.in_ok-count.ensures h)

pub loop-number-preserved : goal.loop-number-preserved
loop-number-preserved c =
    let fits : c.in-Some.size ≤ c.args.whole - c.loop-number.end = omega (arith, c.if-size-from.false, c.from.ensures, c.in_ok-last.ensures) in
    let more = SizesRead-more _ _ _ _ _ _ _ _ _ c.loop-number.invariant.reading c.in-Some.ensures.found fits in
    let items : c.push.new.self.items ≡ c.loop-number.ends.items ++ (c.loop-number.end + c.in-Some.size) ∷ [] = search rules in
    record { reading = rw items more; room = search rules }

pub returns-clause-ends : goal.returns-clause-ends
returns-clause-ends c =
    let reading = c.loop-number.invariant.reading in
    let last : c.loop-number.end ≡ c.args.whole = omega (arith, c.if-end-last.false, c.in_ok-last.ensures) in
    record {
      ends = record {
        order = subst (AreEnds 0 c.loop-number.ends.items) last reading.ends_are;
        few = omega (arith, reading.many, c.loop-number-test.false, c.loop-number.auto.number-end, c.in_ok-count.ensures);
      };
      counted = search rules;
      spelled = SizesRead-spelled _ _ _ _ _ _ _ reading (nil_from_length _ (search rules));
    }
