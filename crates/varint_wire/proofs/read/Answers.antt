use Rattle.std.proofs.Common.{◌+◌, take, refl, arith, sym, below_more}
use Rattle.std.proofs.lemmas.List.{take-append-drop}
use Rattle.varint_wire.specs.Varint.{Spells}
use Rattle.varint_wire.specs.Reading.{IsLong}
use Rattle.varint_wire.proofs.Faults.{long_has_no_spelling, IsLong-at}
use Rattle.varint_wire.proofs.Steps.{value_below, value_more, Spells-at, spelled_once, room_for_more}
use Rattle.varint_wire.proofs.read.Goals as goal

is_long : (c : goal.Then-is_tenth_above_one) → IsLong c.args.bytes.now
is_long c =
    let big = c.is_tenth_above_one.ensures.0 c.if-is_tenth_above_one.true in
    IsLong-at c.args.bytes.now c.loop-at.at big.0 c.loop-at-test.true c.loop-at.invariant.high big.1

pub returns-then-is_tenth_above_one-clause-accepted : goal.returns-then-is_tenth_above_one-clause-accepted
returns-then-is_tenth_above_one-clause-accepted c = λ value front rest s e.
    absurd (long_has_no_spelling value c.args.bytes.now front rest (is_long c) s e)

pub returns-then-is_tenth_above_one-clause-long : goal.returns-then-is_tenth_above_one-clause-long
returns-then-is_tenth_above_one-clause-long c = (λ _. is_long c, λ _. refl)

pub with_group-value-requires-clause-below : goal.with_group-value-requires-clause-below
with_group-value-requires-clause-below c =
    let bound = value_below c.args.bytes.now c.loop-at.at (omega arith) in omega arith

spelled : (c : goal.Then-byte-lt128) → Spells c.with_group-value.result (take (c.loop-at.at + 1) c.args.bytes.now)
spelled c =
    let value = value_more c.args.bytes.now c.loop-at.at c.loop-at-test.true in
    Spells-at c.with_group-value.result c.args.bytes.now c.loop-at.at c.loop-at-test.true c.loop-at.invariant.few c.loop-at.invariant.high
    (λ i. omega (arith, c.type_inv.bytes i)) c.if-byte-lt128.true (omega arith) (omega arith)

pub returns-then-byte-lt128-clause-found : goal.returns-then-byte-lt128-clause-found
returns-then-byte-lt128-clause-found c = (omega arith, spelled c)

pub returns-then-byte-lt128-clause-accepted : goal.returns-then-byte-lt128-clause-accepted
returns-then-byte-lt128-clause-accepted c = λ value front rest s e.
    let once = spelled_once _ (c.loop-at.at + 1) value c.args.bytes.now front rest (omega arith) (spelled c) s e in cc

pub returns-then-byte-lt128-clause-long : goal.returns-then-byte-lt128-clause-long
returns-then-byte-lt128-clause-long c =
    (λ e. absurd cc, λ h. absurd (long_has_no_spelling _ c.args.bytes.now _ _ h (spelled c) (sym (take-append-drop (c.loop-at.at + 1) c.args.bytes.now))))

pub loop-at-preserved : goal.loop-at-preserved
loop-at-preserved c =
    let value = value_more c.args.bytes.now c.loop-at.at c.loop-at-test.true in
    record {
      few = room_for_more _ _ _ c.loop-at.invariant.few c.is_tenth_above_one.ensures c.if-is_tenth_above_one.false c.if-byte-lt128.false;
      high = below_more _ _ c.loop-at.invariant.high c.if-byte-lt128.false;
      value = omega arith;
    }
