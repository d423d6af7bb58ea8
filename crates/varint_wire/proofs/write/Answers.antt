use Rattle.std.proofs.Common.{refl, arith, ◌∙◌}
use Rattle.std.proofs.lemmas.List.{length-set}
use Rattle.varint_wire.specs.Varint.{shortest}
use Rattle.varint_wire.proofs.Bits.{marked_group}
use Rattle.varint_wire.proofs.Writing.{room_more, write_more, write_last, behind_more}
use Rattle.varint_wire.proofs.write.Goals as goal

pub loop-rest-init : goal.loop-rest-init
unfolding shortest
loop-rest-init c = record {
  ten = c.told-buf;
  room = omega arith;
  below = omega arith;
  written = refl;
  behind = refl;
}

pub loop-rest-preserved : goal.loop-rest-preserved
loop-rest-preserved c =
    let few = room_more c.loop-rest.at c.loop-rest.rest c.loop-rest.invariant.room c.loop-rest.invariant.below c.loop-rest-test.true in
    record {
      ten = length-set _ _ _ ∙ c.loop-rest.invariant.ten;
      room = omega arith;
      below = few.1;
      written = rw marked_group (write_more c.loop-rest.buf (shortest c.args.value) c.loop-rest.at c.loop-rest.rest (omega arith) few.0 c.loop-rest-test.true c.loop-rest.invariant.written);
      behind = behind_more c.loop-rest.buf c.args.buf.now c.loop-rest.at _ c.loop-rest.invariant.behind;
    }

pub returns-clause-written : goal.returns-clause-written
returns-clause-written c =
    write_last c.loop-rest.buf (shortest c.args.value) c.loop-rest.at c.loop-rest.rest (omega arith) c.loop-rest-test.false c.loop-rest.invariant.written
