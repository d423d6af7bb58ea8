use Rattle.std.proofs.Common.{◌≡◌, length, ap, rules}
use Rattle.varint_wire.specs.Varint.{shortest}
use Rattle.simple_chunk.proofs.Sizes.{shortest-small}
use Rattle.simple_chunk.proofs.encoding.append_varint.Goals as goal

pub unwrap-requires : goal.unwrap-requires
unwrap-requires c =
    let one : length (shortest c.args.value) ≡ 1 = ap length (shortest-small c.args.value c.if-value-lt128.true) in
    search rules

pub returns-then-value-lt128 : goal.returns-then-value-lt128
returns-then-value-lt128 c = record {
  items = rw (shortest-small c.args.value c.if-value-lt128.true) (search rules);
  room = search rules;
}
