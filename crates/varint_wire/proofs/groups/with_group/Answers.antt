use Rattle.std.proofs.Common.{ap, ◌∙◌, ◌*◌, ◌%◌, ◌^◌, bit_or}
use Rattle.varint_wire.proofs.Bits.{with_group_is}
use Rattle.varint_wire.proofs.groups.with_group.Goals as goal

pub returns : goal.returns
returns c =
    ap (λ x. bit_or c.args.value (x * 2 ^ (7 * c.args.at) % 2 ^ 64)) c.from.ensures ∙ with_group_is c.args.value c.args.byte c.args.at c.requires.below c.requires.ten c.requires.fits
