use Rattle.std.proofs.Common.{arith}
use Rattle.block_layout.proofs.Ends.{end_of_room}
use Rattle.chunk_reader.proofs.heads.head_at.Goals as goal

pub returns-in_err-fill-clause-handed_at_most : goal.returns-in_err-fill-clause-handed_at_most
returns-in_err-fill-clause-handed_at_most g c =
    omega (arith, c.behind_header.ensures, c.if-behind_header-size.false, c.fill.ensures.store.handed, c.fill.auto.buf, end_of_room c.args.at 40)

pub returns-in-Some-clause-handed_at_most : goal.returns-in-Some-clause-handed_at_most
returns-in-Some-clause-handed_at_most g c =
    omega (arith, c.behind_header.ensures, c.if-behind_header-size.false, c.fill.ensures.store.handed, c.fill.auto.buf, end_of_room c.args.at 40)

pub returns-in-None-clause-handed_at_most : goal.returns-in-None-clause-handed_at_most
returns-in-None-clause-handed_at_most g c =
    omega (arith, c.behind_header.ensures, c.if-behind_header-size.false, c.fill.ensures.store.handed, c.fill.auto.buf, end_of_room c.args.at 40)
