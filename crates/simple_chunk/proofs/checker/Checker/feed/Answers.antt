use Rattle.std.proofs.Common.{arith}
use Rattle.std.proofs.lemmas.List.{length-take-le}
use Rattle.simple_chunk.proofs.Checking.{fed}
use Rattle.simple_chunk.proofs.checker.Checker.feed.Goals as goal

pub returns-clause-checked : goal.returns-clause-checked
returns-clause-checked c header bytes checked =
    let sizes = rw (← c.self.view_is) at c.take_sizes.ensures.follows in
    let front_many = length-take-le c.take_front.result c.args.piece.now c.take_front.ensures.some in
    let sizes_many = length-take-le c.take_sizes.result c.split_at.result.1.now c.take_sizes.ensures.some in
    fed _ _ _ header bytes c.args.piece.now _ _ c.take_front.result c.take_sizes.result _ c.take_front.ensures.follows c.split_at.ensures.back
    sizes c.split_at-2.ensures.back (rw (← c.self.view_is) at c.take_sizes.ensures.behind)
    (omega (arith, sizes.left, c.take_front.ensures.follows.left)) checked
