use Rattle.std.proofs.Common.{rules, tests, nat_lt}
use Rattle.std.proofs.lemmas.Iterator.{YieldsList-from_slice}
use Rattle.std.proofs.lemmas.Iterator.Search.{any_from_yields_List}
use Rattle.command_frame.proofs.sizes.is_one_past.Goals as goal

pub returns : goal.returns
returns c =
    any_from_yields_List (λ size. nat_lt c.args.most size) _ _ c.any.result c.any.ensures.ran
    (YieldsList-from_slice c.args.sizes.now cc) (λ x b q k. search (rules, tests))
