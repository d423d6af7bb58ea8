use Rattle.std.proofs.Common.{◌∙◌, not, rules, sym, tests}
use Rattle.std.specs.Prelude.{◌==◌}
use Rattle.std.proofs.lemmas.Iterator.{YieldsList-from_slice}
use Rattle.std.proofs.lemmas.Iterator.Adapters.{option_map_id}
use Rattle.std.proofs.lemmas.Iterator.Consumers.{YieldsList-from_copied}
use Rattle.std.proofs.lemmas.Iterator.Search.{find_from_yields_List}
use Rattle.record_ranges.proofs.file_sizes.first_other.Goals as goal

pub returns : goal.returns
returns c =
    sym (option_map_id c.find.result)
    ∙ find_from_yields_List (λ size. not (size == c.args.first)) _ _ c.find.result c.find.ensures.ran
    (YieldsList-from_copied (YieldsList-from_slice c.args.sizes.now cc)) (λ x b q k. search (rules, tests))
