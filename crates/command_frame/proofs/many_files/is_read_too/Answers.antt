use Rattle.std.proofs.Common.{rules, tests, refl, ◌-◌, List, ℕ, map}
use Rattle.std.specs.String.{string_bytes}
use Rattle.std.proofs.lemmas.Iterator.{YieldsList-from_range}
use Rattle.std.proofs.lemmas.Iterator.Search.{any_from_yields_List}
use Rattle.command_frame.specs.Options.{is_same_at}
use Rattle.command_frame.proofs.many_files.is_read_too.Goals as goal

pub returns : goal.returns
returns c =
    let words : List (List ℕ) = map string_bytes c.args.words.now in
    any_from_yields_List (λ place. is_same_at words place c.args.to) _ _ c.any.result c.any.ensures.ran
    (YieldsList-from_range 1 c.args.to (c.args.to - 1) (search rules) refl) (λ x b q k. search (rules, tests))
