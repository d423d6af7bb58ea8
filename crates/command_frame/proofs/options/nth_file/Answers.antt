use Rattle.std.proofs.Common.{rules, tests, ap, sym, ◌∙◌, length, map, ℕ, ◌-◌, List}
use Rattle.std.specs.String.{string_bytes}
use Rattle.std.proofs.lemmas.List.{length-map}
use Rattle.std.proofs.lemmas.Iterator.{YieldsList-from_range}
use Rattle.std.proofs.lemmas.Iterator.Adapters.{option_map_id}
use Rattle.std.proofs.lemmas.Iterator.Consumers.{YieldsList-from_filter, nth_from_yields_List}
use Rattle.command_frame.specs.Options.{is_file_at}
use Rattle.command_frame.proofs.options.nth_file.Goals as goal

pub returns : goal.returns
returns c =
    let words : List (List ℕ) = map string_bytes c.args.words.now in
    let count = ap (λ n. n - 1) (sym (length-map c.args.words.now string_bytes)) in
    sym (option_map_id c.nth.result) ∙ nth_from_yields_List c.nth.result _ c.args.n c.nth.ensures.ran
    (YieldsList-from_filter _ (is_file_at words) (YieldsList-from_range 1 (length c.args.words.now) (length words - 1) (search rules) count)
    c.filter.ensures.closure (λ x b q k. search (rules, tests)))
