use Rattle.std.proofs.Common.{rules, tests, ap, sym, ◌∙◌, nat_le, is_some}
use Rattle.std.specs.String.{string_bytes}
use Rattle.std.proofs.lemmas.Iterator.{YieldsList-from_slice}
use Rattle.std.proofs.lemmas.Iterator.Consumers.{YieldsList-from_filter, count_from_yields_List}
use Rattle.command_frame.proofs.OptionWords.{length-values_of}
use Rattle.command_frame.specs.Options.{value_in}
use Rattle.command_frame.proofs.options.stands_once_at_most.Goals as goal

pub returns : goal.returns
returns c =
    let count = count_from_yields_List c.filter.result c.count.result c.count.ensures.ran
    (YieldsList-from_filter _ (λ word. is_some (value_in c.args.option.now (string_bytes word))) (YieldsList-from_slice c.args.words.now cc)
    c.filter.ensures.closure (λ x b q k. search (rules, tests))) in
    ap (λ n. nat_le n 1) (count ∙ sym (length-values_of c.args.option.now string_bytes c.args.words.now))
