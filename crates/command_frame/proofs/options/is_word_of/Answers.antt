use Rattle.std.proofs.Common.{rules, tests, sym, ◌∙◌, ◌≡◌, false, is_some}
use Rattle.std.proofs.lemmas.Iterator.{YieldsList-from_slice}
use Rattle.std.proofs.lemmas.Iterator.Search.{any_from_yields_List}
use Rattle.command_frame.proofs.OptionWords.{list_any-map}
use Rattle.command_frame.specs.Options.{is_file_word, value_in}
use Rattle.command_frame.proofs.options.is_word_of.Goals as goal

pub returns-else-is_file : goal.returns-else-is_file
returns-else-is_file c =
    let found = any_from_yields_List (λ option. is_some (value_in option.now c.args.word.now)) _ _ c.any.result c.any.ensures.ran
    (YieldsList-from_slice c.args.options.now cc) (λ x b q k. search (rules, tests)) in
    let no_file : is_file_word c.args.word.now ≡ false = sym c.if-is_file.ensures in
    rw no_file (found ∙ sym (list_any-map (λ option. is_some (value_in option c.args.word.now)) (λ option. option.now) c.args.options.now))
