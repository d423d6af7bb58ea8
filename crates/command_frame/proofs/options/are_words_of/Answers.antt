use Rattle.std.proofs.Common.{rules, tests, ap, sym, ◌∙◌, length, map, nat_le, ◌&&◌, ℕ, Bool, List}
use Rattle.std.specs.String.{string_bytes}
use Rattle.std.specs.List.{list_all}
use Rattle.std.proofs.lemmas.List.Folds.{list_all-map}
use Rattle.std.proofs.lemmas.Iterator.{YieldsList-from_slice}
use Rattle.std.proofs.lemmas.Iterator.Search.{all_from_yields_List}
use Rattle.command_frame.specs.Options.{values_of, is_word_of}
use Rattle.command_frame.proofs.options.are_words_of.Goals as goal

pub returns-then-all : goal.returns-then-all
returns-then-all c =
    let options : List (List ℕ) = map (λ option. option.now) c.args.options.now in
    let words : List (List ℕ) = map string_bytes c.args.words.now in
    let once : List ℕ → Bool = λ option. nat_le (length (values_of option words)) 1 in
    let each_word = all_from_yields_List (λ word. is_word_of options (string_bytes word)) _ _ c.all.result c.all.ensures.ran
    (YieldsList-from_slice c.args.words.now cc) (λ x b q k. search (rules, tests)) in
    let each_option = all_from_yields_List (λ option. once option.now) _ _ c.all-then-all.result c.all-then-all.ensures.ran
    (YieldsList-from_slice c.args.options.now cc) (λ x b q k. search (rules, tests)) in
    each_option ∙ sym (list_all-map once (λ option. option.now) c.args.options.now)
    ∙ ap (λ all. all && list_all once options) (sym c.if-all.true ∙ each_word ∙ sym (list_all-map (is_word_of options) string_bytes c.args.words.now))

pub returns-else-all : goal.returns-else-all
returns-else-all c =
    let options : List (List ℕ) = map (λ option. option.now) c.args.options.now in
    let words : List (List ℕ) = map string_bytes c.args.words.now in
    let once : List ℕ → Bool = λ option. nat_le (length (values_of option words)) 1 in
    let each_word = all_from_yields_List (λ word. is_word_of options (string_bytes word)) _ _ c.all.result c.all.ensures.ran
    (YieldsList-from_slice c.args.words.now cc) (λ x b q k. search (rules, tests)) in
    c.if-all.false
    ∙ ap (λ all. all && list_all once options) (sym c.if-all.false ∙ each_word ∙ sym (list_all-map (is_word_of options) string_bytes c.args.words.now))
