use Rattle.std.proofs.Common.{rules, arith, tests}
use Rattle.std.specs.Char.{is_ascii_digit}
use Rattle.std.proofs.lemmas.Bool.Decides.{nat_tests}
use Rattle.std.proofs.lemmas.Iterator.Adapters.{YieldsList-from_bytes}
use Rattle.std.proofs.lemmas.Iterator.Search.{all_from_yields_List}
use Rattle.command_frame.proofs.numbers.is_numeral.Goals.{then-not-is_empty, else-not-is_empty}
use Rattle.command_frame.proofs.numbers.is_numeral.Goals as goal

pub returns-then-word-le-MOST_DIGITS : goal.returns-then-word-le-MOST_DIGITS
returns-then-word-le-MOST_DIGITS c =
    let digits = all_from_yields_List is_ascii_digit _ _ c.all.result c.all.ensures.ran (YieldsList-from_bytes c.args.word.now cc) (λ x b q k. search (rules, tests)) in
    elim c.if-not-is_empty.branch [ then-not-is_empty w ↦ grind (arith, nat_tests) | else-not-is_empty w ↦ grind (arith, nat_tests) ]
