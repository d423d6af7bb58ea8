use Rattle.std.proofs.Common.{sym, ◌∙◌}
use Rattle.command_frame.proofs.Decimals.{number_in-parsed}
use Rattle.command_frame.proofs.numbers.number.Goals as goal

pub returns-then-is_numeral : goal.returns-then-is_numeral
returns-then-is_numeral c =
    c.ok.ensures.value ∙ number_in-parsed c.args.word.now c.parse.result (sym c.if-is_numeral.ensures) c.parse.ensures.value.0
