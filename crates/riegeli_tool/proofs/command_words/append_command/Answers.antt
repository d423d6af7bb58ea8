use Rattle.std.proofs.Common.{◌≡◌, ◌∙◌, ℕ, Bool, Option, Some, None, List, ap, codes, map, rules, sym}
use Rattle.std.specs.String.{string_bytes}
use Rattle.write_command.specs.declared.write_words.WriteWords.{WriteWords}
use Rattle.command_frame.specs.Options.{has_flag, ◌>>=◌}
use Rattle.riegeli_tool.specs.declared.command.Command.{Command}
use Rattle.riegeli_tool.specs.declared.command.Command.TheVariants.{Append}
use Rattle.riegeli_tool.proofs.command_words.append_command.Goals as goal

-- what the words say, by what those of them do that `write` has too
abbrev said : (words : List (List ℕ)) → Option WriteWords → Option Command
said words lines = lines >>= λ write. Some (Append (record { write = write; cut = has_flag (codes "--cut") words }))

pub returns-in_err-line_words : goal.returns-in_err-line_words
returns-in_err-line_words c =
    let words : List (List ℕ) = map string_bytes c.args.words.now in
    let ended : c.from_residual.result ≡ None = search rules in
    ended ∙ sym (ap (said words) (sym c.line_words.ensures ∙ c.in_err-line_words.was))

pub returns : goal.returns
returns c =
    let words : List (List ℕ) = map string_bytes c.args.words.now in
    let flag : c.has_flag.result ≡ has_flag (codes "--cut") words = search rules in
    ap (λ (b : Bool). Some (Append (record { write = c.in_ok-line_words.field-0; cut = b }))) flag
    ∙ sym (ap (said words) (sym c.line_words.ensures ∙ c.in_ok-line_words.was))
