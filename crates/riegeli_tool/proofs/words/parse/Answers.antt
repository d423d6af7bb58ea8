use Rattle.std.proofs.Common.{Some, ap, map, option_map, sym, ◌∙◌}
use Rattle.std.specs.String.{string_bytes}
use Rattle.std.proofs.lemmas.Option.{slice_get-map}
use Rattle.riegeli_tool.proofs.CommandWords.{command_of-named}
use Rattle.riegeli_tool.proofs.words.parse.Goals as goal

pub returns : goal.returns
returns c =
    c.command_named.ensures
    ∙ sym (command_of-named (map string_bytes c.args.words.now) c.as_str.result.now
    (slice_get-map string_bytes c.args.words.now 0 ∙ ap (option_map string_bytes) (sym c.in_ok-first.ensures.value) ∙ ap Some (sym c.as_str.ensures.value)))
