use Rattle.std.proofs.Common.{map, sym}
use Rattle.std.specs.String.{string_bytes}
use Rattle.riegeli_tool.proofs.CommandWords.{command_named-other}
use Rattle.riegeli_tool.proofs.words.command_named.Goals as goal

pub returns-in_default : goal.returns-in_default
returns-in_default c =
    sym (command_named-other c.args.name.now (map string_bytes c.args.words.now)
    c.in_default.not-write c.in_default.not-show c.in_default.not-verify c.in_default.not-seek c.in_default.not-repair c.in_default.not-sample c.in_default.not-join c.in_default.not-ranges
    c.in_default.not-append c.in_default.not-collect)
