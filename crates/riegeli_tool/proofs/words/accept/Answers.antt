use Rattle.std.proofs.Common.{◌≡◌, ◌∙◌, Option, None, Some, map, refl, sym, rules, tests}
use Rattle.std.specs.Option.{IfSome}
use Rattle.std.specs.String.{string_bytes}
use Rattle.riegeli_tool.specs.Commands.{command_of}
use Rattle.riegeli_tool.proofs.AcceptedLimits.{accepted-within}
use Rattle.riegeli_tool.proofs.FileAnswersExist.{accepted-takes}
use Rattle.riegeli_tool.proofs.words.accept.Goals as goal

-- what holds of each value that there may be
each_of : {A : Type 0} (P : A → Type 0) (o : Option A) → ((x : A) → o ≡ Some x → P x) → IfSome o P
each_of P None h = tt
each_of P (Some x) h = h x refl

pub returns-clause-command : goal.returns-clause-command
returns-clause-command c = search (rules, tests)

pub returns-clause-taken : goal.returns-clause-taken
returns-clause-taken c = each_of _ _ (λ command is.
    accepted-takes (command_of (map string_bytes c.args.words.now)) c.args.count command (sym (returns-clause-command c) ∙ is))

pub returns-clause-within : goal.returns-clause-within
returns-clause-within c = each_of _ _ (λ command is.
    accepted-within (map string_bytes c.args.words.now) c.args.count command (sym is ∙ returns-clause-command c))
