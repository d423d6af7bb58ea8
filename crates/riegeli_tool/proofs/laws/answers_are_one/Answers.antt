use Rattle.std.proofs.Common.{length}
use Rattle.riegeli_tool.specs.Commands.{accepted}
use Rattle.riegeli_tool.proofs.CommandLaws.{one_answer}
use Rattle.riegeli_tool.proofs.laws.answers_are_one.Goals as goal

pub returns : goal.returns
returns c = record { one = λ words r a b one. one_answer (accepted words (length r.files)) r a b one }
