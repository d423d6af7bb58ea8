use Rattle.std.proofs.Common.{◌≡◌, ◌+◌, ◌∙◌, Some, [], length, rules}
use Rattle.record_append.specs.AppendAnswers.{AnswersGrown}
use Rattle.command_frame.specs.RunTakes.{TakesAtMost}
use Rattle.write_command.specs.Input.{most_input_taken}
use Rattle.write_command.proofs.FeedSteps.{input-spent}
use Rattle.write_command.proofs.Origins.{taken-at_most}
use Rattle.write_command.proofs.WrittenLines.{read-spent}
use Rattle.riegeli_tool.specs.AppendCommand.{lines_taken}
use Rattle.riegeli_tool.proofs.AppendSteps.{taken-given}
use Rattle.riegeli_tool.proofs.append.grow.Goals as goal

pub returns-clause-put : goal.returns-clause-put
returns-clause-put g c =
    let words = c.args.words.now in
    taken-given words (g.G.Store.bytes c.args.grown.now) _ _
    (λ file rest. AnswersGrown c.append.result words.write.options words.cut file rest (g.G.Store.bytes c.append.new.device))
    c.new-lines.ensures.rest c.append.ensures.grown

pub returns-clause-refused : goal.returns-clause-refused
returns-clause-refused g c = λ fault is.
    let refused = c.append.ensures.refuses.refused fault is in
    ((c.append.ensures.refuses.untouched fault is).1 ∙ c.requires.told, refused.0, refused.1, refused.2)

pub returns-clause-input : goal.returns-clause-input
returns-clause-input g c =
    let feed = c.append.new.feed in
    let taken : TakesAtMost most_input_taken (g.I.Source.left c.args.input.now) (g.I.Source.left feed.input.now) =
    taken-at_most _ _ most_input_taken feed.asked _ _ (c.append.ensures.feed.same_lent ∙ c.new-lines.ensures.origin) in
    record {
      to_end = read-spent c.append.result (g.I.Source.left c.args.input.now) _ _ _ (lines_taken c.args.words.now)
          c.append.ensures.read_to_end c.new-lines.ensures.rest
          (λ spent. let all : g.I.Source.left feed.input.now ≡ Some [] = input-spent feed.hex (length feed.held + feed.asked) feed.held _ spent in search rules);
      taken = search rules;
      cause = search rules;
      never_falls = search rules;
    }
