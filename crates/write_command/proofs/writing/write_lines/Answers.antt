use Rattle.std.proofs.Common.{◌≡◌, ◌∙◌, ◌^◌, ◌+◌, Some, [], rules, length}
use Rattle.write_command.specs.Input.{most_input_taken, taken_from}
use Rattle.command_frame.specs.RunTakes.{TakesAtMost}
use Rattle.write_command.proofs.FeedSteps.{input-spent}
use Rattle.write_command.proofs.Origins.{taken-at_most}
use Rattle.write_command.proofs.WrittenLines.{read-spent}
use Rattle.write_command.proofs.writing.write_lines.Goals as goal

pub returns-clause-input : goal.returns-clause-input
returns-clause-input g c =
    let feed = c.write_records.new.feed in
    let taken : TakesAtMost most_input_taken (g.I.Source.left c.args.input.now) (g.I.Source.left feed.input.now) =
    taken-at_most _ _ most_input_taken feed.asked _ _ (c.write_records.ensures.feed.same_lent ∙ c.new-lines.ensures.origin) in
    record {
      to_end = read-spent c.write_records.result (g.I.Source.left c.args.input.now) _ _ _ (λ bytes. taken_from bytes c.args.words.now.hex (2 ^ 40))
          c.write_records.ensures.read_to_end c.new-lines.ensures.rest
          (λ spent. let all : g.I.Source.left feed.input.now ≡ Some [] = input-spent feed.hex (length feed.held + feed.asked) feed.held _ spent in search rules);
      taken = search rules;
      cause = search rules;
      never_falls = search rules;
    }
