use Rattle.std.proofs.Common.{◌∙◌, ℕ, List, ap, take_all, arith}
use Rattle.std.specs.List.{enumerate_from, flat_map}
use Rattle.std.proofs.lemmas.List.FromFn.{length-enumerate_from}
use Rattle.record_collect.specs.Batches.{numbers_in}
use Rattle.join_command.specs.CollectCommand.{file_lines}
use Rattle.join_command.proofs.FileLines.{file-next}
use Rattle.join_command.proofs.place_lines.lines_at.Goals as goal

pub loop-file-preserved : goal.loop-file-preserved
loop-file-preserved c =
    file-next c.args.places.now c.loop-file.text.items c.push_file.new.text.items c.args.gathered.now.numbers c.loop-file.file
    (numbers_in c.spans.result.now) c.spans.ensures c.loop-file.invariant c.in_ok-push_file.ensures

pub returns : goal.returns
returns c =
    let numbers : List (List ℕ) = c.args.gathered.now.numbers in
    c.loop-file.invariant
    ∙ ap (flat_map (file_lines c.args.places.now))
    (take_all c.loop-file.file (enumerate_from 0 numbers) (omega (arith, length-enumerate_from 0 numbers, c.loop-file-test.false, c.requires.many)))
