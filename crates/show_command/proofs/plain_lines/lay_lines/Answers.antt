use Rattle.std.proofs.Common.{◌∙◌, ℕ, List, ◌++◌, take, sym, ap, arith, append_assoc}
use Rattle.std.proofs.lemmas.Option.{get_or_from_slice_get}
use Rattle.command_frame.specs.Answers.{line}
use Rattle.show_command.specs.ShowProgress.{plain_lines}
use Rattle.show_command.proofs.LinePuts.{flat_map-next}
use Rattle.show_command.proofs.plain_lines.lay_lines.Goals as goal

pub loop-number-preserved : goal.loop-number-preserved
loop-number-preserved c =
    let kept = c.loop-number.invariant in
    let records = c.args.records.now in
    let number = c.loop-number.number in
    let rec = c.get-rec.result.now in
    let front = plain_lines (take c.args.from records) in
    record {
      size = omega (arith, c.lay_line.auto.page, kept.size);
      fits = omega (arith, c.lay_line.auto.page);
      laid = ap (λ (xs : List ℕ). front ++ xs) c.lay_line.ensures
          ∙ sym (append_assoc front (take c.loop-number.count c.loop-number.page) (line rec))
          ∙ ap (λ (xs : List ℕ). xs ++ line rec) kept.laid
          ∙ ap (λ (r : List ℕ). plain_lines (take number records) ++ line r) (sym (get_or_from_slice_get records number rec rec c.get-rec.ensures))
          ∙ sym (flat_map-next line records number rec (omega (arith, c.loop-number-test.true, c.len-number-end.ensures)));
    }
