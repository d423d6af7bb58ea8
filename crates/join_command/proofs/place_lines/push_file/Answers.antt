use Rattle.std.proofs.Common.{◌≡◌, ◌∙◌, ◌++◌, ◌<◌, ℕ, Some, List, length, ap, sym, take_all, arith}
use Rattle.std.proofs.lemmas.Option.{slice_get-get_or}
use Rattle.record_collect.specs.declared.span.Span.{Span}
use Rattle.record_collect.specs.Batches.{numbers_in}
use Rattle.join_command.specs.CollectCommand.{file_lines}
use Rattle.join_command.proofs.FileLines.{span-next, within_span}
use Rattle.join_command.proofs.place_lines.push_file.Goals as goal

pub push_span-requires : goal.push_span-requires
push_span-requires c =
    within_span (λ (n : ℕ). n < length c.args.places.now) c.args.spans.now c.loop-i.i c.index-spans-i.result
    (slice_get-get_or c.args.spans.now c.loop-i.i c.index-spans-i.result c.loop-i-test.true ∙ ap Some (sym c.index-spans-i.is)) c.requires

pub loop-i-preserved : goal.loop-i-preserved
loop-i-preserved c =
    span-next c.args.file c.args.places.now c.args.text.now.items c.loop-i.text.items c.push_span.new.text.items c.args.spans.now c.loop-i.i c.index-spans-i.result
    (slice_get-get_or c.args.spans.now c.loop-i.i c.index-spans-i.result c.loop-i-test.true ∙ ap Some (sym c.index-spans-i.is))
    c.loop-i.invariant (c.in_ok-push_span.ensures c.args.file (c.as_bytes-file_number.ensures.value ∙ c.format.ensures.text))

pub returns : goal.returns
returns c =
    c.loop-i.invariant
    ∙ ap (λ (spans : List Span). c.args.text.now.items ++ file_lines c.args.places.now (c.args.file, numbers_in spans))
    (take_all c.loop-i.i c.args.spans.now (omega (arith, c.loop-i-test.false)))
