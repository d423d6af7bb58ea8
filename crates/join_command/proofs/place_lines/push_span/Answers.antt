use Rattle.std.proofs.Common.{◌∙◌, ◌++◌, ◌∷◌, ℕ, List, length, ap, arith}
use Rattle.std.specs.Prelude.{decimal}
use Rattle.command_frame.specs.Answers.{line}
use Rattle.join_command.proofs.FileLines.{in_range, place-next}
use Rattle.join_command.proofs.place_lines.push_span.Goals as goal

pub get-requires : goal.get-requires
get-requires c =
    in_range c.args.span.first c.args.span.count c.loop-number.number (length c.args.places.now)
    (omega (arith, c.loop-number.auto.number)) (omega (arith, c.loop-number-test.true)) c.requires

pub loop-number-preserved : goal.loop-number-preserved
loop-number-preserved c =
    λ file is.
    place-next file c.args.span.first c.loop-number.number c.get.result c.args.places.now c.args.text.now.items c.loop-number.text.items
    c.push_place.new.text.items (omega (arith, c.loop-number.auto.number)) c.get.ensures (c.loop-number.invariant file is)
    (c.in_ok-push_place.ensures ∙ ap (λ (number : List ℕ). c.loop-number.text.items ++ line (number ++ 32 ∷ decimal c.get.result)) is)
