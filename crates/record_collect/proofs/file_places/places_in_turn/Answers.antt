use Rattle.std.proofs.Common.{◌∙◌, [], ℕ, List, subst, take_all, arith}
use Rattle.record_collect.specs.Batches.{in_turn}
use Rattle.record_collect.specs.OpenChunks.{PlacesOn, opened_at}
use Rattle.record_collect.proofs.PlaceSteps.{places_on_file}
use Rattle.record_collect.proofs.file_places.places_in_turn.Goals as goal

pub returns : goal.returns
returns c =
    let size : ℕ = c.args.size in
    let placed : List (List (List ℕ)) → Type 0 = λ bs. PlacesOn size (opened_at 64) [] (in_turn bs) c.loop-k.chunk c.loop-k.places.items in
    c.of.ensures
    ∙ places_on_file size c.loop-k.chunk c.loop-k.places.items (in_turn c.args.batches.now)
    (subst placed (take_all c.loop-k.k c.args.batches.now (omega (arith, c.loop-k-test.false))) c.loop-k.invariant.on)
