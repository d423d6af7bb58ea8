use Rattle.std.proofs.Common.{◌∙◌, ◌++◌, ◌∷◌, [], ℕ, ap, arith}
use Rattle.record_collect.proofs.PlaceSteps.{cost_more, places_on_next}
use Rattle.record_collect.proofs.file_places.OpenChunk.place_all.Goals as goal

pub loop-i-preserved : goal.loop-i-preserved
loop-i-preserved c = record {
  on = places_on_next c.args.size c.args.self.now c.loop-i.self c.place.new.self c.args.places.now.items c.loop-i.places.items
      c.push.new.self.items c.args.records.now c.loop-i.i c.get.result.now c.get.ensures c.loop-i.invariant.on c.place.ensures.chunk
      (c.in_ok-push.ensures.items ∙ ap (λ (n : ℕ). c.loop-i.places.items ++ n ∷ []) c.place.ensures.place);
  sound = c.place.ensures.sound;
  near = omega (arith, c.place.ensures.near, c.loop-i.invariant.near, cost_more c.args.records.now c.loop-i.i c.get.result.now c.get.ensures);
}
