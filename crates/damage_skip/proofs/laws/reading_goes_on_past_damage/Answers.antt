use Rattle.damage_skip.proofs.PlacesFurtherOn.{resync_past, resync_one, resync_of}
use Rattle.damage_skip.proofs.laws.reading_goes_on_past_damage.Goals as goal

pub returns : goal.returns
returns c = record {
  past = λ file place to below h. let step = resync_past file place to below h in (step.past, step.within, step.boundary);
  one = resync_one;
  some = resync_of;
}
