use Rattle.riegeli_c.proofs.PartSteps.{begins_alike, part_there, part_one, part_joined, parts_whole}
use Rattle.riegeli_c.proofs.laws.parts_have_each_record_once.Goals as goal

pub returns : goal.returns
returns c = record {
  begins = begins_alike;
  some = part_there;
  one = part_one;
  joined = part_joined;
  whole = parts_whole;
}
