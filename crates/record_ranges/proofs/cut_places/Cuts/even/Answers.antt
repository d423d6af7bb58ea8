use Rattle.std.proofs.Common.{arith}
use Rattle.record_ranges.proofs.EvenCuts.{even-more}
use Rattle.record_ranges.proofs.cut_places.Cuts.even.Goals as goal

pub loop-part-preserved : goal.loop-part-preserved
loop-part-preserved c = record {
  some = omega arith;
  made = even-more _ _ c.loop-part.part c.even_cut.result c.loop-part.places.items c.push.new.self.items c.loop-part.invariant.some
      c.loop-part.invariant.made c.even_cut.ensures c.in_ok-push.ensures.items;
}
