use Rattle.std.proofs.Common.{rules}
use Rattle.record_ranges.proofs.Answering.{parts-more}
use Rattle.record_ranges.proofs.alone.read_alone.Goals as goal

pub loop-span-preserved : goal.loop-span-preserved
loop-span-preserved g c = record {
  read = parts-more g.K.Keeper.kept_as _ _ c.args.spans.now c.loop-span.span-index _ c.loop-span.parts.items _ c.in_ok-part.part c.loop-span.invariant.asks.same_bytes
      (search rules) (search rules) c.in-Ok.ensures.items c.loop-span.invariant.read c.in_ok-part.ensures.read;
  asks = search rules;
}
