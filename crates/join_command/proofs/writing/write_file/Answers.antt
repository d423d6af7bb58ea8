use Rattle.std.proofs.Common.{ap, arith, rules}
use Rattle.simple_chunk.specs.Costs.{cost_of}
use Rattle.record_collect.specs.Batches.{in_turn}
use Rattle.record_writer.proofs.ListFeeds.{feed_bound-cost}
use Rattle.join_command.proofs.writing.write_file.Goals as goal

pub write_records-requires-clause-may_put : goal.write_records-requires-clause-may_put
write_records-requires-clause-may_put g c κs within = record {
  going = search rules;
  in_reach = omega (
    arith,
    c.of_lists-feed.ensures.bound,
    feed_bound-cost (in_turn c.batches.result.now),
    ap cost_of c.batches.ensures.value,
    c.batches.ensures.bounds.most,
  );
  in_limits = search rules;
}
