use Rattle.record_collect.proofs.feeding.feed_next.Goals as goal

pub returns-in-Err : goal.returns-in-Err
returns-in-Err g c = c.pass_next.ensures c.args.collector.now c.args.fed c.records_cost.result c.records_cost.ensures c.in-Err.ensures.without
