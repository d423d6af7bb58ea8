use Rattle.std.proofs.Common.{rules, ◌≡◌, ◌++◌, arith}
use Rattle.std.proofs.iter.Serving.{serving}
use Rattle.record_collect.specs.Takings.{CanBeFed}
use Rattle.record_collect.proofs.FedThreads.{can_be_fed-halves, fed_halves}
use Rattle.record_collect.proofs.slots.+slots.Goals as goal

pub join_mut-requires-after_bounds : goal.join_mut-requires-after_bounds
join_mut-requires-after_bounds g t c κs within =
    let low = c.split_at.result.0.now in
    let high = c.split_at.result.1.now in
    let x = c.split_at_mut-x.result.0.now in
    let y = c.split_at_mut-x.result.1.now in
    let front = c.split_at_mut-front.result.0.now in
    let back = c.split_at_mut-front.result.1.now in
    let cut : c.args.sizes.now ≡ low ++ high = search rules in
    let halves = can_be_fed-halves g.S.Store.told c.args.collector.now c.args.sizes.now low high c.args.fed.now x y
    c.args.stores.now front back cut c.split_at_mut-x.ensures.value c.split_at_mut-front.ensures.value
    (omega (arith, c.split_at.ensures.front_len, c.split_at_mut-front.ensures.front_len))
    (omega (arith, c.split_at_mut-x.ensures.front_len, c.split_at_mut-front.ensures.front_len)) c.requires in
    let front_ready : CanBeFed g.S.Store.told c.args.collector.now low x front = halves.0 in
    let back_ready : CanBeFed g.S.Store.told c.args.collector.now high y back = halves.1 in
    grind serving

pub returns : goal.returns
returns g t c = search (rules, fed_halves)
