use Rattle.std.proofs.Common.{arith}
use Rattle.record_collect.proofs.FedThreads.{all_belong, can_be_fed}
use Rattle.record_collect.proofs.WholeGatherings.{answers-asked, answers-gathered, answers-many, owed}
use Rattle.record_io.proofs.ManyStores.{none_asked}
use Rattle.record_collect.proofs.gathering.gather_batches.Goals as goal

pub returns-in_default-clause-stores : goal.returns-in_default-clause-stores
returns-in_default-clause-stores g c =
    none_asked g.S.Store.bytes g.S.Store.told g.S.Store.name g.S.Store.faults c.args.stores.now (λ failed. cc)

pub returns-in_default-ready_fed-clause-stores : goal.returns-in_default-ready_fed-clause-stores
returns-in_default-ready_fed-clause-stores g c =
    none_asked g.S.Store.bytes g.S.Store.told g.S.Store.name g.S.Store.faults c.args.stores.now (λ failed. cc)

pub feed_into-requires-after_bounds : goal.feed_into-requires-after_bounds
feed_into-requires-after_bounds g c κs within =
    let made = c.in-Ok.ensures in
    can_be_fed g.S.Store.told c.in-Ok.collector c.args.sizes.now c.in-Ok.passes.items c.in-Ok-ready_fed.fed.items c.args.stores.now c.requires.sized
    (omega (arith, c.in-Ok.passes.ok, made.passes)) made.each c.in-Ok-ready_fed.ensures

pub all_gathered-requires-clause-belongs : goal.all_gathered-requires-clause-belongs
all_gathered-requires-clause-belongs g c =
    all_belong g.S.Store.bytes g.S.Store.told g.S.Store.name g.S.Store.faults _ c.args.stores.now c.feed_into.new.stores c.feed_into.new.fed.items
    c.feed_into.ensures.fed

pub returns-clause-many : goal.returns-clause-many
returns-clause-many g c =
    answers-many g.S.Store.bytes g.S.Store.told g.S.Store.name g.S.Store.faults _ c.args.stores.now c.feed_into.new.stores
    c.feed_into.new.fed.items c.feed_into.ensures.fed c.all_gathered.result c.all_gathered.ensures

pub returns-clause-gathered : goal.returns-clause-gathered
returns-clause-gathered g c =
    answers-gathered g.S.Store.bytes g.S.Store.told g.S.Store.name g.S.Store.faults _ c.args.stores.now c.feed_into.new.stores
    c.feed_into.new.fed.items c.feed_into.ensures.fed c.all_gathered.result c.all_gathered.ensures

pub returns-clause-complete : goal.returns-clause-complete
returns-clause-complete g c = λ files tells. owed files c.all_gathered.result (returns-clause-gathered g c files tells)

pub returns-clause-stores : goal.returns-clause-stores
returns-clause-stores g c =
    answers-asked g.S.Store.bytes g.S.Store.told g.S.Store.name g.S.Store.faults _ c.args.stores.now c.feed_into.new.stores
    c.feed_into.new.fed.items c.feed_into.ensures.fed c.all_gathered.result c.all_gathered.ensures
