use Rattle.std.proofs.Common.{◌≡◌, length, drop, sym, subst, rules}
use Rattle.record_ranges.specs.Reads.{AreAnswered}
use Rattle.record_ranges.proofs.Threads.{written}
use Rattle.record_ranges.proofs.slots.read_into.Goals as goal

pub returns : goal.returns
returns g c =
    let new = c.read_slots.new.answers in
    let count : length new ≡ c.args.answers.now.len = search rules in
    subst (AreAnswered g.K.Keeper.kept_as g.S.Store.bytes g.S.Store.told g.S.Store.name g.S.Store.faults c.args.spans.now c.args.stores.now c.read_slots.new.stores)
    (sym (written c.args.answers.now.len new (drop (length new) c.args.answers.now.items) count)) c.read_slots.ensures
