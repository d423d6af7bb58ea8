use Rattle.std.proofs.Common.{◌≡◌, Ok, Err, map, ap}
use Rattle.chunk_reader.specs.declared.reasons.ReadEnd.TheVariants as read
use Rattle.record_ranges.proofs.Answering.{fault-told, ranges-bare}
use Rattle.record_ranges.proofs.reading.read_ranges.Goals as goal

pub returns-in-Ok-clause-ranges : goal.returns-in-Ok-clause-ranges
returns-in-Ok-clause-ranges g c = λ file same. ranges-bare file c.args.cuts.now c.in-Ok.stretches.items (c.in-Ok.ensures.ranges file same)

pub returns-in-Ok-clause-complete : goal.returns-in-Ok-clause-complete
returns-in-Ok-clause-complete g c =
    fault-told g.S.Store.bytes c.args.stores.now c.args.cuts.now (Ok (map (λ s. s.kept) c.in-Ok.stretches.items))
    (returns-in-Ok-clause-ranges g c) (λ fault never. absurd (cc))

pub returns-in-Err-clause-refused : goal.returns-in-Err-clause-refused
returns-in-Err-clause-refused g c = λ fault e.
    let end : c.in-Err.end ≡ read.Refused fault = cc in
    c.in-Err.ensures.refused fault (ap Err end)

pub returns-in-Err-clause-complete : goal.returns-in-Err-clause-complete
returns-in-Err-clause-complete g c =
    fault-told g.S.Store.bytes c.args.stores.now c.args.cuts.now (Err c.in-Err.end) tt (returns-in-Err-clause-refused g c)
