use Rattle.std.proofs.Common.{◌∙◌, [], ◌∷◌, ◌++◌, sym, ap}
use Rattle.chunk_header.specs.SimpleChunks.{simple_chunk}
use Rattle.meta_chunk.specs.Laid.{end_of_chunk}
use Rattle.ordered_writer.proofs.RightChunks.{laid_with-right, value_of-header}
use Rattle.riegeli_c.proofs.LaidBy.{lays-puts, puts-at_once, laid-one}
use Rattle.riegeli_c.proofs.laying.put_chunk.Goals as goal

pub returns : goal.returns
returns g c =
    let k = simple_chunk c.args.chunk.now.records in
    let place = c.args.writer.now.position in
    lays-puts _ _ _ c.put_parts_into.result c.args.writer.now c.put_parts_into.new.self (k ∷ []) _ _ c.args.made.now c.put_parts_into.new.sink
    (puts-at_once _ _ _ c.put_parts_into.result _ _ _ c.args.made.now c.put_parts_into.new.sink c.put_parts_into.ensures.sink c.new-none.ensures)
    c.put_parts_into.ensures.goes_on
    (laid_with-right place c.header.result.now (c.data.result.0.now ++ c.data.result.1.now) k c.header.ensures c.data.ensures.joined ∙ sym (laid-one place k))
    (ap (end_of_chunk place) (value_of-header c.header.result.now (c.data.result.0.now ++ c.data.result.1.now) k c.header.ensures c.data.ensures.joined))
