use Rattle.std.proofs.Common.{◌∙◌, Err, ap, arith}
use Rattle.meta_chunk.proofs.Joins.{end-laid_each}
use Rattle.riegeli_c.specs.Writes.{chunks_told, records_cut}
use Rattle.riegeli_c.proofs.writing.riegeli_write.Goals as goal

pub returns-in-Ok-write-clause-room : goal.returns-in-Ok-write-clause-room
returns-in-Ok-write-clause-room c = λ _.
    let ks = chunks_told c.args.at (records_cut c.args.values.now c.args.ends.now) c.args.options.now c.args.last in
    omega (
      arith,
      c.write_into.ensures.room (c.in-Err-Made.is ∙ ap Err c.in-Err-Made.field-0-is),
      c.in-Ok-write.ensures.told.end,
      end-laid_each c.args.at ks,
    )
