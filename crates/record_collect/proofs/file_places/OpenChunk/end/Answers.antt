use Rattle.std.proofs.Common.{arith}
use Rattle.varint_wire.proofs.Spellings.{length-shortest}
use Rattle.record_collect.proofs.file_places.OpenChunk.end.Goals as goal

pub overflow_add-data_size : goal.overflow_add-data_size
overflow_add-data_size c = omega (arith, c.len-sizes_len.ensures, length-shortest c.args.self.now.sizes)

pub overflow_add-data_size-2 : goal.overflow_add-data_size-2
overflow_add-data_size-2 c =
    omega (arith, c.len-sizes_len.ensures, length-shortest c.args.self.now.sizes, c.requires.sound.few, c.requires.near)

pub overflow_add-data_size-3 : goal.overflow_add-data_size-3
overflow_add-data_size-3 c =
    omega (arith, c.len-sizes_len.ensures, length-shortest c.args.self.now.sizes, c.requires.sound.few, c.requires.near)
