use Rattle.std.proofs.Common.{◌≤◌, vec_capacity}
use Rattle.simple_chunk.proofs.ReadEnds.{SizesRead}
use Rattle.simple_chunk.proofs.decoding.read_ends.Given as goal

abbrev pub invariant-loop-number : goal.invariant-loop-number
invariant-loop-number l = record {
  reading : SizesRead l.count l.whole l.sizes l.rest l.ends.items l.number l.end;
  room : l.count ≤ vec_capacity l.ends;
}
