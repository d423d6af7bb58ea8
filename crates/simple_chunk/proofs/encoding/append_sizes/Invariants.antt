use Rattle.std.proofs.Common.{◌≡◌, ◌≤◌, ◌++◌, drop, vec_capacity}
use Rattle.chunk_header.specs.SimpleChunks.{sizes_of}
use Rattle.simple_chunk.proofs.encoding.append_sizes.Given as goal

-- what is written, and what the rest will add to it
abbrev pub invariant-loop-i : goal.invariant-loop-i
invariant-loop-i l = record {
  items : l.out.items ++ sizes_of (drop l.i l.records) ≡ l.fn.out.items ++ sizes_of l.records;
  room : vec_capacity l.fn.out ≤ vec_capacity l.out;
}
