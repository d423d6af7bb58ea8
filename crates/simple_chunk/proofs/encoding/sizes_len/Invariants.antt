use Rattle.std.proofs.Common.{◌≡◌, ◌+◌, length, drop}
use Rattle.chunk_header.specs.SimpleChunks.{sizes_of}
use Rattle.simple_chunk.proofs.encoding.sizes_len.Given as goal

-- what is counted, and what the rest will add to it
abbrev pub invariant-loop-i : goal.invariant-loop-i
invariant-loop-i l = l.len + length (sizes_of (drop l.i l.records)) ≡ length (sizes_of l.records)
