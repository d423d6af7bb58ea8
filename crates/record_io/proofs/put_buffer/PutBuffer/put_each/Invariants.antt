use Rattle.std.proofs.Common.{◌++◌, map, take}
use Rattle.std.specs.List.{concat}
use Rattle.record_io.specs.Buffers.{TakesAndHolds}
use Rattle.record_io.specs.Calls.{OnlyCounts}
use Rattle.record_io.proofs.put_buffer.PutBuffer.put_each.Given as goal

abbrev pub invariant-loop-piece : goal.invariant-loop-piece
invariant-loop-piece g l = record {
  whole : TakesAndHolds (g.M.Sink.taken l.fn.sink) (g.M.Sink.taken l.sink) (l.fn.self ++ concat (take l.piece-index (map (λ piece. piece.now) l.pieces))) l.self;
  counts : OnlyCounts g.M.Sink.lent g.M.Sink.faults ⊥ l.fn.sink l.sink;
}
