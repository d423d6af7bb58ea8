use Rattle.std.proofs.Common.{◌≡◌, ◌+◌, ◌-◌, ◌≤◌, length, take, IfSome}
use Rattle.record_io.specs.Calls.{OnlyAsks}
use Rattle.block_layout.specs.Layout.{end_of, usable_bytes_at}
use Rattle.chunk_reader.proofs.usable_bytes.UsableBytes.fill.Given as goal

abbrev pub invariant-loop-filled : goal.invariant-loop-filled
invariant-loop-filled g l = record {
  within : l.filled ≤ length l.buf;
  moved : l.self.place ≡ end_of l.fn.self.place l.filled;
  given : IfSome (g.S.Store.bytes l.fn.store) (λ file. take l.filled l.buf ≡ usable_bytes_at file l.fn.self.place l.filled);
  handed : g.S.Store.handed l.store ≤ g.S.Store.handed l.fn.store + l.filled;
  asks : OnlyAsks g.S.Store.bytes g.S.Store.told g.S.Store.name g.S.Store.faults ⊥ l.fn.store l.store;
}

abbrev pub decreases-loop-filled : goal.decreases-loop-filled
decreases-loop-filled g l = length l.buf - l.filled
