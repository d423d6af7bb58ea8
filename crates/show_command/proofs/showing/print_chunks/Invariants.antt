use Rattle.std.proofs.Common.{◌≡◌, ◌+◌, ◌-◌, ◌≤◌, ℕ, false, Option, IfSome, List}
use Rattle.record_io.specs.Puts.{taken_by}
use Rattle.record_io.specs.Calls.{OnlyAsks, OnlyCounts}
use Rattle.chunk_reader.specs.Readers.{ReadsIn}
use Rattle.show_command.specs.ShowProgress.{IsPrinted}
use Rattle.show_command.proofs.showing.print_chunks.Given as goal

abbrev pub invariant-loop : goal.invariant-loop
invariant-loop g l = record {
  same_size : l.reader.size ≡ l.fn.size;
  strict : l.reader.unread_ok ≡ false;
  within : l.reader.totals.bytes ≤ l.reader.size;
  file : OnlyAsks g.S.Store.bytes g.S.Store.told g.S.Store.name g.S.Store.faults ⊥ l.fn.file l.file;
  reads : ReadsIn (g.S.Store.bytes l.file) (g.S.Store.told l.file) l.reader;
  printed : (made notes : Option (List ℕ)) → IfSome (g.S.Store.bytes l.fn.file) (λ bytes. IsPrinted l.words bytes l.reader.totals
      (taken_by made (g.O.Sink.taken l.fn.out) notes) (taken_by made (g.O.Sink.taken l.out) notes) l.lines);
  handed : g.S.Store.handed l.file ≤ g.S.Store.handed l.fn.file + l.reader.totals.bytes;
  out : OnlyCounts g.O.Sink.lent g.O.Sink.faults ⊥ l.fn.out l.out;
}

abbrev pub decreases-loop : goal.decreases-loop
decreases-loop g l = l.reader.size - l.reader.totals.bytes
