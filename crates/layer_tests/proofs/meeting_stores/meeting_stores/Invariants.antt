use Rattle.std.proofs.Common.{◌≡◌, All, Some, length, vec_len}
use Rattle.scripted_io.specs.Memory.{told_if}
use Rattle.layer_tests.specs.declared.meeting_stores.MeetingStore.{MeetingStore}
use Rattle.layer_tests.proofs.meeting_stores.meeting_stores.Given as goal

abbrev pub invariant-loop-i : goal.invariant-loop-i
invariant-loop-i l = record {
  count : vec_len l.stores ≡ l.i;
  told : All (λ (s : MeetingStore). told_if s.store.asked (length s.store.bytes) ≡ Some (length l.file)) l.stores.items;
}
