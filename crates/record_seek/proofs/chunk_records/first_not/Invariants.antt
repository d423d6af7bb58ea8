use Rattle.std.proofs.Common.{◌≡◌, ℕ, ◌<◌, Some, List}
use Rattle.std.specs.Prelude.{slice_get}
use Rattle.record_seek.specs.KeyTests.{StandsBefore}
use Rattle.record_seek.proofs.chunk_records.first_not.Given as goal

abbrev pub invariant-loop-number : goal.invariant-loop-number
invariant-loop-number g l =
    (i : ℕ) (bytes : List ℕ) → i < l.number → slice_get l.chunk.records i ≡ Some bytes → StandsBefore g.F.Fn l.test.test bytes
