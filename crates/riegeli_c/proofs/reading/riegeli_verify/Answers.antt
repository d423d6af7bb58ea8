use Rattle.std.proofs.Common.{◌≡◌, ℕ, true, Some, List, subst}
use Rattle.std.specs.Prelude.{MatchOption, Option}
use Rattle.meta_chunk.specs.Files.{IsWellFormed}
use Rattle.chunk_reader.specs.Faults.{IsFault}
use Rattle.chunk_reader.specs.LongestFronts.{IsFrontOf}
use Rattle.chunk_reader.specs.declared.reasons.Fault.{Fault}
use Rattle.chunk_reader.specs.declared.verifying.Front.{Front}
use Rattle.chunk_reader.proofs.FileFaults.{fault_or_none}
use Rattle.riegeli_c.proofs.Told.{shown}
use Rattle.riegeli_c.proofs.reading.riegeli_verify.Goals as goal

-- the fault of a front that ends at one
fault_of : (file : List ℕ) (front : Front) (fault : Fault) → IsFrontOf file front → front.fault ≡ Some fault → IsFault true file fault
fault_of file front fault is same =
    subst (λ (o : Option Fault). MatchOption o (IsWellFormed is.ks file) (IsFault true file)) same is.fault

pub returns-in-Some-clause-refused : goal.returns-in-Some-clause-refused
returns-in-Some-clause-refused c = λ _. (
  c.in-Some.met,
  fault_of c.args.file.now c.in-Ok.front c.in-Some.met
      (shown (λ file. IsFrontOf file c.in-Ok.front) c.args.file.now _ c.new-store.ensures.bytes c.in-Ok.ensures.front) c.in-Some.is,
  c.of.ensures.place,
  c.of.ensures.why,
)

pub returns-in-Some-clause-exact : goal.returns-in-Some-clause-exact
returns-in-Some-clause-exact c = λ ks whole short.
    absurd (fault_or_none true c.args.file.now c.in-Some.met
    (fault_of c.args.file.now c.in-Ok.front c.in-Some.met
    (shown (λ file. IsFrontOf file c.in-Ok.front) c.args.file.now _ c.new-store.ensures.bytes c.in-Ok.ensures.front) c.in-Some.is)
    (ks, whole))
