use Rattle.std.proofs.Common.{ℕ, Err, ap}
use Rattle.chunk_reader.specs.PositionSearches.{AnswersAt, IsSearchFault}
use Rattle.chunk_reader.specs.Reasons.{Applies, NoneOf, loading_reasons}
use Rattle.riegeli_c.proofs.Told.{shown}
use Rattle.riegeli_c.proofs.seeking.riegeli_seek.Goals as goal

pub returns-in-Err-Refused-clause-refused : goal.returns-in-Err-Refused-clause-refused
returns-in-Err-Refused-clause-refused c = λ _. (
  c.in-Err-Refused.met,
  shown (λ file. IsSearchFault file c.args.at c.in-Err-Refused.met) c.args.file.now _ c.new-store.ensures.bytes
      (c.in-Err-Refused.ensures.refused c.in-Err-Refused.met (ap Err c.in-Err-Refused.field-0-is)),
  c.of.ensures.place,
  c.of.ensures.why,
)

pub returns-in-Err-Memory-clause-memory : goal.returns-in-Err-Memory-clause-memory
returns-in-Err-Memory-clause-memory c = λ _.
    shown (λ file. (place : ℕ) × AnswersAt file c.args.at place × NoneOf (Applies file place) loading_reasons) c.args.file.now _
    c.new-store.ensures.bytes (c.in-Err-Memory.ensures.memory (ap Err c.in-Err-Memory.field-0-is))
