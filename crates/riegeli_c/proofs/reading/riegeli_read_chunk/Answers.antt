use Rattle.std.proofs.Common.{rules, ◌≡◌, ℕ, ◌^◌, ◌≤◌, ◌⊎◌, true, Err, List, length, refl, ap, inl, inr, arith}
use Rattle.block_layout.specs.Layout.{IsBoundary}
use Rattle.chunk_reader.specs.Contents.{IsJudgedIn, records_given}
use Rattle.chunk_reader.specs.Faults.{IsVerdict}
use Rattle.chunk_reader.specs.declared.reasons.Why.TheVariants.{NoSignature}
use Rattle.riegeli_c.specs.Chunks.{IsBadPlace}
use Rattle.chunk_reader.specs.Reasons.{Applies, strict_reasons}
use Rattle.chunk_reader.proofs.NoReason.{none_is_first}
use Rattle.riegeli_c.proofs.ChunkSteps.{chunk_told, chunk_status, signed_is_long, none_at_end}
use Rattle.riegeli_c.proofs.Told.{shown}
use Rattle.riegeli_c.proofs.reading.riegeli_read_chunk.Goals as goal

-- a place that may be asked for
is_fine : (file : List ℕ) (place : ℕ) → length file ≤ 2 ^ 60 → place ≤ length file → IsBoundary place → ¬ IsBadPlace file place
is_fine file place short within boundary (inl long) = omega (arith, short, long)
is_fine file place short within boundary (inr (inl past)) = omega (arith, within, past)
is_fine file place short within boundary (inr (inr apart)) = apart boundary

-- a chunk that is told has no other status
is_other : (status other : ℕ) → (status ≡ 0) ⊎ (status ≡ 4) → ¬ (other ≡ 0) → ¬ (other ≡ 4) → ¬ (status ≡ other)
is_other status other (inl given) some most same = some (omega (arith, given, same))
is_other status other (inr small) some most same = most (omega (arith, small, same))

pub returns-then-not-begins_right-clause-refused :
    goal.returns-then-not-begins_right-clause-refused
returns-then-not-begins_right-clause-refused c = λ _.
    let wrong = c.begins_right.ensures.wrong (search rules) in
    (record { at = 0; why = NoSignature }, inl (wrong.0, wrong.1, refl), c.of.ensures.place, c.of.ensures.why)

pub returns-in-Ok-clause-given : goal.returns-in-Ok-clause-given
returns-in-Ok-clause-given c = λ is. (
  records_given c.in-Ok.judged.what,
  chunk_told c.args.file.now (length c.args.file.now) c.args.at c.give_chunk.new.chunk c.in-Ok.judged c.in-Ok.ensures.judged
      (shown (λ file. IsJudgedIn true file c.args.at c.in-Ok.judged) c.args.file.now _ c.new-store.ensures.bytes c.in-Ok.ensures.sound)
      c.give_chunk.ensures.told,
  c.give_chunk.ensures.given is,
)

pub returns-in-Ok-clause-refused : goal.returns-in-Ok-clause-refused
returns-in-Ok-clause-refused c = λ is. absurd (is_other c.give_chunk.result 1 c.give_chunk.ensures.status (λ e. omega (arith, e)) (λ e. omega (arith, e)) is)

pub returns-in-Ok-clause-bad : goal.returns-in-Ok-clause-bad
returns-in-Ok-clause-bad c = (
  λ is. absurd (is_other c.give_chunk.result 2 c.give_chunk.ensures.status (λ e. omega (arith, e)) (λ e. omega (arith, e)) is),
  λ bad.
      absurd (is_fine c.args.file.now c.args.at (omega (arith, c.if-size-gt-MOST_FILE_BYTES.false)) (omega (arith, c.if-at-size.false))
      (c.is_boundary.ensures.0 (search rules)) bad),
)

pub returns-in-Ok-clause-memory : goal.returns-in-Ok-clause-memory
returns-in-Ok-clause-memory c = λ is.
    absurd (is_other c.give_chunk.result 3 c.give_chunk.ensures.status (λ e. omega (arith, e)) (λ e. omega (arith, e)) is)

pub returns-in-Ok-clause-signed : goal.returns-in-Ok-clause-signed
returns-in-Ok-clause-signed c = λ _. c.begins_right.ensures.right (search rules)

pub returns-in-Ok-clause-room : goal.returns-in-Ok-clause-room
returns-in-Ok-clause-room c = λ is. (
  records_given c.in-Ok.judged.what,
  chunk_told c.args.file.now (length c.args.file.now) c.args.at c.give_chunk.new.chunk c.in-Ok.judged c.in-Ok.ensures.judged
      (shown (λ file. IsJudgedIn true file c.args.at c.in-Ok.judged) c.args.file.now _ c.new-store.ensures.bytes c.in-Ok.ensures.sound)
      c.give_chunk.ensures.told,
  c.give_chunk.ensures.room is,
)

pub returns-in-Err-Refused-clause-refused : goal.returns-in-Err-Refused-clause-refused
returns-in-Err-Refused-clause-refused c = λ _. (
  c.in-Err-Refused.met,
  inr (
    c.begins_right.ensures.right (search rules),
    shown (λ file. IsVerdict true file c.args.at c.in-Err-Refused.met) c.args.file.now _ c.new-store.ensures.bytes
        (c.in-Err-Refused.ensures.refused c.in-Err-Refused.met (ap Err c.in-Err-Refused.field-0-is)),
  ),
  c.of-in-Err-Refused.ensures.place,
  c.of-in-Err-Refused.ensures.why,
)

pub returns-in-Ok-clause-at_end : goal.returns-in-Ok-clause-at_end
returns-in-Ok-clause-at_end c = (
  λ is. absurd (is_other c.give_chunk.result 5 c.give_chunk.ensures.status (λ e. omega (arith, e)) (λ e. omega (arith, e)) is),
  λ end. absurd (c.if-at-size-2.false end.1),
)

pub returns-in-Ok-clause-exact : goal.returns-in-Ok-clause-exact
returns-in-Ok-clause-exact c = λ records has.
    chunk_status c.args.file.now (length c.args.file.now) c.args.at c.in-Ok.judged records c.args.values.now c.args.ends.now c.give_chunk.result
    c.in-Ok.ensures.judged (shown (λ file. IsJudgedIn true file c.args.at c.in-Ok.judged) c.args.file.now _ c.new-store.ensures.bytes c.in-Ok.ensures.sound)
    has c.give_chunk.ensures.status c.give_chunk.ensures.fits c.give_chunk.ensures.room

pub returns-in-Err-Refused-clause-exact : goal.returns-in-Err-Refused-clause-exact
returns-in-Err-Refused-clause-exact c = λ records has.
    absurd (none_is_first (Applies c.args.file.now c.args.at) (strict_reasons true) c.in-Err-Refused.met.why has.without_fault
    (shown (λ file. IsVerdict true file c.args.at c.in-Err-Refused.met) c.args.file.now _ c.new-store.ensures.bytes
    (c.in-Err-Refused.ensures.refused c.in-Err-Refused.met (ap Err c.in-Err-Refused.field-0-is))).0)

pub returns-then-at-size-2-clause-at_end : goal.returns-then-at-size-2-clause-at_end
returns-then-at-size-2-clause-at_end c = (
  λ _. (
    λ zero. omega (arith, zero, c.if-at-size-2.true, signed_is_long c.args.file.now (c.begins_right.ensures.right (search rules) zero)),
    omega (arith, c.if-at-size-2.true),
    is_fine c.args.file.now c.args.at (omega (arith, c.if-size-gt-MOST_FILE_BYTES.false)) (omega (arith, c.if-at-size.false))
        (c.is_boundary.ensures.0 (search rules)),
  ),
  λ _. refl,
)

pub returns-then-at-size-2-clause-exact : goal.returns-then-at-size-2-clause-exact
returns-then-at-size-2-clause-exact c = λ records has. absurd (none_at_end c.args.file.now c.args.at records has (omega (arith, c.if-at-size-2.true)))
