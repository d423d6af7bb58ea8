-- How a run ends whose words are no command.
use Rattle.std.proofs.Common.{◌≡◌, ◌≤◌, ◌⊎◌, [], refl, inl, inr, arith}
use Rattle.record_io.specs.Puts.{taken_by}
use Rattle.record_io.specs.Seen.{SeenStream}
use Rattle.record_io.proofs.Calls.{Takes-nothing}
use Rattle.record_io.proofs.Puts.{GoOut-nothing}
use Rattle.command_frame.specs.declared.status.Status.{Status}
use Rattle.riegeli_tool.specs.CommandAnswers.{usage_text, usage, usage_meaning}
use Rattle.command_frame.specs.Runs.{Runs}
use Rattle.command_frame.specs.RunObjects.{Seen}
use Rattle.command_frame.specs.Endings.{SaysAtEnd}
use Rattle.command_frame.proofs.RunEnds.{OfSizes-unread, keeps-unread, none-taken, runs-said}
use Rattle.command_frame.specs.declared.status.Status.TheVariants as status

-- words that are no command: the usage text was said, or notes failed
pub runs-usage : (others : Seen) (notes notes_then : SeenStream) (ended : Status)
    → SaysAtEnd ended status.Usage notes notes_then usage_text → notes.faults ≤ notes_then.faults
    → Runs usage_meaning (record others { notes = notes }) (record others { notes = notes_then }) ended
runs-usage others notes notes_then ended says counts =
    runs-said usage_meaning _ _ notes ended status.Usage [] usage_text (Takes-nothing notes.bytes) (omega arith) says tt (λ e. cc e)
    (OfSizes-unread usage_meaning _ _ (λ sizes. usage_meaning.may_end sizes status.Usage usage_text) refl refl (refl, refl))
    (λ r is. (
      usage,
      refl,
      record { same_status = refl; puts = []; whole = refl; went = GoOut-nothing (taken_by others.made.bytes others.out.bytes notes.bytes) },
    ))
    refl (keeps-unread usage_meaning others.input others.input others.files others.made others.made others.grown others.out others.out notes notes_then refl (λ r. tt) (omega arith) (omega arith) (omega arith) counts
    (none-taken 0 others.input.bytes))

-- and no run of such words ends otherwise
pub ends-usage : (before after : Seen) (ended : Status) → Runs usage_meaning before after ended
    → (ended ≡ status.Usage) ⊎ (ended ≡ status.Notes)
ends-usage before after status.Notes ran = inr refl
ends-usage before after status.Input ran = absurd (cc ran.has_cause.cause.0)
ends-usage before after status.File ran = absurd (cc ran.has_cause.cause.0)
ends-usage before after status.Made ran = absurd (cc ran.has_cause.cause.0)
ends-usage before after status.Grown ran = absurd (cc ran.has_cause.cause.0)
ends-usage before after status.Out ran = absurd (cc ran.has_cause.cause.0)
ends-usage before after status.Memory ran = absurd (cc ran.has_cause.cause)
ends-usage before after ended ran = inl (ran.says.end_said tt).holds.1.0
