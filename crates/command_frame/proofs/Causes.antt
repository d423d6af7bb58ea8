-- What the cause of a status leaves where nothing had a fault.
use Rattle.std.proofs.Common.{◌≡◌, ◌⊎◌, inl, inr, refl, sym, subst}
use Rattle.command_frame.specs.declared.status.Status.{Status}
use Rattle.command_frame.specs.Meanings.{Meaning}
use Rattle.command_frame.specs.Runs.{Runs}
use Rattle.command_frame.specs.RunObjects.{Seen}
use Rattle.command_frame.specs.RunAnswers.{IsWhole}
use Rattle.command_frame.specs.RunLeaves.{IsCutOff}
use Rattle.command_frame.specs.NoFaults.{HadNoFault}
use Rattle.command_frame.specs.RunCauses.{HasCause}
use Rattle.command_frame.specs.RunReads.{IfAnswered}
use Rattle.command_frame.specs.declared.status.Status.TheVariants as status

-- without a fault a status that has a cause is that of a whole answer, or tells want of memory
pub whole-or-memory : (m : Meaning) (before after : Seen) (ended : Status)
    → HasCause ended m before after → HadNoFault m.uses before after → IsWhole ended ⊎ (ended ≡ status.Memory)
whole-or-memory m before after status.Input cause sound = absurd (sound.input cause.0 cause.1)
whole-or-memory m before after status.File cause sound = absurd (sound.files cause.0 cause.1)
whole-or-memory m before after status.Made cause sound = absurd (sound.made cause.0 cause.1)
whole-or-memory m before after status.Grown cause sound = absurd (sound.grown cause.0 cause.1)
whole-or-memory m before after status.Out cause sound = absurd (sound.out cause.0 cause.1)
whole-or-memory m before after status.Notes cause sound = absurd (sound.notes cause)
whole-or-memory m before after status.Memory cause sound = inr refl
whole-or-memory m before after ended cause sound = inl tt

-- and the status is an answer's, or tells want of memory
pub answers-or-memory : (m : Meaning) (before after : Seen) (ended : Status)
    → Runs m before after ended → HadNoFault m.uses before after
    → IfAnswered m before (λ answer. (ended ≡ answer.status) ⊎ (ended ≡ status.Memory))
answers-or-memory m before after ended ran sound =
    elim (whole-or-memory m before after ended ran.has_cause.cause sound) [
      | inl whole ↦ λ r is. let a = ran.answers.whole whole r is in (a.0, a.1, inl a.2.same_status)
      | inr same ↦ λ r is.
          let a = ran.leaves.cut_off (subst IsCutOff (sym same) tt) r is in
          (a.0, a.1, inr same)
    ]
