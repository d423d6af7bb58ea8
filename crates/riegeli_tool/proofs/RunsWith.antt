-- A run of a command is one of the same command with further facts of its answers.
use Rattle.std.proofs.Common.{ℕ, inl, inr, List}
use Rattle.command_frame.specs.declared.status.Status.{Status}
use Rattle.command_frame.specs.Answers.{Answer}
use Rattle.command_frame.specs.Meanings.{Meaning, Read}
use Rattle.command_frame.specs.declared.status.Status.TheVariants as status
use Rattle.command_frame.specs.Runs.{Runs}
use Rattle.command_frame.specs.RunObjects.{Seen}
use Rattle.command_frame.specs.RunReads.{IsReadBy, IfAnswered, OfSizes}
use Rattle.command_frame.specs.RunLeaves.{WentOutSoFar}
use Rattle.command_frame.specs.RunCauses.{HasCause}

module _ (m : Meaning) (answers : Read → Answer → Type 0) (so : (r : Read) (a : Answer) → m.answers r a → answers r a) (before after : Seen) where
  abbrev with_answers : Meaning
  with_answers = record m { answers = answers }

  read_by : (r : Read) → IsReadBy with_answers before r → IsReadBy m before r
  read_by r is = record { input = is.input; files = is.files; grown = is.grown; supposed = is.supposed }

  told_so : (P : Answer → Type 0) → IfAnswered m before P → IfAnswered with_answers before P
  told_so P h r is = let told = h r (read_by r is) in (told.0, so r told.0 told.1, told.2)

  sizes_so : (P : List ℕ → Type 0) → OfSizes m before after P → OfSizes with_answers before after P
  sizes_so P h =
      record { sizes = h.sizes; told = h.told; exact = h.exact; grown_told = h.grown_told; grown_exact = h.grown_exact; holds = h.holds }

  so_far_so : (ended : Status) (r : Read) → WentOutSoFar m ended before after r → WentOutSoFar with_answers ended before after r
  so_far_so ended r h = record { part = h.part; found = h.found; made = h.made; out = h.out; notes = h.notes }

  cause_so : (ended : Status) → HasCause ended m before after → HasCause ended with_answers before after
  cause_so status.Usage h = h
  cause_so status.Input h = h
  cause_so status.File h = h
  cause_so status.Made h = h
  cause_so status.Grown h = h
  cause_so status.Out h = h
  cause_so status.Memory h = h
  cause_so status.Notes h = h
  cause_so other h = h

  pub runs-with : (ended : Status) → Runs m before after ended → Runs with_answers before after ended
  runs-with ended ran = record {
    answers = record {
      whole = λ whole. told_so _ (ran.answers.whole whole);
      grown = λ whole uses r is. ran.answers.grown whole uses r (read_by r is);
      read_to_end = ran.answers.read_to_end;
    };
    has_cause = record {
      cause = cause_so ended ran.has_cause.cause;
      counts = ran.has_cause.counts;
    };
    leaves = record {
      cut_off = λ cut. told_so _ (ran.leaves.cut_off cut);
      failed_to_say = λ failed. told_so _ (ran.leaves.failed_to_say failed);
      grown_cut = λ cut uses r is. ran.leaves.grown_cut cut uses r (read_by r is);
      grown_kept = ran.leaves.grown_kept;
      so_far = λ cut sound r is. so_far_so ended r (ran.leaves.so_far cut sound r (read_by r is));
    };
    takes = record {
      in_reach = λ cut file grown. sizes_so _ (ran.takes.in_reach cut file grown);
      handed = elim ran.takes.handed [
        | inl same ↦ inl same
        | inr (uses, sizes) ↦ inr (uses, sizes_so _ sizes)
      ];
      handed_of = λ r is. ran.takes.handed_of r (read_by r is);
      grown_handed = elim ran.takes.grown_handed [
        | inl same ↦ inl same
        | inr (uses, sizes) ↦ inr (uses, sizes_so _ sizes)
      ];
      in_order = ran.takes.in_order;
      input_taken = ran.takes.input_taken;
    };
    says = record {
      end_said = λ whole. sizes_so _ (ran.says.end_said whole);
      cut_off_said = ran.says.cut_off_said;
      front_said = λ failed. sizes_so _ (ran.says.front_said failed);
    };
  }
