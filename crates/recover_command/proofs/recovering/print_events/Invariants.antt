use Rattle.std.proofs.Common.{◌≡◌, ℕ, ◌-◌, false, true, Option, None, IfSome, List}
use Rattle.record_io.specs.Puts.{taken_by}
use Rattle.record_io.specs.Calls.{OnlyAsks, OnlyCounts}
use Rattle.damage_skip.specs.Walkers.{progress_of, test_of}
use Rattle.damage_skip.specs.Takings.{IsTakenFrom}
use Rattle.damage_skip.specs.Walks.{StandsIn}
use Rattle.recover_command.specs.RecoverProgress.{HasPrintedTo}
use Rattle.recover_command.specs.WalkAnswers.{walk_status}
use Rattle.damage_skip.specs.declared.regions.Region.{Region}
use Rattle.command_frame.specs.declared.status.Status.TheVariants as status
use Rattle.recover_command.specs.WalkingEnds.{HasToldOf}
use Rattle.recover_command.proofs.recovering.print_events.Given as goal

abbrev pub invariant-loop-event : goal.invariant-loop-event
invariant-loop-event g l = record {
  same_size : (progress_of l.walker).size ≡ l.fn.size;
  not_kept : (progress_of l.walker).unread_ok ≡ false;
  decodes : (progress_of l.walker).decodes ≡ true;
  going : (progress_of l.walker).stopped ≡ None;
  same_test : test_of l.walker ≡ test_of l.initial.walker;
  file : OnlyAsks g.S.Store.bytes g.S.Store.told g.S.Store.name g.S.Store.faults ⊥ l.fn.file l.file;
  stands : StandsIn (g.S.Store.bytes l.file) (g.S.Store.told l.file) (progress_of l.walker);
  printed : (made : Option (List ℕ)) → IfSome (g.S.Store.bytes l.fn.file) (λ file. HasPrintedTo l.words file (progress_of l.walker).place
      (taken_by made (g.O.Sink.taken l.fn.out) (g.E.Sink.taken l.fn.notes)) (taken_by made (g.O.Sink.taken l.out) (g.E.Sink.taken l.notes)) l.lines l.status);
  told_of : (skipped : List Region) × HasToldOf l.words.most (g.E.Sink.taken l.fn.notes) (g.E.Sink.taken l.notes) skipped × (l.status ≡ walk_status skipped None);
  kept : l.status ≡ status.Ok → l.notes ≡ l.fn.notes;
  taken : IfSome (g.S.Store.bytes l.fn.file) (λ file. IsTakenFrom false file 0 (progress_of l.walker).place (g.S.Store.handed l.file - g.S.Store.handed l.fn.file));
  out : OnlyCounts g.O.Sink.lent g.O.Sink.faults ⊥ l.fn.out l.out;
  notes : OnlyCounts g.E.Sink.lent g.E.Sink.faults ⊥ l.fn.notes l.notes;
}

abbrev pub decreases-loop-event : goal.decreases-loop-event
decreases-loop-event g l = (progress_of l.walker).size - (progress_of l.walker).place
