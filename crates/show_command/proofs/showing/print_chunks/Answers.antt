use Rattle.std.proofs.Common.{◌≡◌, ◌∙◌, true, false, Bool, IfSome, Option, Result, Ok, List, ℕ, ap, subst, arith, rules}
use Rattle.record_io.specs.Puts.{taken_by}
use Rattle.record_values.specs.declared.file_totals.Totals.{Totals}
use Rattle.chunk_reader.specs.declared.reasons.Fault.{Fault}
use Rattle.command_frame.specs.declared.ending.Ending.{Ending}
use Rattle.command_frame.specs.Endings.{CutsReadingOff}
use Rattle.show_command.specs.ShowProgress.{PrintsOn}
use Rattle.command_frame.proofs.PutSoFar.{IsErrAnd-same}
use Rattle.show_command.proofs.ShowSteps.{reads-none, reads-on, printed-none, printed-on, printed-ended, printed-so_far}
use Rattle.show_command.proofs.showing.print_chunks.Goals as goal
use Rattle.show_command.proofs.showing.print_chunks.Goals.{After-print_next}

pub loop-init : goal.loop-init
loop-init g c = record {
  same_size = c.new-reader.ensures.size;
  strict = c.new-reader.ensures.unread_ok;
  within = omega (arith, ap (λ (t : Totals). t.bytes) c.new-reader.ensures.totals);
  file = search rules;
  reads = reads-none _ _ c.args.size _ c.requires.sized.is_told c.requires.sized.in_reach c.new-reader.ensures.size c.new-reader.ensures.unread_ok c.new-reader.ensures.at_front;
  printed = λ made notes. printed-none c.args.words.now _ _ _ _ c.new-reader.ensures.totals c.requires.none_held;
  handed = omega arith;
  out = search rules;
}

-- what was printed with the next call's answer
printed : (g : _) (c : After-print_next g) (made notes : Option (List ℕ))
    → IfSome (g.S.Store.bytes c.args.file.now) (λ bytes. PrintsOn c.args.words.now c.print_next.result bytes c.print_next.new.reader.totals
    (taken_by made (g.O.Sink.taken c.args.out.now) notes) (taken_by made (g.O.Sink.taken c.print_next.new.out) notes) c.print_next.new.lines)
printed g c made notes =
    printed-on c.args.words.now _ _ c.loop.reader.totals c.print_next.new.reader.totals (taken_by made (g.O.Sink.taken c.args.out.now) notes) _ _ _ _
    c.print_next.result c.loop.invariant.file.same_bytes
    (c.print_next.ensures.printed (taken_by made (g.O.Sink.taken c.args.out.now) notes) made notes) (c.loop.invariant.printed made notes)

of_answer : (g : _) (c : After-print_next g) (known : Result Bool (Ending Fault)) → c.print_next.result ≡ known → (made notes : Option (List ℕ))
    → IfSome (g.S.Store.bytes c.args.file.now) (λ bytes. PrintsOn c.args.words.now known bytes c.print_next.new.reader.totals
    (taken_by made (g.O.Sink.taken c.args.out.now) notes) (taken_by made (g.O.Sink.taken c.print_next.new.out) notes) c.print_next.new.lines)
of_answer g c known is made notes =
    subst (λ (r : Result Bool (Ending Fault)). IfSome (g.S.Store.bytes c.args.file.now) (λ bytes. PrintsOn c.args.words.now r bytes
    c.print_next.new.reader.totals (taken_by made (g.O.Sink.taken c.args.out.now) notes)
    (taken_by made (g.O.Sink.taken c.print_next.new.out) notes) c.print_next.new.lines)) is (printed g c made notes)

pub loop-preserved : goal.loop-preserved
loop-preserved g c = record {
  same_size = c.in_ok-print_next.ensures.goes_on.same_size ∙ c.loop.invariant.same_size;
  strict = c.in_ok-print_next.ensures.goes_on.same_unread_ok ∙ c.loop.invariant.strict;
  within = c.in_ok-print_next.ensures.goes_on.totals.within;
  file = search rules;
  reads = reads-on _ _ _ _ c.loop.reader _ c.in_ok-print_next.ensures.file.asks.same_bytes c.in_ok-print_next.ensures.file.asks.same_told c.loop.invariant.reads
      c.in_ok-print_next.ensures.goes_on;
  printed = λ made notes. of_answer g (goal.at.loop-preserved g c).After-print_next (Ok true)
      (c.in_ok-print_next.was ∙ ap (λ (more : Bool). Ok more) c.if-branch.true) made notes;
  handed = omega (arith, c.loop.invariant.handed, (c.print_next.ensures.moved (c.in_ok-print_next.was ∙ ap (λ (more : Bool). Ok more) c.if-branch.true)).handed_between);
  out = search rules;
}

pub returns-clause-printed : goal.returns-clause-printed
returns-clause-printed g c = λ made notes.
    of_answer g (goal.at.returns-clause-printed g c).After-print_next (Ok false)
    (c.in_ok-print_next.was ∙ ap (λ (more : Bool). Ok more) c.if-branch.false) made notes

pub returns-in_err-print_next-clause-printed : goal.returns-in_err-print_next-clause-printed
returns-in_err-print_next-clause-printed g c = λ made notes.
    printed-ended c.args.words.now _ c.print_next.new.reader.totals _ _ _ _ c.print_next.result c.from_residual.result c.in_err-print_next.was
    c.from_residual.ensures.0 c.from_residual.ensures.1
    (printed g (goal.at.returns-in_err-print_next-clause-printed g c).After-print_next made notes)

pub returns-in_err-print_next-clause-so_far : goal.returns-in_err-print_next-clause-so_far
returns-in_err-print_next-clause-so_far g c = λ short made notes.
    let passed = IsErrAnd-same CutsReadingOff _ c.from_residual.result c.from_residual.ensures.1 short in
    printed-so_far c.args.words.now _ _ c.loop.reader.totals _ made _ _ notes _ _ _ _ _ c.loop.invariant.file.same_bytes
    (ap g.O.Sink.taken (c.in_err-print_next.ensures.unput passed).same_out) (c.in_err-print_next.ensures.unput passed).same_lines c.loop.invariant.handed
    c.in_err-print_next.ensures.read_to (c.loop.invariant.printed made notes)
