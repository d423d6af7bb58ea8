use Rattle.std.proofs.Common.{◌∙◌, Ok, Err, length, sym, ap, arith}
use Rattle.write_command.proofs.FeedSteps.{text_of-kept, some-line, no_line, stop-past, stop-long, next-line, next-last, at_end-spent, rest-kept, told-spent}
use Rattle.write_command.proofs.line_feed.LineFeed.pull_line.Goals as goal

pub returns-in_err-refill-clause-stop : goal.returns-in_err-refill-clause-stop
returns-in_err-refill-clause-stop g c = λ s failed.
    let e = rw failed at c.from_residual.ensures.1 in
    let short = rw c.loop-self.invariant.form at c.loop-self.invariant.short in
    stop-past c.args.self.now.hex _ c.loop-self.self.asked _ _ _ _ s c.loop-self.invariant.none short c.loop-self.invariant.bound c.loop-self.invariant.text
    (c.in_err-refill.ensures.past s (ap Err (sym e)))

pub returns-in-TooLong-clause-stop : goal.returns-in-TooLong-clause-stop
returns-in-TooLong-clause-stop g c = λ s failed.
    stop-long c.args.self.now.hex _ _ c.refill.new.self.asked _ _ _ _ s (c.in_ok-refill.ensures.same_form ∙ c.loop-self.invariant.form) c.loop-self.invariant.none
    (omega (arith, c.in_ok-refill.ensures.bound (ap Ok c.if-branch.true))) (omega (arith, c.in_ok-grow.ensures.asking, c.in_ok-grow.ensures.asks.same_asked))
    (text_of-kept _ _ _ _ _ _ c.loop-self.invariant.text c.in_ok-refill.ensures.text) (cc failed, c.in_ok-grow.ensures.long (ap Ok c.in-TooLong.is))

pub returns-in-Ended-clause-next : goal.returns-in-Ended-clause-next
returns-in-Ended-clause-next g c = λ _.
    let e = c.in_ok-grow.ensures.ended (ap Ok c.in-Ended.is) in
    next-line c.args.self.now.hex _ _ c.refill.new.self.asked _ e.0 _ _ _ _ _ _ _
    (c.in_ok-grow.ensures.asks.same_form ∙ c.in_ok-refill.ensures.same_form ∙ c.loop-self.invariant.form) c.loop-self.invariant.none e.1.2 e.1.0 e.1.1
    (omega (arith, c.in_ok-refill.ensures.bound (ap Ok c.if-branch.true))) c.in_ok-grow.ensures.asking c.in_ok-grow.ensures.asks.same_asked
    (ap g.I.Source.left c.in_ok-grow.ensures.asks.same_input) (text_of-kept _ _ _ _ _ _ c.loop-self.invariant.text c.in_ok-refill.ensures.text)

pub returns-clause-next : goal.returns-clause-next
returns-clause-next g c = λ some.
    let e = c.in_ok-refill.ensures.at_end (ap Ok c.if-branch.false) in
    let more = some-line c.loop-self.line _ c.is_empty.ensures some in
    next-last c.args.self.now.hex _ _ _ c.loop-self.self.asked _ _ _ _ _ _
    (c.in_ok-refill.ensures.same_form ∙ c.loop-self.invariant.form) c.loop-self.invariant.none more c.loop-self.invariant.bound
    (c.loop-self.invariant.asking more) (omega (arith, e.1, ap length e.0))
    c.loop-self.invariant.text c.in_ok-refill.ensures.text e.0 (c.refill.new.self.ended e.1 e.0)

pub returns-clause-at_end : goal.returns-clause-at_end
returns-clause-at_end g c = λ none.
    let e = c.in_ok-refill.ensures.at_end (ap Ok c.if-branch.false) in
    let empty = no_line c.loop-self.line _ c.is_empty.ensures none in
    let spent = at_end-spent _ _ _ _ _ _ _ _ empty c.loop-self.invariant.text c.in_ok-refill.ensures.text e.0 (c.refill.new.self.ended e.1 e.0) in
    record {
      at_end = told-spent _ _ spent;
      kept = rest-kept _ _ _ _ e.0 (c.refill.new.self.ended e.1 e.0) ∙ sym spent;
    }
