use Rattle.std.proofs.Common.{ℕ, ◌<◌, min, [], refl, arith, rules}
use Rattle.record_io.proofs.Calls.{OnErr-any}
use Rattle.block_layout.specs.Layout.{end_of}
use Rattle.block_layout.proofs.Ends.{end_of_above, end_of_after}
use Rattle.ordered_writer.proofs.RunCalls.{TakesAndHolds-more_zeros, TakesShort-more_zeros, TakesAndHolds-nothing_laid}
use Rattle.ordered_writer.proofs.laying.Laying.finish.Goals as goal

pub loop-self-init : goal.loop-self-init
loop-self-init g c =
    let self = c.args.self.now in
    record {
      begin = refl;
      end = refl;
      after = omega arith;
      taken = TakesAndHolds-nothing_laid _ c.args.buffer.now self.begin self.end self.place [];
      fits = λ h. h;
      counts = search rules;
    }

pub loop-self-smaller : goal.loop-self-smaller
loop-self-smaller g c =
    let further : c.loop-self.self.place < end_of c.loop-self.self.place c.in_ok-put_run.field-0 = end_of_above c.loop-self.self.place c.in_ok-put_run.field-0 c.in_ok-put_run.ensures.some_put in
    omega (arith, c.in_ok-put_run.ensures.moved, c.put_run.ensures.span.same_end)

pub loop-self-preserved : goal.loop-self-preserved
loop-self-preserved g c =
    let self = c.args.self.now in
    let i = c.loop-self.invariant in
    let e = c.in_ok-put_run.ensures in
    let further : c.loop-self.self.place < end_of c.loop-self.self.place c.in_ok-put_run.field-0 = end_of_above c.loop-self.self.place c.in_ok-put_run.field-0 e.some_put in
    record {
      begin = cc;
      end = cc;
      after = omega (arith, e.moved);
      taken = TakesAndHolds-more_zeros _ _ _ c.args.buffer.now c.loop-self.buffer c.put_run.new.buffer self.begin self.end self.place c.loop-self.self.place c.put_run.new.self.place
          4096 i.after (omega (arith, e.moved)) i.taken (rw (i.begin, i.end) at e.whole);
      fits = λ _. c.put_run.ensures.fits;
      counts = search rules;
    }

pub returns-in_err-put_run : goal.returns-in_err-put_run
returns-in_err-put_run g c = record {
  sink =
      let self = c.args.self.now in
      let i = c.loop-self.invariant in
      let front = c.in_err-put_run.ensures.front in
      let place : ℕ = c.loop-self.self.place in
      let until : ℕ = min (end_of place 4096) self.end in
      record {
        through = record {
          whole = search rules;
          front = OnErr-any _ (TakesShort-more_zeros _ _ _ c.args.buffer.now c.loop-self.buffer self.begin self.end self.place place until
              4096 i.after (omega (arith, end_of_after place 4096)) (omega arith) i.taken (rw (i.begin, i.end) at front));
          emptied = search rules;
          counts = search rules;
        };
        fits = λ _. c.put_run.ensures.fits;
      };
}
