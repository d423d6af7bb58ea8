use Rattle.std.proofs.Common.{◌≡◌, ◌∙◌, ℕ, ◌+◌, ◌-◌, List, length, take, drop, refl, sym, ap, arith, rules}
use Rattle.std.proofs.lemmas.List.{take_rest, length-drop, length-take}
use Rattle.record_io.proofs.Calls.{OnErr-any}
use Rattle.block_layout.specs.Layout.{room, end_of}
use Rattle.block_layout.proofs.Ends.{end_of-zero, end_of_after, end_of_mono, end_of-more}
use Rattle.ordered_writer.specs.Layings.{laid_between}
use Rattle.block_layout.proofs.Runs.{end_of_strict, room-end_of}
use Rattle.ordered_writer.proofs.RunCalls.{run_end, run_end-rest, TakesAndHolds-more, TakesShort-more, TakesAndHolds-nothing_laid}
use Rattle.ordered_writer.proofs.laying.Laying.put.Goals as goal

pub loop-at-init : goal.loop-at-init
loop-at-init g c =
    let self = c.args.self.now in
    record {
      within = omega arith;
      place = sym (end_of-zero self.place);
      begin = refl;
      end = refl;
      taken = TakesAndHolds-nothing_laid _ c.args.buffer.now self.begin self.end self.place c.args.bytes.now;
      fits = λ h. h;
      counts = search rules;
    }

pub put_run-requires : goal.put_run-requires
put_run-requires g c =
    let rest = end_of_strict c.args.self.now.place c.loop-at.at (length c.args.bytes.now) c.loop-at-test.true in
    (search rules, (omega (arith, length-drop {A = ℕ}, length-take {A = ℕ}), omega arith))

-- the bytes that go on are the rest of these
same_rest : (begin end place until at : ℕ) (bytes : List ℕ)
    → laid_between begin end (end_of place at) until (take (length bytes - at) (drop at bytes))
    ≡ laid_between begin end (end_of place at) until (drop (room place (end_of place at)) bytes)
same_rest begin end place until at bytes =
    ap (laid_between begin end (end_of place at) until)
    (take_rest bytes at ∙ ap (λ (n : ℕ). drop n bytes) (sym (room-end_of place at)))

pub returns-in_err-at-clause-sink : goal.returns-in_err-at-clause-sink
returns-in_err-at-clause-sink g c =
    let self = c.args.self.now in
    let bytes = c.args.bytes.now in
    let i = c.loop-at.invariant in
    let rest = take (length bytes - c.loop-at.at) (drop c.loop-at.at bytes) in
    let until : run_end (end_of self.place c.loop-at.at) self.end rest ≡ end_of self.place (length bytes) =
    run_end-rest self.place self.end c.loop-at.at bytes i.within c.requires.room in
    let front = rw (i.place, i.begin, i.end, until) at c.in_err-at.ensures.front in
    record {
      through = record {
        whole = search rules;
        front = OnErr-any _ (TakesShort-more _ _ _ c.args.buffer.now c.loop-at.buffer self.begin self.end self.place (end_of self.place c.loop-at.at) (end_of self.place (length bytes))
            bytes rest (end_of_after self.place c.loop-at.at) (end_of_mono self.place c.loop-at.at (length bytes) i.within) (same_rest self.begin self.end self.place _ c.loop-at.at bytes) (rw i.place at i.taken) front);
        emptied = search rules;
        counts = search rules;
      };
      fits = λ _. c.put_run.ensures.fits;
    }

pub loop-at-preserved : goal.loop-at-preserved
loop-at-preserved g c =
    let self = c.args.self.now in
    let bytes = c.args.bytes.now in
    let i = c.loop-at.invariant in
    let e = c.in_ok-at.ensures in
    let place : c.put_run.new.self.place ≡ end_of self.place (c.loop-at.at + c.in_ok-at.field-0) =
    e.moved ∙ ap (λ (p : ℕ). end_of p c.in_ok-at.field-0) i.place ∙ end_of-more self.place c.loop-at.at c.in_ok-at.field-0 in
    record {
      within = omega (arith, c.in_ok-at.ensures.within, length-drop {A = ℕ}, length-take {A = ℕ});
      place = place;
      begin = cc;
      end = cc;
      taken =
          TakesAndHolds-more _ _ _ c.args.buffer.now c.loop-at.buffer c.put_run.new.buffer self.begin self.end self.place (end_of self.place c.loop-at.at) c.put_run.new.self.place
          bytes (take (length bytes - c.loop-at.at) (drop c.loop-at.at bytes))
          (end_of_after self.place c.loop-at.at) (rw place (end_of_mono self.place c.loop-at.at (c.loop-at.at + c.in_ok-at.field-0) (omega arith)))
          (same_rest self.begin self.end self.place _ c.loop-at.at bytes) (rw i.place at i.taken) (rw (i.place, i.begin, i.end) at e.whole);
      fits = λ _. c.put_run.ensures.fits;
      counts = search rules;
    }
