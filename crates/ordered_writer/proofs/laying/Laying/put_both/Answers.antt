use Rattle.std.proofs.Common.{◌≡◌, ◌∙◌, ◌++◌, length, sym, ap, ℕ, arith, rules}
use Rattle.std.proofs.lemmas.Result.{on_ok_weaker, on_err_weaker}
use Rattle.record_io.proofs.Calls.{OnErr-any}
use Rattle.block_layout.specs.Layout.{end_of}
use Rattle.block_layout.proofs.Ends.{end_of_after}
use Rattle.ordered_writer.proofs.Both.{first_end, TakesAndHolds-both, TakesShort-first, TakesShort-second, both_end, first_within}
use Rattle.ordered_writer.proofs.laying.Laying.put_both.Goals as goal
use Rattle.ordered_writer.proofs.laying.Laying.put_both.Goals.{In_ok-put}

pub put-requires : goal.put-requires
put-requires g c = (search rules, first_within c.args.self.now.place c.args.self.now.end c.args.front.now c.args.rest.now c.requires.room)

pub returns-in_err-put-clause-sink : goal.returns-in_err-put-clause-sink
returns-in_err-put-clause-sink g c =
    let self = c.args.self.now in
    record {
      through = record {
        whole = search rules;
        front = OnErr-any _ (TakesShort-first _ _ c.args.buffer.now self.begin self.end self.place (end_of self.place (length (c.args.front.now ++ c.args.rest.now)))
            c.args.front.now c.args.rest.now (omega (arith, both_end self.place c.args.front.now c.args.rest.now, end_of_after (first_end self.place c.args.front.now) (length c.args.rest.now)))
            c.in_err-put.ensures.sink.through.front);
        emptied = search rules;
        counts = search rules;
      };
      fits = c.in_err-put.ensures.sink.fits;
    }

-- where the others end
ends : (g : _) (c : In_ok-put g) → end_of c.put.new.self.place (length c.args.rest.now) ≡ end_of c.args.self.now.place (length (c.args.front.now ++ c.args.rest.now))
ends g c =
    ap (λ (place : ℕ). end_of place (length c.args.rest.now)) c.in_ok-put.ensures.moved
    ∙ both_end c.args.self.now.place c.args.front.now c.args.rest.now

pub put-requires-2 : goal.put-requires-2
put-requires-2 g c = (
  search rules,
  omega (arith, ends g (goal.at.put-requires-2 g c).In_ok-put, c.in_ok-put.ensures.span.same_end, c.requires.room),
)

pub returns-clause-moved : goal.returns-clause-moved
returns-clause-moved g c =
    on_ok_weaker c.put-2.result (λ moved. moved ∙ ends g (goal.at.returns-clause-moved g c).In_ok-put) c.put-2.ensures.moved

pub returns-clause-sink : goal.returns-clause-sink
returns-clause-sink g c =
    let self = c.args.self.now in
    let e = c.in_ok-put.ensures in
    let until = end_of self.place (length (c.args.front.now ++ c.args.rest.now)) in
    let then = rw (ends g (goal.at.returns-clause-sink g c).In_ok-put, e.span.same_begin, e.span.same_end, e.moved) at c.put-2.ensures.sink in
    let is_until = sym (both_end self.place c.args.front.now c.args.rest.now) in
    record {
      through = record {
        whole = on_ok_weaker c.put-2.result
            (TakesAndHolds-both _ _ _ c.args.buffer.now c.put.new.buffer c.put-2.new.buffer self.begin self.end self.place until c.args.front.now c.args.rest.now
            is_until e.sink.through.whole) then.through.whole;
        front = on_err_weaker c.put-2.result
            (TakesShort-second _ _ _ c.args.buffer.now c.put.new.buffer self.begin self.end self.place until c.args.front.now c.args.rest.now
            is_until e.sink.through.whole) then.through.front;
        emptied = search rules;
        counts = search rules;
      };
      fits = λ within. c.put-2.ensures.sink.fits (e.sink.fits within);
    }
