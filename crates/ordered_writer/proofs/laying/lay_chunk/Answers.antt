use Rattle.std.proofs.Common.{ℕ, ◌+◌, ◌≤◌, ◌++◌, length, arith, rules}
use Rattle.std.proofs.lemmas.Result.{on_ok_weaker, on_err_weaker}
use Rattle.record_io.proofs.Calls.{OnErr-any}
use Rattle.block_layout.specs.Layout.{end_of}
use Rattle.block_layout.proofs.Ends.{end_of_after, end_of_mono, end_of-more}
use Rattle.ordered_writer.proofs.Chunks.{TakesShort-chunk_header, TakesAndHolds-data, TakesShort-data, TakesAndHolds-padding, TakesShort-padding}
use Rattle.ordered_writer.proofs.laying.lay_chunk.Goals as goal
use Rattle.ordered_writer.proofs.laying.lay_chunk.Goals.{In_ok-put, In_ok-put_both}

pub invariant_of-laying : goal.invariant_of-laying
invariant_of-laying g c = record {
  begun = omega arith;
  within = omega (arith, end_of_after c.args.begin (length c.args.header.now + length (c.args.front.now ++ c.args.rest.now)));
  next_place = λ inside. omega (arith, c.requires.from_boundary inside);
  to_boundary = c.requires.to_boundary;
  in_reach = c.requires.in_reach;
}

pub put-requires : goal.put-requires
put-requires g c = (
  search rules,
  omega (arith, end_of_mono c.args.begin (length c.args.header.now) (length c.args.header.now + length (c.args.front.now ++ c.args.rest.now)) (omega arith)),
)

-- the data ends within the chunk
data_within : (begin end header content : ℕ) → end_of begin (header + content) ≤ end → end_of (end_of begin header) content ≤ end
data_within begin end header content room = omega (arith, end_of-more begin header content)

pub put_both-requires : goal.put_both-requires
put_both-requires g c = (
  search rules,
  rw (c.in_ok-put.ensures.moved, c.in_ok-put.ensures.span.same_end)
      (data_within c.args.begin c.args.end (length c.args.header.now) (length (c.args.front.now ++ c.args.rest.now)) c.requires.room),
)

pub returns-in_err-put : goal.returns-in_err-put
returns-in_err-put g c = record {
  sink = record {
    through = record {
      whole = search rules;
      front = OnErr-any _ (TakesShort-chunk_header _ _ c.args.buffer.now c.args.begin c.args.end c.args.header.now (c.args.front.now ++ c.args.rest.now)
          (omega (arith, end_of_mono c.args.begin (length c.args.header.now) (length c.args.header.now + length (c.args.front.now ++ c.args.rest.now)) (omega arith)))
          c.in_err-put.ensures.sink.through.front);
      emptied = search rules;
      counts = search rules;
    };
    fits = c.in_err-put.ensures.sink.fits;
  };
}

pub returns-in_err-put_both : goal.returns-in_err-put_both
returns-in_err-put_both g c = record {
  sink =
      let e = c.in_ok-put.ensures in
      record {
        through = record {
          whole = search rules;
          front = OnErr-any _ (TakesShort-data _ _ _ c.args.buffer.now c.put.new.buffer c.args.begin c.args.end c.args.header.now (c.args.front.now ++ c.args.rest.now)
              (data_within c.args.begin c.args.end (length c.args.header.now) (length (c.args.front.now ++ c.args.rest.now)) c.requires.room)
              e.sink.through.whole
              (rw (e.span.same_begin, e.span.same_end, e.moved) at c.in_err-put_both.ensures.sink.through.front));
          emptied = search rules;
          counts = search rules;
        };
        fits = λ within. c.in_err-put_both.ensures.sink.fits (e.sink.fits within);
      };
}

pub returns : goal.returns
returns g c = record {
  sink =
      let e = c.in_ok-put.ensures in
      let f = c.in_ok-put_both.ensures in
      let content = c.args.front.now ++ c.args.rest.now in
      let within = data_within c.args.begin c.args.end (length c.args.header.now) (length content) c.requires.room in
      let first = TakesAndHolds-data _ _ _ c.args.buffer.now c.put.new.buffer c.put_both.new.buffer c.args.begin c.args.end c.args.header.now content
      e.sink.through.whole (rw (e.span.same_begin, e.span.same_end, e.moved) at f.sink.through.whole) in
      let then = rw (f.span.same_begin, f.span.same_end, f.moved, e.span.same_begin, e.span.same_end, e.moved) at c.finish.ensures.sink in
      record {
        through = record {
          whole = on_ok_weaker c.finish.result
              (TakesAndHolds-padding _ _ _ c.args.buffer.now c.put_both.new.buffer c.finish.new.buffer c.args.begin c.args.end c.args.header.now content within first)
              then.through.whole;
          front = on_err_weaker c.finish.result
              (TakesShort-padding _ _ _ c.args.buffer.now c.put_both.new.buffer c.args.begin c.args.end c.args.header.now content within first)
              then.through.front;
          emptied = search rules;
          counts = search rules;
        };
        fits = λ within. c.finish.ensures.sink.fits (f.sink.fits (e.sink.fits within));
      };
}
