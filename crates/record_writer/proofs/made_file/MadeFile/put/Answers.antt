use Rattle.std.proofs.Common.{◌∙◌, sym, ap, arith, rules}
use Rattle.std.proofs.lemmas.Result.{err_from_is_err_and}
use Rattle.chunk_header.specs.Views.{value_of_chunk}
use Rattle.ordered_writer.specs.Writers.{Writer}
use Rattle.record_writer.proofs.Layings.{Lays-unread, Lays-read, LaysFront-one}
use Rattle.ordered_writer.proofs.RightChunks.{laid_as-right}
use Rattle.record_writer.proofs.Ends.{ends_past}
use Rattle.record_writer.proofs.made_file.MadeFile.put.Goals as goal

pub returns-in_err-put_into : goal.returns-in_err-put_into
returns-in_err-put_into g c = record {
  laid =
      let p = err_from_is_err_and c.from_residual.result c.from_residual.ensures.1 in
      let right = laid_as-right c.self.inside.writer.position c.args.chunk.now c.requires.right in
      record {
        laid = rw (p.1, ← c.self.view_is)
            (record {
              whole = tt;
              front = LaysFront-one _ _ _ _ (value_of_chunk c.args.chunk.now) c.in_err-put_into.ensures.sink.through.emptied
                  (rw right at c.in_err-put_into.ensures.sink.through.front);
              counts = search rules;
            });
        spent = search rules;
      };
}

pub overflow_add-self : goal.overflow_add-self
overflow_add-self g c =
    let reach = rw (← c.self.view_is) at c.requires.may_lay.in_reach in
    omega (arith, reach, ends_past c.self.inside.writer.position c.self.inside.records (value_of_chunk c.args.chunk.now) c.self.invariant.1)

pub overflow_add-self-then-unread : goal.overflow_add-self-then-unread
overflow_add-self-then-unread g c =
    let reach = rw (← c.self.view_is) at c.requires.may_lay.in_reach in
    omega (arith, reach, c.self.invariant, ends_past c.self.inside.writer.position c.self.inside.records (value_of_chunk c.args.chunk.now) c.self.invariant.1)

pub overflow_add-self-else-unread : goal.overflow_add-self-else-unread
overflow_add-self-else-unread g c =
    let reach = rw (← c.self.view_is) at c.requires.may_lay.in_reach in
    omega (arith, reach, ends_past c.self.inside.writer.position c.self.inside.records (value_of_chunk c.args.chunk.now) c.self.invariant.1)

pub invariant_of-self-then-unread : goal.invariant_of-self-then-unread
invariant_of-self-then-unread g c =
    omega (
      arith,
      ap (λ (w : Writer). w.position) c.in_ok-put_into.ensures.goes_on.moved,
      ends_past c.self.inside.writer.position c.self.inside.records (value_of_chunk c.args.chunk.now) c.self.invariant.1,
    )

pub invariant_of-self-else-unread : goal.invariant_of-self-else-unread
invariant_of-self-else-unread g c =
    omega (
      arith,
      ap (λ (w : Writer). w.position) c.in_ok-put_into.ensures.goes_on.moved,
      ends_past c.self.inside.writer.position c.self.inside.records (value_of_chunk c.args.chunk.now) c.self.invariant.1,
    )

pub returns-then-unread : goal.returns-then-unread
returns-then-unread g c = record {
  laid =
      let right = laid_as-right c.self.inside.writer.position c.args.chunk.now c.requires.right in
      rw (← c.self.view_is)
      (record {
        laid = record {
          whole = Lays-unread _ _ _ _ (value_of_chunk c.args.chunk.now)
              (rw right at c.in_ok-put_into.ensures.sink.through.whole)
              (ap (λ (w : Writer). w.position) c.in_ok-put_into.ensures.goes_on.moved)
              (ap (λ (w : Writer). w.spent) c.in_ok-put_into.ensures.goes_on.moved)
              (omega arith)
              (sym c.requires.unread ∙ c.if-unread.true)
              (omega arith)
              (omega arith);
          front = tt;
          counts = search rules;
        };
        spent = tt;
      });
}

pub returns-else-unread : goal.returns-else-unread
returns-else-unread g c = record {
  laid =
      let right = laid_as-right c.self.inside.writer.position c.args.chunk.now c.requires.right in
      rw (← c.self.view_is)
      (record {
        laid = record {
          whole = Lays-read _ _ _ _ (value_of_chunk c.args.chunk.now)
              (rw right at c.in_ok-put_into.ensures.sink.through.whole)
              (ap (λ (w : Writer). w.position) c.in_ok-put_into.ensures.goes_on.moved)
              (ap (λ (w : Writer). w.spent) c.in_ok-put_into.ensures.goes_on.moved)
              (omega arith)
              (sym c.requires.unread ∙ c.if-unread.false)
              (omega arith)
              (omega arith);
          front = tt;
          counts = search rules;
        };
        spent = tt;
      });
}
