use Rattle.std.proofs.Common.{refl, ap, inl, inr, arith, rules}
use Rattle.std.proofs.lemmas.Result.{err_from_is_err_and}
use Rattle.meta_chunk.specs.PaddingSizes.{padding_at}
use Rattle.meta_chunk.proofs.Joins.{end_of_chunks_past}
use Rattle.ordered_writer.specs.Writers.{Writer}
use Rattle.record_writer.proofs.Layings.{LaysFront-failed, Lays-padding}
use Rattle.record_writer.proofs.made_file.MadeFile.pad.Goals as goal

pub returns-in_err-pad_into : goal.returns-in_err-pad_into
returns-in_err-pad_into g c = record {
  laid =
      let p = err_from_is_err_and c.from_residual.result c.from_residual.ensures.1 in
      record {
        laid = rw (p.1, ← c.self.view_is)
            (record {
              whole = tt;
              front = LaysFront-failed _ _ _ _ _ c.in_err-pad_into.ensures.sink.through.emptied c.in_err-pad_into.ensures.sink.through.front;
              counts = search rules;
            });
        spent = search rules;
      };
}

pub invariant_of-self-else-begin-position : goal.invariant_of-self-else-begin-position
invariant_of-self-else-begin-position g c =
    omega (
      arith,
      ap (λ (w : Writer). w.position) c.in_ok-pad_into.ensures.goes_on.moved,
      end_of_chunks_past c.self.inside.writer.position (padding_at c.self.inside.writer.position),
    )

pub returns-then-begin-position : goal.returns-then-begin-position
returns-then-begin-position g c = record {
  laid =
      rw (← c.self.view_is)
      (record {
        laid = record {
          whole = Lays-padding _ _ _ _ c.in_ok-pad_into.ensures.sink.through.whole
              (ap (λ (w : Writer). w.position) c.in_ok-pad_into.ensures.goes_on.moved)
              (ap (λ (w : Writer). w.spent) c.in_ok-pad_into.ensures.goes_on.moved)
              refl
              refl
              (inl (omega arith, refl));
          front = tt;
          counts = search rules;
        };
        spent = tt;
      });
}

pub returns-else-begin-position : goal.returns-else-begin-position
returns-else-begin-position g c = record {
  laid =
      rw (← c.self.view_is)
      (record {
        laid = record {
          whole = Lays-padding _ _ _ _ c.in_ok-pad_into.ensures.sink.through.whole
              (ap (λ (w : Writer). w.position) c.in_ok-pad_into.ensures.goes_on.moved)
              (ap (λ (w : Writer). w.spent) c.in_ok-pad_into.ensures.goes_on.moved)
              refl
              refl
              (inr (omega arith, refl));
          front = tt;
          counts = search rules;
        };
        spent = tt;
      });
}
