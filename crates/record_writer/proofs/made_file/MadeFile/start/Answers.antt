use Rattle.std.proofs.Common.{◌≡◌, ◌∙◌, refl, sym, ap, arith, rules}
use Rattle.std.proofs.lemmas.Result.{err_from_is_err_and}
use Rattle.meta_chunk.specs.Files.{signature}
use Rattle.ordered_writer.specs.Writers.{Writer}
use Rattle.ordered_writer.proofs.Chunks.{end_of_chunk-signature}
use Rattle.record_writer.specs.MadeFiles.{MadeFileValue}
use Rattle.record_writer.proofs.Layings.{Lays-read, LaysFront-one}
use Rattle.record_writer.proofs.made_file.MadeFile.start.Goals as goal

pub returns-in_err-start_into : goal.returns-in_err-start_into
returns-in_err-start_into g c = record {
  laid =
      let p = err_from_is_err_and c.from_residual.result c.from_residual.ensures.1 in
      let at_front : c.self.inside.writer.position ≡ 0 = ap (λ (s : MadeFileValue). s.place) (c.self.view_is ∙ c.requires.at_front) in
      record {
        laid = rw (p.1, ← c.self.view_is)
            (record {
              whole = tt;
              front = LaysFront-one _ _ _ _ signature c.in_err-start_into.ensures.sink.through.emptied
                  (rw at_front c.in_err-start_into.ensures.sink.through.front);
              counts = search rules;
            });
        spent = search rules;
      };
}

pub invariant_of-self-2 : goal.invariant_of-self-2
invariant_of-self-2 g c =
    omega (
      arith,
      ap (λ (s : MadeFileValue). s.chunks) (c.self.view_is ∙ c.requires.at_front),
      ap (λ (s : MadeFileValue). s.records) (c.self.view_is ∙ c.requires.at_front),
      ap (λ (w : Writer). w.position) c.in_ok-start_into.ensures.goes_on.moved,
    )

pub returns : goal.returns
returns g c = record {
  laid =
      let at_front : c.self.inside.writer.position ≡ 0 = ap (λ (s : MadeFileValue). s.place) (c.self.view_is ∙ c.requires.at_front) in
      let goes_on = c.in_ok-start_into.ensures.goes_on.moved in
      rw (← c.self.view_is)
      (record {
        laid = record {
          whole = Lays-read _ _ _ _ signature
              (rw at_front c.in_ok-start_into.ensures.sink.through.whole)
              (rw at_front (ap (λ (w : Writer). w.position) goes_on ∙ sym end_of_chunk-signature))
              (ap (λ (w : Writer). w.spent) goes_on)
              (omega arith)
              refl
              (omega arith)
              (omega arith);
          front = tt;
          counts = search rules;
        };
        spent = tt;
      });
}
