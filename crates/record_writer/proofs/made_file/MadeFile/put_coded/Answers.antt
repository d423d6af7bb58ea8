use Rattle.std.proofs.Common.{◌∙◌, ◌+◌, ◌≤◌, refl, ap, arith, rules}
use Rattle.std.proofs.lemmas.Result.{err_from_is_err_and}
use Rattle.chunk_header.specs.SimpleChunks.{simple_chunk}
use Rattle.meta_chunk.specs.Laid.{end_of_chunk}
use Rattle.ordered_writer.specs.Writers.{Writer}
use Rattle.record_writer.proofs.Ends.{coded-end, coded-laid, ends_past, few_records}
use Rattle.record_writer.proofs.Layings.{Lays-read, LaysFront-one}
use Rattle.record_writer.proofs.made_file.MadeFile.put_coded.Goals as goal
use Rattle.record_writer.proofs.made_file.MadeFile.put_coded.Goals.{After-put_encoded_into}

pub put_encoded_into-requires : goal.put_encoded_into-requires
put_encoded_into-requires g c =
    let reach = rw (← c.self.view_is) at c.requires.may_lay.in_reach in
    let end = coded-end c.self.inside.writer.position (simple_chunk c.args.group.now) c.args.group.now (record { head = c.args.head.now; front = c.args.front.now }) c.values_after-values.result.now c.requires.stands c.values_after-values.ensures in (
      search rules,
      (
        record {
          unspent = search rules;
          in_reach = omega (arith, reach, end);
        },
        omega (arith, few_records c.args.group.now, c.requires.short, c.requires.stands.records),
      ),
    )

pub returns-in_err-put_encoded_into : goal.returns-in_err-put_encoded_into
returns-in_err-put_encoded_into g c = record {
  laid =
      let p = err_from_is_err_and c.from_residual.result c.from_residual.ensures.1 in
      let is = coded-laid c.self.inside.writer.position (simple_chunk c.args.group.now) c.args.group.now (record { head = c.args.head.now; front = c.args.front.now }) c.values_after-values.result.now c.requires.stands c.values_after-values.ensures in
      record {
        laid = rw (p.1, ← c.self.view_is)
            (record {
              whole = tt;
              front = LaysFront-one _ _ _ _ (simple_chunk c.args.group.now) c.in_err-put_encoded_into.ensures.sink.through.emptied
                  (rw is at c.in_err-put_encoded_into.ensures.sink.through.front);
              counts = search rules;
            });
        spent = search rules;
      };
}

-- the counts stay below where the chunk ends
counts : (g : _) (c : After-put_encoded_into g)
    → (c.self.inside.writer.position + 40 ≤ end_of_chunk c.self.inside.writer.position (simple_chunk c.args.group.now))
    × (c.self.inside.records + c.args.head.now.num_records ≤ end_of_chunk c.self.inside.writer.position (simple_chunk c.args.group.now))
counts g c =
    let h = ends_past c.self.inside.writer.position c.self.inside.records (simple_chunk c.args.group.now) c.self.invariant.1 in
    (h.0, omega (arith, h.1, c.requires.stands.records))

pub overflow_add-self : goal.overflow_add-self
overflow_add-self g c =
    let reach = rw (← c.self.view_is) at c.requires.may_lay.in_reach in
    omega (arith, reach, c.self.invariant, counts g (goal.at.overflow_add-self g c).After-put_encoded_into)

pub overflow_add-self-2 : goal.overflow_add-self-2
overflow_add-self-2 g c =
    let reach = rw (← c.self.view_is) at c.requires.may_lay.in_reach in
    omega (arith, reach, counts g (goal.at.overflow_add-self-2 g c).After-put_encoded_into)

pub invariant_of-self-2 : goal.invariant_of-self-2
invariant_of-self-2 g c =
    omega (
      arith,
      c.self.invariant,
      ap (λ (w : Writer). w.position) c.in_ok-put_encoded_into.ensures.goes_on.moved,
      coded-end c.self.inside.writer.position (simple_chunk c.args.group.now) c.args.group.now (record { head = c.args.head.now; front = c.args.front.now }) c.values_after-values.result.now c.requires.stands c.values_after-values.ensures,
      counts g (goal.at.invariant_of-self-2 g c).After-put_encoded_into,
    )

pub returns : goal.returns
returns g c = record {
  laid =
      let is = coded-laid c.self.inside.writer.position (simple_chunk c.args.group.now) c.args.group.now (record { head = c.args.head.now; front = c.args.front.now }) c.values_after-values.result.now c.requires.stands c.values_after-values.ensures in
      let end = coded-end c.self.inside.writer.position (simple_chunk c.args.group.now) c.args.group.now (record { head = c.args.head.now; front = c.args.front.now }) c.values_after-values.result.now c.requires.stands c.values_after-values.ensures in
      rw (← c.self.view_is)
      (record {
        laid = record {
          whole = Lays-read _ _ _ _ (simple_chunk c.args.group.now)
              (rw is at c.in_ok-put_encoded_into.ensures.sink.through.whole)
              (ap (λ (w : Writer). w.position) c.in_ok-put_encoded_into.ensures.goes_on.moved ∙ end)
              (ap (λ (w : Writer). w.spent) c.in_ok-put_encoded_into.ensures.goes_on.moved)
              (omega arith)
              refl
              (omega (arith, c.requires.stands.records))
              (omega arith);
          front = tt;
          counts = search rules;
        };
        spent = tt;
      });
}
