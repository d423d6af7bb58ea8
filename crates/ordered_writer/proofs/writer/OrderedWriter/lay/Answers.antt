use Rattle.std.proofs.Common.{◌≡◌, ◌∙◌, ℕ, ◌+◌, ◌++◌, length, sym, ap, subst, arith, rules}
use Rattle.std.proofs.lemmas.Result.{err_from_is_err_and}
use Rattle.block_layout.specs.Layout.{chunk_end_of}
use Rattle.block_layout.specs.NextPlaces.{IsOnBoundary}
use Rattle.block_layout.proofs.Ends.{end_of_mono}
use Rattle.block_layout.proofs.ChunkEnds.{chunk_end_of_past_bytes, chunk_end_of_boundary}
use Rattle.meta_chunk.specs.Laid.{laid_bytes}
use Rattle.ordered_writer.specs.Writers.{Writer}
use Rattle.ordered_writer.proofs.Chunks.{IsOnBoundary-from_boundary}
use Rattle.ordered_writer.proofs.writer.OrderedWriter.lay.Goals as goal
use Rattle.ordered_writer.proofs.writer.OrderedWriter.lay.Goals.{In-Some}

-- where the chunk begins, and where it ends
place_is : (g : _) (c : In-Some g) → c.self.inside.position ≡ c.args.self.now.position
place_is g c = ap (λ (w : Writer). w.position) c.self.view_is

end_is : (g : _) (c : In-Some g)
    → c.in-Some.end ≡ chunk_end_of c.args.self.now.position (40 + c.args.data_size) c.args.num_records
end_is g c =
    c.in-Some.ensures.end
    ∙ ap (λ (begin : ℕ). chunk_end_of begin (40 + c.args.data_size) c.args.num_records) (place_is g c)

pub lay_chunk-requires : goal.lay_chunk-requires
lay_chunk-requires g c =
    let begin = c.self.inside.position in
    let number : c.in-Some.end ≡ chunk_end_of begin (40 + c.args.data_size) c.args.num_records = c.in-Some.ensures.end in (
      search rules,
      (
        omega (
          arith,
          end_of_mono begin (length c.args.header.now + length (c.args.front.now ++ c.args.rest.now)) (40 + c.args.data_size) (omega arith),
          chunk_end_of_past_bytes begin (40 + c.args.data_size) c.args.num_records,
        ),
        (
          c.self.invariant.1,
          (
            subst IsOnBoundary (sym number)
                (IsOnBoundary-from_boundary _ (chunk_end_of_boundary begin (40 + c.args.data_size) c.args.num_records)),
            omega (arith, end_is g (goal.at.lay_chunk-requires g c).In-Some),
          ),
        ),
      ),
    )

pub invariant_of-self-2 : goal.invariant_of-self-2
invariant_of-self-2 g c = (
  omega (arith, end_is g (goal.at.invariant_of-self-2 g c).In-Some),
  subst IsOnBoundary (sym c.in-Some.ensures.end)
      (IsOnBoundary-from_boundary _ (chunk_end_of_boundary c.self.inside.position (40 + c.args.data_size) c.args.num_records)),
)

-- the bytes that are laid are those of the chunk
same_laid : (g : _) (c : In-Some g)
    → laid_bytes c.self.inside.position c.in-Some.end (c.args.header.now ++ (c.args.front.now ++ c.args.rest.now))
    ≡ laid_bytes c.args.self.now.position
    (chunk_end_of c.args.self.now.position (40 + c.args.data_size) c.args.num_records)
    (c.args.header.now ++ (c.args.front.now ++ c.args.rest.now))
same_laid g c =
    ap (λ (begin : ℕ). laid_bytes begin c.in-Some.end (c.args.header.now ++ (c.args.front.now ++ c.args.rest.now))) (place_is g c)
    ∙ ap (λ (end : ℕ). laid_bytes c.args.self.now.position end (c.args.header.now ++ (c.args.front.now ++ c.args.rest.now))) (end_is g c)

pub returns-in_err-lay_chunk-clause-sink : goal.returns-in_err-lay_chunk-clause-sink
returns-in_err-lay_chunk-clause-sink g c =
    let p = err_from_is_err_and c.from_residual.result c.from_residual.ensures.1 in
    rw (p.1, ← same_laid g (goal.at.returns-in_err-lay_chunk-clause-sink g c).In-Some) c.in_err-lay_chunk.ensures.sink

pub returns-clause-sink : goal.returns-clause-sink
returns-clause-sink g c = rw (← same_laid g (goal.at.returns-clause-sink g c).In-Some) c.in_ok-lay_chunk.ensures.sink
