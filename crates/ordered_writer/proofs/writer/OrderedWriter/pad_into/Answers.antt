use Rattle.std.proofs.Common.{◌≡◌, ◌∙◌, ℕ, ◌+◌, ◌%◌, ◌<◌, List, [], ◌++◌, inl, inr, refl, sym, ap, subst, arith, rules}
use Rattle.std.proofs.lemmas.Bool.{cases_eq}
use Rattle.std.proofs.lemmas.Result.{on_ok_weaker}
use Rattle.block_layout.specs.Layout.{IsBlock, chunk_end_of}
use Rattle.record_io.proofs.Buffered.{TakesAndHolds-none}
use Rattle.meta_chunk.specs.Laid.{laid_bytes}
use Rattle.meta_chunk.specs.Files.{laid_each}
use Rattle.meta_chunk.specs.PaddingSizes.{padding_size_of, padding_at}
use Rattle.ordered_writer.specs.Writers.{Writer, writer_at}
use Rattle.ordered_writer.proofs.Paddings.{end_of_padding-block, laid_padding-block, end_of_padding-inside, laid_padding-inside, end_of_padding_near, going_on}
use Rattle.ordered_writer.proofs.writer.OrderedWriter.pad_into.Goals as goal
use Rattle.ordered_writer.proofs.writer.OrderedWriter.pad_into.Goals.{In_default, After-padding_header}

at_block : (g : _) (c : In_default g) → IsBlock c.args.self.now.position
at_block g c =
    subst IsBlock (ap (λ (w : Writer). w.position) c.self.view_is) (c.in_default.ensures.none.0 refl)

pub returns-in_default-clause-goes_on : goal.returns-in_default-clause-goes_on
returns-in_default-clause-goes_on g c = record {
  moved =
      going_on c.args.self.now c.requires.may_reach.unspent
      ∙ ap writer_at (sym (end_of_padding-block c.args.self.now.position (at_block g c)));
  spent = tt;
}

pub returns-in_default-clause-sink : goal.returns-in_default-clause-sink
returns-in_default-clause-sink g c = record {
  through = record {
    whole = rw (laid_padding-block c.args.self.now.position (at_block g c)) (TakesAndHolds-none (g.M.Sink.taken c.args.sink.now) c.args.buffer.now);
    front = search rules;
    emptied = search rules;
    counts = search rules;
  };
  fits = search rules;
}

-- within a block the padding is one chunk of this size
is_inside : (g : _) (c : After-padding_header g) → 24 < c.args.self.now.position % 65536
is_inside g c =
    subst (λ (p : ℕ). 24 < p % 65536) (ap (λ (w : Writer). w.position) c.self.view_is)
    (elim (cases_eq (c.self.inside.position % 65536) 0) [
      | inl block ↦ let none = c.in-Some.ensures.none.1 block in cc
      | inr some ↦ c.self.invariant.1 (omega arith)
    ])

size_is : (g : _) (c : After-padding_header g) → c.in-Some.size ≡ padding_size_of c.args.self.now.position
size_is g c = c.in-Some.ensures.size ∙ ap (λ (w : Writer). padding_size_of w.position) c.self.view_is

-- the bytes of the chunk are those of the padding
bytes_are : (g : _) (c : After-padding_header g)
    → laid_bytes c.args.self.now.position (chunk_end_of c.args.self.now.position (40 + c.in-Some.size) 0) (c.padding_header.result ++ [])
    ≡ laid_each c.args.self.now.position (padding_at c.args.self.now.position)
bytes_are g c =
    ap (λ (header : List ℕ). laid_bytes c.args.self.now.position (chunk_end_of c.args.self.now.position (40 + c.in-Some.size) 0) (header ++ []))
    c.padding_header.ensures
    ∙ sym (laid_padding-inside c.args.self.now.position c.in-Some.size (is_inside g c) (size_is g c))

pub lay-requires : goal.lay-requires
lay-requires g c =
    let k = (goal.at.lay-requires g c).After-padding_header in (
      search rules,
      (
        record {
          unspent = c.requires.may_reach.unspent;
          in_reach =
              omega (arith, end_of_padding_near c.args.self.now.position c.in-Some.size (is_inside g k) (size_is g k) c.requires.may_reach.in_reach);
        },
        omega arith,
      ),
    )

pub returns-clause-goes_on : goal.returns-clause-goes_on
returns-clause-goes_on g c =
    let k = (goal.at.returns-clause-goes_on g c).After-padding_header in
    record {
      moved = on_ok_weaker c.lay.result
          (λ moved. moved ∙ ap writer_at (sym (end_of_padding-inside c.args.self.now.position c.in-Some.size (is_inside g k) (size_is g k))))
          c.lay.ensures.goes_on.moved;
      spent = c.lay.ensures.goes_on.spent;
    }

pub returns-clause-sink : goal.returns-clause-sink
returns-clause-sink g c = rw (← bytes_are g (goal.at.returns-clause-sink g c).After-padding_header) c.lay.ensures.sink
