use Rattle.std.proofs.Common.{◌≡◌, ◌∙◌, ◌+◌, ◌%◌, ◌<◌, inl, inr, refl, sym, arith}
use Rattle.block_layout.specs.Layout.{chunk_end_of}
use Rattle.meta_chunk.specs.Files.{end_of_chunks}
use Rattle.meta_chunk.specs.PaddingSizes.{padding_at}
use Rattle.meta_chunk.proofs.PaddingLemmas.{padding_at_near}
use Rattle.ordered_writer.proofs.Paddings.{end_of_padding-block, end_of_padding-inside, end_of_padding_near}
use Rattle.ordered_writer.proofs.writer.padded.Goals as goal
use Rattle.ordered_writer.proofs.writer.padded.Goals.{After-chunk_end}

pub returns-in_default-clause-end : goal.returns-in_default-clause-end
returns-in_default-clause-end c = sym (end_of_padding-block c.args.at (c.in_default.ensures.none.0 refl))

-- within a block
is_inside : (c : After-chunk_end) → 24 < c.args.at % 65536
is_inside c =
    elim c.requires.boundary [
      | inl block ↦ let none = c.in-Some.ensures.none.1 block in cc
      | inr inside ↦ inside
    ]

-- the padding ends where its chunk does
end_is : (c : After-chunk_end) → end_of_chunks c.args.at (padding_at c.args.at) ≡ chunk_end_of c.args.at (40 + c.in-Some.size) 0
end_is c = end_of_padding-inside c.args.at c.in-Some.size (is_inside c) c.in-Some.ensures.size

pub unreachable-requires : goal.unreachable-requires
unreachable-requires c =
    let k = (goal.at.unreachable-requires c).After-chunk_end in
    let far = c.in_default-chunk_end.ensures.past in
    absurd (omega (arith, far, end_of_padding_near c.args.at c.in-Some.size (is_inside k) c.in-Some.ensures.size c.requires.in_reach))

pub returns-clause-end : goal.returns-clause-end
returns-clause-end c = c.in-Some-chunk_end.ensures.end ∙ sym (end_is (goal.at.returns-clause-end c).After-chunk_end)

pub returns-clause-near : goal.returns-clause-near
returns-clause-near c =
    omega (
      arith,
      c.in-Some-chunk_end.ensures.end,
      end_is (goal.at.returns-clause-near c).After-chunk_end,
      padding_at_near c.args.at c.requires.boundary,
    )
