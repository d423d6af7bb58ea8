use Rattle.meta_chunk.proofs.Joins.{end_of_chunks_past}
use Rattle.meta_chunk.specs.PaddingSizes.{padding_at}
use Rattle.meta_chunk.proofs.PaddingLemmas.{IsBlock-padding_at, padding_at_near, padding_at-block, padding_at-inside, IsPaddingSize-number, padding_at_are_padding, padding_at_are_plain, padding_at_are_chunks}
use Rattle.meta_chunk.proofs.laws.padding_ends_at_a_block.Goals as goal

pub returns : goal.returns
returns c = record {
  block = IsBlock-padding_at;
  after = λ place. end_of_chunks_past place (padding_at place);
  near = padding_at_near;
  none = padding_at-block;
  some = padding_at-inside;
  size = IsPaddingSize-number;
  kind = padding_at_are_padding;
  plain = padding_at_are_plain;
  chunks = padding_at_are_chunks;
}
