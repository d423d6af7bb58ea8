use Rattle.std.proofs.Common.{◌∙◌, length, sym, arith}
use Rattle.meta_chunk.proofs.Begins.{begin_of_boundary, begin_of_rises, begin_of_rises_by, begin_of-next, begin_of-past, begin_of-place, begin_of-within, holder_of, holder_one, IsLaid-in_file, usable_bytes_at-begin, end-zero_padding, slice_range-laid_each}
use Rattle.meta_chunk.proofs.laws.chunks_stand_at_their_begins.Goals as goal

pub returns : goal.returns
returns c = record {
  boundary = begin_of_boundary;
  rise = begin_of_rises;
  rise_by = begin_of_rises_by;
  next = begin_of-next;
  past = λ ks j past. begin_of-past ks j past ∙ sym (begin_of-past ks (length ks) (omega arith));
  end = begin_of-place;
  within = begin_of-within;
  holder = holder_of;
  one_holder = holder_one;
  at = IsLaid-in_file;
  chunk_bytes = usable_bytes_at-begin;
  zero_padding_end = end-zero_padding;
  zero_padding_at = slice_range-laid_each;
}
