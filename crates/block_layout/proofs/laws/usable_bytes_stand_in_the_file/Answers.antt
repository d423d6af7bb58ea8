use Rattle.block_layout.proofs.UsableBytes.{length-usable_bytes_at, slice_get-usable_bytes_at, usable_bytes_at_whole, usable_bytes_at-to_end}
use Rattle.block_layout.proofs.laws.usable_bytes_stand_in_the_file.Goals as goal

pub returns : goal.returns
returns c = record {
  count = length-usable_bytes_at;
  at = slice_get-usable_bytes_at;
  whole = usable_bytes_at_whole;
  to_end = usable_bytes_at-to_end;
}
