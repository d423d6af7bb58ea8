use Rattle.std.proofs.Common.{◌+◌}
use Rattle.block_layout.specs.Layout.{usable_below, usable_at}
use Rattle.block_layout.proofs.UsableBytes.{length-usable_bytes, slice_get-usable_bytes, usable_place, usable_bytes-append}
use Rattle.block_layout.proofs.laws.usable_bytes_have_room.Goals as goal

pub returns : goal.returns
returns c = record {
  count = length-usable_bytes;
  at = slice_get-usable_bytes;
  place = λ begin e i h. let found = usable_place begin e i h in
      (usable_at (usable_below begin + i), found.0, found.1, found.2, found.3);
  cut = usable_bytes-append;
}
