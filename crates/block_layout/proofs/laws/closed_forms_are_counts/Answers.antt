use Rattle.std.proofs.Common.{arith}
use Rattle.block_layout.specs.Layout.{usable_at}
use Rattle.block_layout.proofs.Room.{room-closed}
use Rattle.block_layout.proofs.Ends.{boundary_from_after, boundary_from_boundary, boundary_from_least}
use Rattle.block_layout.proofs.laws.closed_forms_are_counts.Goals as goal

pub returns : goal.returns
returns c = record {
  room = room-closed;
  usable = λ n. (omega arith, omega (arith, room-closed 0 (usable_at n)));
  boundary = λ p. (boundary_from_boundary p, boundary_from_after p);
  first = boundary_from_least;
}
