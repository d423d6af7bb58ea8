use Rattle.std.proofs.Common.{rules}
use Rattle.varint_wire.specs.Held.{held_bytes}
use Rattle.varint_wire.proofs.feed.Feed.new.Goals as goal

pub returns : goal.returns
unfolding held_bytes
returns c = search rules
