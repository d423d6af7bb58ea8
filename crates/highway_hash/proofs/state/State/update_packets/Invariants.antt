use Rattle.std.proofs.Common.{◌≡◌, take}
use Rattle.std.specs.List.{fold}
use Rattle.highway_hash.specs.HighwayHash.{after_packet}
use Rattle.highway_hash.proofs.state.State.update_packets.Given as goal

abbrev pub invariant-loop-packet : goal.invariant-loop-packet
invariant-loop-packet g l = l.state ≡ fold after_packet l.initial.state (take l.packet-index l.packets)
