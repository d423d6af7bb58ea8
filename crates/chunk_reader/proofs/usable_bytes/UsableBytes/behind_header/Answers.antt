use Rattle.std.proofs.Common.{◌≡◌, rules}
use Rattle.block_layout.specs.Layout.{end_of}
use Rattle.chunk_reader.proofs.HeaderEnds.{header_end-is_some}
use Rattle.chunk_reader.proofs.Loads.{next_behind}
use Rattle.chunk_reader.proofs.usable_bytes.UsableBytes.behind_header.Goals as goal

pub unwrap-requires : goal.unwrap-requires
unwrap-requires c = header_end-is_some c.args.begin c.end_of.result c.requires.in_reach c.end_of.ensures.past

pub from-requires : goal.from-requires
from-requires c =
    let is : c.unwrap.result ≡ end_of c.args.begin 40 = search rules in rw is (next_behind c.args.begin c.requires.from_boundary)
