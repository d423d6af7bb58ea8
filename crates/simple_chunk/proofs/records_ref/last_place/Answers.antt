use Rattle.std.proofs.Common.{◌∙◌}
use Rattle.simple_chunk.proofs.Parts.{record_begin-last}
use Rattle.simple_chunk.proofs.records_ref.last_place.Goals as goal

pub returns : goal.returns
returns c = c.place_before.ensures ∙ record_begin-last c.args.begin c.args.ends.now
