use Rattle.varint_wire.proofs.Spellings.{spelling_is_one}
use Rattle.varint_wire.proofs.laws.no_spelling_begins_another.Goals as goal

pub returns : goal.returns
returns c = spelling_is_one
