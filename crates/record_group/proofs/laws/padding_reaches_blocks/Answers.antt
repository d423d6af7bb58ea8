use Rattle.record_group.proofs.Paddings.{IsBlock-padding_if, IsBlock-record_chunks}
use Rattle.record_group.proofs.laws.padding_reaches_blocks.Goals as goal

pub returns : goal.returns
returns c = record { start = λ place pad. IsBlock-padding_if _ place; end = IsBlock-record_chunks }
