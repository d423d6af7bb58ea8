use Rattle.meta_chunk.proofs.Held.{IsSignature-one}
use Rattle.meta_chunk.proofs.laws.signature_is_one.Goals as goal

pub returns : goal.returns
returns c = record { one = IsSignature-one }
