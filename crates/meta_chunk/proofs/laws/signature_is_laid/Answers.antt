use Rattle.std.proofs.Common.{sym}
use Rattle.meta_chunk.proofs.Signature.{laid-signature}
use Rattle.meta_chunk.proofs.laws.signature_is_laid.Goals as goal

pub returns : goal.returns
returns c = sym laid-signature
