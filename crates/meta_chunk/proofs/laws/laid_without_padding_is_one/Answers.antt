use Rattle.meta_chunk.proofs.OneLaying.{IsLaid-is, IsPlain-few, IsReadable-plain}
use Rattle.meta_chunk.proofs.laws.laid_without_padding_is_one.Goals as goal

pub returns : goal.returns
returns c = record {
  one = λ begin k bytes boundary few h. IsLaid-is begin k bytes boundary few h;
  plain = IsPlain-few;
  file = IsReadable-plain;
}
