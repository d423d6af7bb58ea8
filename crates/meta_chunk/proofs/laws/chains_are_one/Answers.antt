use Rattle.std.proofs.Common.{inl}
use Rattle.meta_chunk.proofs.Begins.{begin_of-within}
use Rattle.meta_chunk.proofs.Chains.{AreLaid-take, IsChainOf-take, IsChainOf-weaker, AreLaid-more, AreLaid-front_of, AreLaid-one}
use Rattle.meta_chunk.proofs.laws.chains_are_one.Goals as goal

pub returns : goal.returns
returns c = record {
  first = λ n ks file place within h. AreLaid-take n ks file place (begin_of-within ks file place n within h) h;
  chain = IsChainOf-take;
  well_formed_chain = IsChainOf-take;
  well_formed = λ ks file place h. IsChainOf-weaker (λ k plain. inl plain) h;
  more = AreLaid-more;
  front = λ ks ls file place further before within. AreLaid-front_of ks ls file place further within before;
  one = AreLaid-one;
}
