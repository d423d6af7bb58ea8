use Rattle.chunk_reader.proofs.ChainSteps.{IsChainOf-nil, chain_goes_on, longest_where_refused, totals_of-push}
use Rattle.chunk_reader.proofs.NoReasonLaid.{laid_where_none, allowed_where_none}
use Rattle.chunk_reader.proofs.ReadingSteps.{totals-le}
use Rattle.chunk_reader.proofs.laws.fronts_go_on_up_to_a_reason.Goals as goal

pub returns : goal.returns
returns c = record {
  none = λ unread_ok file. IsChainOf-nil file;
  goes_on = λ unread_ok ks file place bytes begins h none.
      chain_goes_on unread_ok ks file place h begins (laid_where_none unread_ok file place bytes none) (allowed_where_none unread_ok file place none);
  longest = longest_where_refused;
  totals = totals_of-push;
  counts = totals-le;
}
