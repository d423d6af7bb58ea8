use Rattle.number_shares.proofs.Counting.{length-each_below, times-each_below-le}
use Rattle.number_shares.proofs.laws.each_below_is_so_many.Goals as goal

pub returns-clause-count : goal.returns-clause-count
returns-clause-count c = length-each_below

pub returns-clause-no_more : goal.returns-clause-no_more
returns-clause-no_more c = times-each_below-le
