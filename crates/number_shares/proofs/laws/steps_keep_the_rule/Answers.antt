use Rattle.number_shares.proofs.Events.{take_is_event, split_starts}
use Rattle.number_shares.proofs.Tables.{opens, bounds_at, splits, takes, joins_before, joins_behind, closed, closed_by_ones, word_small}
use Rattle.number_shares.proofs.laws.steps_keep_the_rule.Goals as goal

pub returns-clause-opens : goal.returns-clause-opens
returns-clause-opens c = opens

pub returns-clause-splits : goal.returns-clause-splits
returns-clause-splits c = splits

pub returns-clause-split_starts : goal.returns-clause-split_starts
returns-clause-split_starts c = split_starts

pub returns-clause-takes : goal.returns-clause-takes
returns-clause-takes c = takes

pub returns-clause-event : goal.returns-clause-event
returns-clause-event c = take_is_event

pub returns-clause-bounds : goal.returns-clause-bounds
returns-clause-bounds c = bounds_at

pub returns-clause-joins_before : goal.returns-clause-joins_before
returns-clause-joins_before c = joins_before

pub returns-clause-joins_behind : goal.returns-clause-joins_behind
returns-clause-joins_behind c = joins_behind

pub returns-clause-closes : goal.returns-clause-closes
returns-clause-closes c = closed

pub returns-clause-closes_by_ones : goal.returns-clause-closes_by_ones
returns-clause-closes_by_ones c = closed_by_ones

pub returns-clause-word : goal.returns-clause-word
returns-clause-word c = word_small
