use Rattle.damage_skip.proofs.RegionsIn.{skipped_text-pieces}
use Rattle.repair_copy.proofs.EventChunks.{relaid-append}
use Rattle.repair_copy.proofs.OneWalk.{walk_is_front, walks_are_one}
use Rattle.repair_copy.proofs.laws.walks_under_a_policy_are_one.Goals as goal

pub returns-clause-front : goal.returns-clause-front
returns-clause-front g c =
    λ file place end es fs stopped reach. walk_is_front g.F.Fn c.args.policy.now.test c.requires.test file reach place end es fs stopped

pub returns-clause-one : goal.returns-clause-one
returns-clause-one g c =
    λ file end other es fs stopped stops reach. walks_are_one g.F.Fn c.args.policy.now.test c.requires.test file reach end other es fs stopped stops

pub returns-clause-made : goal.returns-clause-made
returns-clause-made g c = relaid-append

pub returns-clause-lines : goal.returns-clause-lines
returns-clause-lines g c = skipped_text-pieces
