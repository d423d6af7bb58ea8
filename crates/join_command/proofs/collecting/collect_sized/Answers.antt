use Rattle.std.proofs.Common.{◌∙◌, Err, map, ap}
use Rattle.record_io.proofs.ManyStores.{same_told}
use Rattle.command_frame.specs.Endings.{HaveTold}
use Rattle.join_command.specs.CollectingEnds.{AreEachInReach}
use Rattle.join_command.proofs.CollectSteps.{file-cut, file-failed, sized-cut, sized-ended, took-cut, took-ended}
use Rattle.join_command.proofs.collecting.collect_sized.Goals as goal
use Rattle.join_command.proofs.collecting.collect_sized.Goals.{After-put_gathered-put}

pub returns-in-Err-clause-collected : goal.returns-in-Err-clause-collected
returns-in-Err-clause-collected g c = λ all told.
    took-ended (Unit {0}) c.in-Err.end c.end_of_gather.result _ _ all c.end_of_gather.ensures (c.in-Err.ensures.gathered all told)

pub returns-in-Err-clause-allowed : goal.returns-in-Err-clause-allowed
returns-in-Err-clause-allowed g c =
    sized-ended (Unit {0}) c.in-Err.end c.end_of_gather.result _ c.end_of_gather.ensures (
      c.args.sizes.now,
      same_told g.S.Store.bytes g.S.Store.told g.S.Store.name g.S.Store.faults c.args.files.now c.gather_batches.new.stores c.in-Err.ensures.stores.each ∙ c.requires.sized.are_told,
      c.requires.sized.in_reach,
    )

pub returns-in-Err-clause-files : goal.returns-in-Err-clause-files
returns-in-Err-clause-files g c = record {
  each = c.in-Err.ensures.stores.each;
  cause = λ failed. c.in-Err.ensures.stores.cause (ap Err (file-failed (Unit {0}) c.in-Err.end c.end_of_gather.result c.end_of_gather.ensures failed));
}

-- the files told the same sizes once their records were gathered and put
sized : (g : _) (c : After-put_gathered-put g) → HaveTold (map g.S.Store.told c.gather_batches.new.stores) AreEachInReach
sized g c = (
  c.args.sizes.now,
  same_told g.S.Store.bytes g.S.Store.told g.S.Store.name g.S.Store.faults c.args.files.now c.gather_batches.new.stores c.in-Ok.ensures.stores.each ∙ c.requires.sized.are_told,
  c.requires.sized.in_reach,
)

pub returns-in-Ok-put-clause-allowed : goal.returns-in-Ok-put-clause-allowed
returns-in-Ok-put-clause-allowed g c = sized g (goal.at.returns-in-Ok-put-clause-allowed g c).After-put_gathered-put

pub returns-in-Err-put-clause-collected : goal.returns-in-Err-put-clause-collected
returns-in-Err-put-clause-collected g c = λ all told.
    took-cut (Unit {0}) (Unit {0}) c.in-Ok.gathered _ _ _ _ c.in-Err-put.cut all c.in-Err-put.ensures.put (c.in-Ok.ensures.gathered all told)

pub returns-in-Err-put-clause-allowed : goal.returns-in-Err-put-clause-allowed
returns-in-Err-put-clause-allowed g c =
    sized-cut (Unit {0}) (Unit {0}) c.in-Ok.gathered _ _ _ _ c.in-Err-put.cut _ c.in-Err-put.ensures.put
    (sized g (goal.at.returns-in-Err-put-clause-allowed g c).After-put_gathered-put)

pub returns-in-Err-put-clause-files : goal.returns-in-Err-put-clause-files
returns-in-Err-put-clause-files g c = record {
  each = c.in-Ok.ensures.stores.each;
  cause = file-cut (Unit {0}) (Unit {0}) c.in-Ok.gathered _ _ _ _ c.in-Err-put.cut c.in-Err-put.ensures.put;
}
