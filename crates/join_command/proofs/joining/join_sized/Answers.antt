use Rattle.std.proofs.Common.{◌≡◌, ◌∙◌, Err, length, map, refl, subst}
use Rattle.record_io.proofs.ManyStores.{same_told}
use Rattle.command_frame.proofs.AskedSizes.{exact_sizes}
use Rattle.join_command.specs.JoinCommand.{AreTogetherInReach}
use Rattle.join_command.proofs.JoinSteps.{file-failed, may_join, sized-ended, took-ended}
use Rattle.join_command.proofs.joining.join_sized.Goals as goal

pub returns-in-Err-clause-joined : goal.returns-in-Err-clause-joined
returns-in-Err-clause-joined g c = λ all its.
    let sizes : c.args.sizes.now ≡ map length all =
    exact_sizes g.S.Store.bytes g.S.Store.told (λ file. g.met.S.Store.sized file) c.args.files.now all c.args.sizes.now its c.requires.sized.are_told in
    took-ended (Unit {0}) c.in-Err.end c.end_of_join.result (g.M.Sink.taken c.args.made.now) (g.M.Sink.taken c.join.new.made)
    (g.O.Sink.taken c.args.out.now) all c.end_of_join.ensures (subst AreTogetherInReach sizes c.requires.sized.in_reach) (c.in-Err.ensures.joined all its)

pub returns-in-Err-clause-allowed : goal.returns-in-Err-clause-allowed
returns-in-Err-clause-allowed g c =
    sized-ended (Unit {0}) c.in-Err.end c.end_of_join.result (map g.S.Store.told c.join.new.stores) c.end_of_join.ensures (
      c.args.sizes.now,
      same_told g.S.Store.bytes g.S.Store.told g.S.Store.name g.S.Store.faults c.args.files.now c.join.new.stores c.in-Err.ensures.stores.each ∙ c.requires.sized.are_told,
      c.requires.sized.in_reach,
    )

pub returns-in-Err-clause-handed : goal.returns-in-Err-clause-handed
returns-in-Err-clause-handed g c = may_join g.S.Store.handed c.args.sizes.now c.args.files.now c.join.new.stores c.in-Err.ensures.handed

pub returns-in-Err-clause-files : goal.returns-in-Err-clause-files
returns-in-Err-clause-files g c = record {
  each = c.in-Err.ensures.stores.each;
  cause = file-failed (Unit {0}) (Err c.in-Err.end) c.in-Err.end c.end_of_join.result refl c.end_of_join.ensures c.in-Err.ensures.stores.cause;
}

pub returns-in-Ok-put_report-clause-allowed : goal.returns-in-Ok-put_report-clause-allowed
returns-in-Ok-put_report-clause-allowed g c = (
  c.args.sizes.now,
  same_told g.S.Store.bytes g.S.Store.told g.S.Store.name g.S.Store.faults c.args.files.now c.join.new.stores c.in-Ok.ensures.stores.each ∙ c.requires.sized.are_told,
  c.requires.sized.in_reach,
)

pub returns-in-Ok-put_report-clause-handed : goal.returns-in-Ok-put_report-clause-handed
returns-in-Ok-put_report-clause-handed g c =
    may_join g.S.Store.handed c.args.sizes.now c.args.files.now c.join.new.stores c.in-Ok.ensures.handed

pub returns-in-Err-put_report-clause-allowed : goal.returns-in-Err-put_report-clause-allowed
returns-in-Err-put_report-clause-allowed g c = (
  refl,
  (
    c.args.sizes.now,
    same_told g.S.Store.bytes g.S.Store.told g.S.Store.name g.S.Store.faults c.args.files.now c.join.new.stores c.in-Ok.ensures.stores.each ∙ c.requires.sized.are_told,
    c.requires.sized.in_reach,
  ),
)

pub returns-in-Err-put_report-clause-handed : goal.returns-in-Err-put_report-clause-handed
returns-in-Err-put_report-clause-handed g c =
    may_join g.S.Store.handed c.args.sizes.now c.args.files.now c.join.new.stores c.in-Ok.ensures.handed
