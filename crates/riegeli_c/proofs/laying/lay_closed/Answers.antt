use Rattle.std.proofs.Common.{◌≡◌, ℕ, ◌+◌, ◌-◌, ◌≤◌, List, [], Err, length, refl, ap, subst, arith}
use Rattle.std.specs.Prelude.{slice_range}
use Rattle.std.proofs.lemmas.Result.{err_from_is_err_and}
use Rattle.simple_chunk.specs.Records.{parts_from}
use Rattle.record_group.specs.Groupings.{groups_from}
use Rattle.riegeli_c.specs.Writes.{AreCuts, records_cut}
use Rattle.riegeli_c.specs.declared.laying.LayEnd.TheVariants.{Made}
use Rattle.riegeli_c.proofs.ClosedGroups.{AreClosed, closed-push, closed-short, reach-push}
use Rattle.riegeli_c.proofs.LaidBy.{none-laid, counts-same, counts-then, counts-where, lays-err, unspent}
use Rattle.riegeli_c.proofs.RecordCuts.{length-cut}
use Rattle.riegeli_c.proofs.laying.lay_closed.Goals as goal

pub loop-end-init : goal.loop-end-init
loop-end-init g c = record {
  closed = record {
    closed = [];
    laid = none-laid (g.M.Sink.taken c.args.made.now) c.args.writer.now c.requires.going;
    groups_are = refl;
    first = λ _. refl;
  };
  going = c.requires.going;
  cuts = c.requires.cuts;
  within = omega arith;
  in_reach = omega (arith, c.requires.in_reach);
  counts = counts-same g.M.Sink.lent g.M.Sink.faults ⊥ c.args.made.now (λ no. no);
}

pub returns-in_err-lay_before-clause-laid : goal.returns-in_err-lay_before-clause-laid
returns-in_err-lay_before-clause-laid g c =
    let p = err_from_is_err_and c.from_residual.result c.from_residual.ensures.1 in
    let values = c.args.values.now in
    let all = groups_from c.args.grouper.now (records_cut values c.args.ends.now) in
    let closed = subst
    (λ (rest : List ℕ). AreClosed (g.M.Sink.taken c.args.made.now) (g.M.Sink.taken c.loop-end.made) c.args.writer.now c.loop-end.writer all c.loop-end.grouper
    (parts_from c.loop-end.begin rest values))
    c.in-Some.ensures.cases.0 c.loop-end.invariant.closed in
    let made = λ (is : c.from_residual.result ≡ Err Made). let m : c.in_err-lay_before.field-0.0 ≡ Made = cc (p.1, p.2, is) in m in
    lays-err g.M.Sink.taken g.M.Sink.lent g.M.Sink.faults c.from_residual.result p.0 c.args.writer.now c.lay_before.new.writer _ c.args.made.now c.lay_before.new.made p.1
    (λ is.
    closed-short (g.M.Sink.taken c.args.made.now) (g.M.Sink.taken c.loop-end.made) (g.M.Sink.taken c.lay_before.new.made) c.args.writer.now c.loop-end.writer all
    c.loop-end.grouper (slice_range values c.loop-end.begin c.in-Some.end.now) (parts_from c.in-Some.end.now c.in-Some.behind.now values) closed
    (c.in_err-lay_before.ensures.closes (ap Err (made is))) (c.in_err-lay_before.ensures.short (ap Err (made is))))
    (counts-then g.M.Sink.lent g.M.Sink.faults c.args.made.now c.loop-end.made c.lay_before.new.made c.loop-end.invariant.counts
    (counts-where g.M.Sink.lent g.M.Sink.faults c.loop-end.made c.lay_before.new.made c.in_err-lay_before.ensures.counts (λ is. ap Err (made is))))

pub loop-end-preserved : goal.loop-end-preserved
loop-end-preserved g c =
    let values = c.args.values.now in
    let begin = c.loop-end.begin in
    let end = c.in-Some.end.now in
    let behind = c.in-Some.behind.now in
    let one = slice_range values begin end in
    let all = groups_from c.args.grouper.now (records_cut values c.args.ends.now) in
    let closed = subst
    (λ (rest : List ℕ). AreClosed (g.M.Sink.taken c.args.made.now) (g.M.Sink.taken c.loop-end.made) c.args.writer.now c.loop-end.writer all c.loop-end.grouper
    (parts_from begin rest values))
    c.in-Some.ensures.cases.0 c.loop-end.invariant.closed in
    let cuts = subst (λ (rest : List ℕ). AreCuts begin rest (length values)) c.in-Some.ensures.cases.0 c.loop-end.invariant.cuts in
    let step = c.in_ok-lay_before.ensures.whole in
    let size : length one ≡ end - begin = length-cut values begin end cuts.1 in
    let lowers : (length values - end + length behind) + length one + 1 ≤ length values - begin + length c.loop-end.rest.now =
    omega (arith, size, cuts.0, cuts.1, ap length c.in-Some.ensures.cases.0) in
    record {
      closed = closed-push (g.M.Sink.taken c.args.made.now) (g.M.Sink.taken c.loop-end.made) (g.M.Sink.taken c.lay_before.new.made) c.args.writer.now c.loop-end.writer
          c.lay_before.new.writer all c.loop-end.grouper c.lay_before.new.grouper one (parts_from end behind values) step.0 closed step.1 step.2;
      going = unspent _ _ c.loop-end.writer c.lay_before.new.writer _ step.2;
      cuts = cuts.3;
      within = cuts.1;
      in_reach = reach-push (g.M.Sink.taken c.loop-end.made) (g.M.Sink.taken c.lay_before.new.made) c.loop-end.writer c.lay_before.new.writer c.loop-end.grouper
          c.lay_before.new.grouper one step.0 (length values - begin + length c.loop-end.rest.now) (length values - end + length behind) step.1 step.2 lowers c.loop-end.invariant.in_reach;
      counts = counts-then g.M.Sink.lent g.M.Sink.faults c.args.made.now c.loop-end.made c.lay_before.new.made c.loop-end.invariant.counts
          (counts-where g.M.Sink.lent g.M.Sink.faults c.loop-end.made c.lay_before.new.made c.in_ok-lay_before.ensures.counts (λ (no : ⊥). absurd no));
    }
