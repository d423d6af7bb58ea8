use Rattle.std.proofs.Common.{◌*◌, ◌-◌, ◌<◌, ◌≤◌, ◌++◌, length, take, drop, subst, arith, rules}
use Rattle.chunk_workers.specs.Coded.{AreCoded}
use Rattle.chunk_workers.proofs.CodedLists.{AreCoded-push}
use Rattle.chunk_workers.proofs.RunLists.{run_within, run-more}
use Rattle.chunk_workers.proofs.window.code_run.Goals as goal

pub overflow_mul-begin : goal.overflow_mul-begin
overflow_mul-begin g c =
    let within : c.args.number * c.args.step < length c.args.groups.now.groups = run_within c.args.step (length c.args.groups.now.groups) c.args.number c.requires.step c.requires.number in
    search rules

pub loop-i-preserved : goal.loop-i-preserved
loop-i-preserved g c = λ before are.
    let chunk_of = g.C.Coder.chunk_of c.args.coder.now in
    let all = c.args.groups.now.groups in
    let begin = c.args.number * c.args.step in
    let order : begin ≤ c.loop-i.i = omega arith in
    let so_far = before ++ take (c.loop-i.i - begin) (drop begin all) in
    subst (λ gs. AreCoded chunk_of gs c.code.new.coded) (run-more before all begin c.loop-i.i c.group.result order c.group.ensures)
    (AreCoded-push chunk_of so_far c.group.result c.loop-i.chunks c.code.new.coded (c.loop-i.invariant before are) c.in_ok-code.ensures)
