use Rattle.std.proofs.Common.{◌≡◌, Err, ap, inl, inr, refl}
use Rattle.record_io.specs.Outside.{Takes, TakesShort}
use Rattle.record_append.specs.Appends.{KeepsFront}
use Rattle.riegeli_tool.proofs.AppendSteps.{ended-appended, ended-kept, ended-sized, failed-appended, long-appended, long-sized, stays-kept, still-tells, told-appended, told-kept}
use Rattle.riegeli_tool.proofs.append.append_lines.Goals as goal

pub returns-in-Err-Limit-clause-appended : goal.returns-in-Err-Limit-clause-appended
returns-in-Err-Limit-clause-appended g c =
    long-appended c.args.words.now _ _ _ _ _ (g.G.Store.faults c.args.grown.now) (g.G.Store.faults c.size_in_reach.new.grown)
    (rw c.in-Err-Limit.field-0-is at c.in-Err-Limit.ensures.unread) c.size_in_reach.ensures.same_bytes

pub returns-in-Err-Limit-clause-kept : goal.returns-in-Err-Limit-clause-kept
returns-in-Err-Limit-clause-kept g c = stays-kept _ _ (λ file now. now ≡ file) c.size_in_reach.ensures.same_bytes (λ file now same. same)

pub returns-in-Err-Limit-clause-sized : goal.returns-in-Err-Limit-clause-sized
returns-in-Err-Limit-clause-sized g c =
    long-sized c.args.words.now _ _ (g.G.Store.faults c.args.grown.now) (g.G.Store.faults c.size_in_reach.new.grown)
    (rw c.in-Err-Limit.field-0-is at c.in-Err-Limit.ensures.unread) c.size_in_reach.ensures.sized

pub returns-in-Err-File-clause-appended : goal.returns-in-Err-File-clause-appended
returns-in-Err-File-clause-appended g c = failed-appended c.args.words.now _ _ _ _ c.size_in_reach.ensures.same_bytes

pub returns-in-Err-File-clause-kept : goal.returns-in-Err-File-clause-kept
returns-in-Err-File-clause-kept g c =
    stays-kept _ _ (KeepsFront c.args.words.now.cut) c.size_in_reach.ensures.same_bytes (λ file now same. inl same)

pub returns-in-Err-clause-appended : goal.returns-in-Err-clause-appended
returns-in-Err-clause-appended g c =
    ended-appended c.args.words.now c.in-Err.end _ c.in-Ok.size _ _ _ _ _ c.end_of_append.ensures c.size_in_reach.ensures.same_bytes
    c.in-Ok.ensures.in_reach c.in-Ok.ensures.exact (λ fault is. (c.in-Err.ensures.refused fault (ap Err is)).3) c.in-Err.ensures.put

pub returns-in-Err-clause-kept : goal.returns-in-Err-clause-kept
returns-in-Err-clause-kept g c =
    ended-kept c.args.words.now c.in-Err.end _ _ _ _ c.end_of_append.ensures c.size_in_reach.ensures.same_bytes c.in-Err.ensures.kept

pub returns-in-Err-clause-sized : goal.returns-in-Err-clause-sized
returns-in-Err-clause-sized g c =
    ended-sized c.args.words.now c.in-Err.end _ c.in-Ok.size _ _ c.end_of_append.ensures c.in-Ok.ensures.in_reach c.in-Ok.ensures.exact
    c.grow.ensures.still_told
    (λ fault is. let refused = c.in-Err.ensures.refused fault (ap Err is) in (refused.0, refused.1, refused.2))

pub returns-in-Err-clause-handed : goal.returns-in-Err-clause-handed
returns-in-Err-clause-handed g c = inr
    (c.in-Ok.size, c.in-Ok.ensures.in_reach, c.in-Ok.ensures.exact, still-tells c.in-Ok.size _ c.in-Ok.ensures.in_reach c.grow.ensures.still_told)

pub returns-in-Ok-put_appended-clause-appended : goal.returns-in-Ok-put_appended-clause-appended
returns-in-Ok-put_appended-clause-appended g c =
    told-appended c.args.words.now Takes c.in-Ok-grow.appended _ _ _ _ _ _ c.size_in_reach.ensures.same_bytes c.in-Ok-grow.ensures.put
    c.in-Ok-put_appended.ensures.out.whole

pub returns-in-Ok-put_appended-clause-kept : goal.returns-in-Ok-put_appended-clause-kept
returns-in-Ok-put_appended-clause-kept g c =
    told-kept c.args.words.now c.in-Ok-grow.appended _ _ _ _ c.size_in_reach.ensures.same_bytes (λ file now grows. grows) c.in-Ok-grow.ensures.kept

pub returns-in-Ok-put_appended-clause-sized : goal.returns-in-Ok-put_appended-clause-sized
returns-in-Ok-put_appended-clause-sized g c =
    (c.in-Ok.size, c.in-Ok.ensures.in_reach, c.in-Ok.ensures.exact, still-tells c.in-Ok.size _ c.in-Ok.ensures.in_reach c.grow.ensures.still_told)

pub returns-in-Ok-put_appended-clause-handed : goal.returns-in-Ok-put_appended-clause-handed
returns-in-Ok-put_appended-clause-handed g c = inr
    (c.in-Ok.size, c.in-Ok.ensures.in_reach, c.in-Ok.ensures.exact, still-tells c.in-Ok.size _ c.in-Ok.ensures.in_reach c.grow.ensures.still_told)

pub returns-in-Err-put_appended-clause-appended : goal.returns-in-Err-put_appended-clause-appended
returns-in-Err-put_appended-clause-appended g c =
    told-appended c.args.words.now TakesShort c.in-Ok-grow.appended _ _ _ _ _ _ c.size_in_reach.ensures.same_bytes c.in-Ok-grow.ensures.put
    c.in-Err-put_appended.ensures.out.front

pub returns-in-Err-put_appended-clause-kept : goal.returns-in-Err-put_appended-clause-kept
returns-in-Err-put_appended-clause-kept g c =
    told-kept c.args.words.now c.in-Ok-grow.appended _ _ _ _ c.size_in_reach.ensures.same_bytes (λ file now grows. grows) c.in-Ok-grow.ensures.kept

pub returns-in-Err-put_appended-clause-sized : goal.returns-in-Err-put_appended-clause-sized
returns-in-Err-put_appended-clause-sized g c =
    (refl, (c.in-Ok.size, c.in-Ok.ensures.in_reach, c.in-Ok.ensures.exact, still-tells c.in-Ok.size _ c.in-Ok.ensures.in_reach c.grow.ensures.still_told))

pub returns-in-Err-put_appended-clause-handed : goal.returns-in-Err-put_appended-clause-handed
returns-in-Err-put_appended-clause-handed g c = inr
    (c.in-Ok.size, c.in-Ok.ensures.in_reach, c.in-Ok.ensures.exact, still-tells c.in-Ok.size _ c.in-Ok.ensures.in_reach c.grow.ensures.still_told)
