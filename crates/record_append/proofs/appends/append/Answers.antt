use Rattle.std.proofs.Common.{◌+◌, ◌-◌, Err, ap, rules}
use Rattle.std.proofs.lemmas.Result.{err_from_is_err_and}
use Rattle.record_append.proofs.Grows.{answered_whole, grown_whole}
use Rattle.record_append.proofs.KeptFiles.{complete_early, refused_early, taken_never}
use Rattle.record_append.proofs.appends.append.Goals as goal

pub returns-in_err-kept-clause-refuses : goal.returns-in_err-kept-clause-refuses
returns-in_err-kept-clause-refuses g c =
    let p = err_from_is_err_and c.from_residual.result c.from_residual.ensures.1 in
    let refused = c.in_err-kept.ensures.refused in
    record {
      refused = λ fault is. refused fault (ap Err (refused_early c.in_err-kept.field-0.0 fault cc));
      complete = complete_early c.args.cut (g.G.Store.bytes c.args.device.now) c.from_residual.result c.in_err-kept.field-0.0 (rw p.2 at p.1)
          (λ fault is. (refused fault (ap Err is)).2);
      untouched = search rules;
    }

pub returns-in_err-put-clause-refuses : goal.returns-in_err-put-clause-refuses
returns-in_err-put-clause-refuses g c = record {
  refused = search rules;
  complete = taken_never c.args.cut (g.G.Store.bytes c.args.device.now) c.in_ok-kept.kept c.from_residual-in_err-put.result c.in_ok-kept.ensures.kept;
  untouched = search rules;
}

pub returns-clause-grown : goal.returns-clause-grown
returns-clause-grown g c =
    let bytes = g.G.Store.bytes c.args.device.now in
    grown_whole c.args.options.now c.args.cut bytes (g.G.Store.bytes c.cut_to.new.device) (g.G.Store.bytes c.put_records.new.device)
    (g.L.RecordFeed.rest c.args.feed.now) c.args.size c.in_ok-kept.kept c.in_ok-put.put
    c.in_ok-kept.ensures.kept c.in_ok-kept.ensures.sized c.in_ok-kept.ensures.place.within
    (rw c.judge.ensures.device.asks.same_bytes at c.in_ok-cut_to.ensures.leaves)
    c.in_ok-put.ensures.answer c.in_ok-put.ensures.put

pub returns-clause-answer : goal.returns-clause-answer
returns-clause-answer g c =
    answered_whole c.args.options.now (g.L.RecordFeed.rest c.args.feed.now) c.in_ok-kept.kept
    (c.args.size - c.in_ok-kept.kept) (c.in_ok-kept.kept + c.in_ok-put.put.bytes) c.in_ok-put.put c.in_ok-put.ensures.answer

pub returns-clause-refuses : goal.returns-clause-refuses
returns-clause-refuses g c = record {
  refused = search rules;
  complete = taken_never c.args.cut (g.G.Store.bytes c.args.device.now) c.in_ok-kept.kept _ c.in_ok-kept.ensures.kept;
  untouched = search rules;
}
