use Rattle.std.proofs.Common.{◌≡◌, Some, Err, true, false, refl, sym, ap, subst, arith, rules}
use Rattle.chunk_reader.proofs.Rooms.{IsSized}
use Rattle.record_seek.proofs.Searching.{search-on, search-found, search-ended, search-refused, search-paid}
use Rattle.record_seek.proofs.seeks.answering_from.Goals as goal
use Rattle.record_seek.proofs.seeks.answering_from.Goals.{Start}

-- the told size is that of the file
sized : (g : _) (c : Start g) → IsSized (g.S.Store.bytes c.args.store.now) (Some c.args.size)
sized g c = subst (IsSized (g.S.Store.bytes c.args.store.now)) c.requires.place.sized.is_told (g.met.S.Store.sized c.args.store.now)

pub returns-in_err-passed-clause-refused : goal.returns-in_err-passed-clause-refused
returns-in_err-passed-clause-refused g c =
    λ fault e.
    let kept = c.loop-place.invariant in
    search-refused _ _ c.args.size c.args.at c.args.begin c.loop-place.place _ _ fault kept.asks.same_bytes c.loop-place-test.true kept.search
    (c.in_err-passed.ensures.refused fault (ap Err (sym (rw e at c.from_residual.ensures.1))))

pub returns-in_err-passed-clause-handed : goal.returns-in_err-passed-clause-handed
returns-in_err-passed-clause-handed g c =
    search-paid _ c.args.at c.args.begin c.loop-place.place _ _ _ c.passed_at.ensures.store.handed c.loop-place.invariant.search

pub returns-then-has_record_from-clause-answer : goal.returns-then-has_record_from-clause-answer
returns-then-has_record_from-clause-answer g c =
    let kept = c.loop-place.invariant in
    search-found _ _ c.args.at c.args.begin c.loop-place.place c.in_ok-passed.passed _ _ kept.asks.same_bytes kept.search
    c.in_ok-passed.ensures.passed (c.if-has_record_from.ensures.0 refl)

pub returns-then-has_record_from-clause-handed : goal.returns-then-has_record_from-clause-handed
returns-then-has_record_from-clause-handed g c =
    search-paid _ c.args.at c.args.begin c.loop-place.place _ _ _ c.passed_at.ensures.store.handed c.loop-place.invariant.search

pub loop-place-preserved : goal.loop-place-preserved
loop-place-preserved g c =
    let kept = c.loop-place.invariant in
    let given = c.in_ok-passed.ensures in
    record {
      boundary = given.bounds.boundary;
      within = given.bounds.within;
      search = search-on _ _ c.args.at c.args.begin c.loop-place.place c.in_ok-passed.passed _ _ _ kept.asks.same_bytes kept.search
          given.passed
          (λ has.
          let no : false ≡ true = c.if-has_record_from.ensures.1 has in
          absurd (cc)) c.passed_at.ensures.store.handed;
      asks = search rules;
    }

pub returns-clause-answer : goal.returns-clause-answer
returns-clause-answer g c =
    let kept = c.loop-place.invariant in
    search-ended _ c.args.size c.args.at c.args.begin c.loop-place.place _ _ (sized g (goal.at.returns-clause-answer g c).Start) kept.within
    c.loop-place-test.false kept.search

pub returns-clause-handed : goal.returns-clause-handed
returns-clause-handed g c =
    search-paid _ c.args.at c.args.begin c.loop-place.place _ _ _ (omega arith) c.loop-place.invariant.search
