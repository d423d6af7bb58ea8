use Rattle.std.proofs.Common.{◌≡◌, ◌∙◌, ℕ, ◌+◌, ◌-◌, ◌≤◌, Err, length, take, drop, ◌++◌, ap, sym, subst, refl, arith, rules}
use Rattle.std.proofs.lemmas.List.{length-take, length-take-le, take-append-le}
use Rattle.block_layout.specs.Layout.{end_of}
use Rattle.block_layout.proofs.Ends.{end_of-zero, end_of-more, end_of_after}
use Rattle.chunk_reader.proofs.Rooms.{end_of-le, own_none, own_more}
use Rattle.chunk_reader.proofs.Scans.{accepted-none, accepted-joined, refused-joined, piece-within, HasUsableBytes-piece, HasUsableBytes-told}
use Rattle.chunk_reader.proofs.feeding.feed_data.Goals as goal

pub loop-left-init : goal.loop-left-init
loop-left-init g c =
    let place = c.args.usable.now.place in
    let size = c.args.size in
    let none : size - size ≡ 0 = omega arith in record {
      within = omega arith;
      header = refl;
      left = c.requires.unfed.all_left;
      taken = own_none (g.S.Store.bytes c.args.store.now) (g.T.TakesData.has_taken c.args.taker.now) place (size - size) none c.requires.unfed.none;
      moved = sym (ap (end_of place) none ∙ end_of-zero place);
      accepted = accepted-none _ (g.J.JudgesBlocks.accepts c.args.judge.now) place place (omega arith);
      handed = omega arith;
      asks = search rules;
    }

pub take_next-requires-clause-judges : goal.take_next-requires-clause-judges
take_next-requires-clause-judges g c =
    let kept = c.loop-left.invariant in
    let place = c.args.usable.now.place in
    let front = c.args.size - c.loop-left.left in
    let n = length (take c.min-most.result c.loop-left.buf) in
    let most : front + n ≤ c.args.size = omega (arith, length-take {A = ℕ}, c.min-most.ensures, kept.within) in
    record {
      fits = rw kept.asks.same_told c.requires.judges.fits;
      begun = omega (arith, c.requires.judges.begun, kept.moved, end_of_after place front);
      ordered = end_of_after c.loop-left.usable.place n;
      within = omega (arith, c.requires.judges.within, piece-within place c.args.size front n c.loop-left.usable.place kept.moved most);
    }

pub take_next-requires-clause-told : goal.take_next-requires-clause-told
take_next-requires-clause-told g c =
    let kept = c.loop-left.invariant in
    let front = c.args.size - c.loop-left.left in
    let n = length (take c.min-most.result c.loop-left.buf) in
    let most : front + n ≤ c.args.size = omega (arith, length-take {A = ℕ}, c.min-most.ensures, kept.within) in
    rw (kept.asks.same_told, kept.moved) (HasUsableBytes-piece _ c.args.usable.now.place c.args.size front n c.requires.told most)

pub returns-in_err-count-clause-refused : goal.returns-in_err-count-clause-refused
returns-in_err-count-clause-refused g c =
    λ told e.
    let kept = c.loop-left.invariant in
    let place = c.args.usable.now.place in
    let size = c.args.size in
    let front = size - c.loop-left.left in
    let now = c.loop-left.usable.place in
    let n = length (take c.min-most.result c.loop-left.buf) in
    let most : front + n ≤ size = omega (arith, length-take {A = ℕ}, c.min-most.ensures, kept.within) in
    let here = c.in_err-count.ensures.refused told (ap Err (sym (rw e at c.from_residual.ensures.1))) in (
      here.0,
      refused-joined _ _ (g.J.JudgesBlocks.accepts c.args.judge.now) (g.J.JudgesBlocks.tells c.args.judge.now) place now (end_of now n)
          (end_of place size) told _ _ _ kept.asks.same_bytes (omega (arith, kept.moved, end_of_after place front))
          (piece-within place size front n now kept.moved most) kept.accepted kept.handed here.1,
    )

pub returns-in_err-count-clause-store : goal.returns-in_err-count-clause-store
returns-in_err-count-clause-store g c =
    let kept = c.loop-left.invariant in
    let front = c.args.size - c.loop-left.left in
    let n = length (take c.min-most.result c.loop-left.buf) in
    let most : front + n ≤ c.args.size = omega (arith, length-take {A = ℕ}, c.min-most.ensures, kept.within) in
    record {
      asks = search rules;
      handed = omega (
        arith,
        kept.handed,
        c.take_next.ensures.store.handed,
        piece-within c.args.usable.now.place c.args.size front n c.loop-left.usable.place kept.moved most,
      );
    }

pub loop-left-preserved : goal.loop-left-preserved
loop-left-preserved g c =
    let kept = c.loop-left.invariant in
    let given = c.in_ok-count.ensures in
    let place = c.args.usable.now.place in
    let size = c.args.size in
    let left = c.loop-left.left in
    let front = size - left in
    let n = c.in_ok-count.count in
    let few : n ≤ left = omega (arith, given.run.fits, length-take {A = ℕ}, c.min-most.ensures) in
    let joined : size - (left - n) ≡ front + n = omega (arith, kept.within) in
    let buf = c.take_next.new.buf in
    let behind = drop c.min-most.result c.loop-left.buf in
    let fits : n ≤ length buf = omega (arith, given.run.fits, c.take_next.auto.buf) in
    let front_is : take n (buf ++ behind) ≡ take n buf = take-append-le n buf behind fits in
    let size_is : length (take n (buf ++ behind)) ≡ n = ap length front_is ∙ length-take-le n buf fits in
    record {
      within = omega (arith, kept.within);
      header = c.feed.ensures.same_header ∙ kept.header;
      left = subst (λ (k : ℕ). g.T.TakesData.has_left c.feed.new.self k) (ap (λ (m : ℕ). left - m) size_is) (c.feed.ensures.left left kept.left);
      taken = own_more (g.S.Store.bytes c.args.store.now) (g.S.Store.bytes c.loop-left.store) (g.S.Store.told c.args.store.now)
          (g.T.TakesData.has_taken c.loop-left.taker) (g.T.TakesData.has_taken c.feed.new.self) place front n (size - (left - n)) (end_of place size)
          (take n (buf ++ behind)) kept.asks.same_bytes (g.met.S.Store.sized c.args.store.now) (HasUsableBytes-told _ place size c.requires.told)
          (end_of-le place front size (omega arith)) joined c.feed.ensures.taken kept.taken (rw (front_is, ← kept.moved) given.given);
      moved = given.run.moved ∙ ap (λ (p : ℕ). end_of p n) kept.moved ∙ end_of-more place front n ∙ ap (end_of place) (sym joined);
      accepted = accepted-joined _ _ (g.J.JudgesBlocks.accepts c.args.judge.now) place c.loop-left.usable.place c.take_next.new.usable.place
          kept.asks.same_bytes kept.accepted given.accepted;
      handed = omega (arith, given.handed, kept.handed);
      asks = search rules;
    }

pub returns-clause-store : goal.returns-clause-store
returns-clause-store g c =
    let kept = c.loop-left.invariant in
    let all : c.args.size - c.loop-left.left ≡ c.args.size = omega (arith, c.loop-left-test.false) in
    record {
      asks = search rules;
      handed = omega (arith, kept.handed, kept.moved, ap (end_of c.args.usable.now.place) all);
    }
