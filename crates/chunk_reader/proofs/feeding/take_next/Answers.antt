use Rattle.std.proofs.Common.{◌≡◌, ◌≢◌, ◌+◌, ◌*◌, ◌/◌, ◌%◌, ◌≤◌, Err, sym, ap, length, arith, rules}
use Rattle.block_layout.specs.Layout.{end_of}
use Rattle.block_layout.specs.NextPlaces.{usable_from}
use Rattle.block_layout.proofs.Ends.{end_of_above}
use Rattle.chunk_reader.proofs.Scans.{accepted-none, accepted-one, refused-one, usable-end_of}
use Rattle.chunk_reader.proofs.feeding.take_next.Goals as goal
use Rattle.chunk_reader.proofs.feeding.take_next.Goals.{After-take, then-usable-eq0+in_ok-judge, else-usable-eq0}

pub judge-requires-clause-judges : goal.judge-requires-clause-judges
judge-requires-clause-judges g c =
    let may = c.requires.judges in
    record {
      fits = may.fits;
      begun = may.begun;
      ordered = omega arith;
      within = omega (arith, may.within, end_of_above c.args.usable.now.place (length c.args.buf.now) c.requires.room);
    }

pub returns-in_err-judge-clause-refused : goal.returns-in_err-judge-clause-refused
returns-in_err-judge-clause-refused g c =
    λ told e.
    let place = c.args.usable.now.place in
    let size = length c.args.buf.now in
    let here = c.in_err-judge.ensures.refused told (ap Err (sym (rw e at c.from_residual.ensures.1))) in (
      here.0,
      refused-one _ (g.J.JudgesBlocks.accepts c.args.judge.now) (g.J.JudgesBlocks.tells c.args.judge.now) place (end_of place size) told _ _
          c.if-usable-eq0.true (end_of_above place size c.requires.room) c.judge.ensures.store.handed here.1,
    )

pub returns-in_err-judge-clause-store : goal.returns-in_err-judge-clause-store
returns-in_err-judge-clause-store g c =
    let place = c.args.usable.now.place in
    let block : place % 65536 ≡ 0 = c.if-usable-eq0.true in
    record {
      asks = search rules;
      handed = omega (arith, c.judge.ensures.store.handed, usable-end_of place (length c.args.buf.now) c.requires.room);
    }

pub returns-clause-accepted : goal.returns-clause-accepted
returns-clause-accepted g c =
    let place = c.args.usable.now.place in
    let accepts = g.J.JudgesBlocks.accepts c.args.judge.now in
    let near : c.take.new.self.place ≤ place / 65536 * 65536 + 65536 = c.in_ok-take.ensures.run.in_block in
    elim c.if-usable-eq0.branch [
      | then-usable-eq0+in_ok-judge w ↦
          let block : place % 65536 ≡ 0 = w.if-usable-eq0.true in
          accepted-one _ accepts place c.take.new.self.place block (omega (arith, near, block)) w.in_ok-judge.ensures.accepted
      | else-usable-eq0 w ↦
          let inside : place % 65536 ≢ 0 = w.if-usable-eq0.false in
          accepted-none _ accepts place c.take.new.self.place (omega (arith, near, inside))
    ]

-- with the block header, where there is one, the bytes handed out are no more than the positions up to the data
judged : (g : _) (c : After-take g) → g.S.Store.handed c.if-usable-eq0.store + c.args.usable.now.place
    ≤ g.S.Store.handed c.args.store.now + usable_from c.args.usable.now.place
judged g c = elim c.if-usable-eq0.branch [
  | then-usable-eq0+in_ok-judge w ↦
      let block : c.args.usable.now.place % 65536 ≡ 0 = w.if-usable-eq0.true in omega (arith, w.judge.ensures.store.handed, ap g.S.Store.handed w.store-is)
  | else-usable-eq0 w ↦ omega (arith, ap g.S.Store.handed w.store-is)
]

pub returns-in_err-take-clause-store : goal.returns-in_err-take-clause-store
returns-in_err-take-clause-store g c =
    let before = judged g (goal.at.returns-in_err-take-clause-store g c).After-take in
    record {
      asks = search rules;
      handed = omega (arith, before, c.take.ensures.store.handed, usable-end_of c.args.usable.now.place (length c.args.buf.now) c.requires.room);
    }

pub returns-clause-handed : goal.returns-clause-handed
returns-clause-handed g c =
    let before = judged g (goal.at.returns-clause-handed g c).After-take in
    let place = c.args.usable.now.place in
    omega (arith, before, c.in_ok-take.ensures.handed, c.in_ok-take.ensures.run.moved, usable-end_of place c.in_ok-take.field-0 c.in_ok-take.ensures.run.some)

pub returns-clause-store : goal.returns-clause-store
returns-clause-store g c =
    let before = judged g (goal.at.returns-clause-store g c).After-take in
    record {
      asks = search rules;
      handed = omega (arith, before, c.take.ensures.store.handed, usable-end_of c.args.usable.now.place (length c.args.buf.now) c.requires.room);
    }
