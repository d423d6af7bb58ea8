use Rattle.std.proofs.Common.{◌∙◌, ◌+◌, ◌≤◌, Err, IfSome, ap, sym, arith, rules}
use Rattle.std.proofs.lemmas.Result.{on_ok_weaker}
use Rattle.block_layout.specs.Layout.{end_of}
use Rattle.block_layout.proofs.Ends.{end_of_after, end_of_room}
use Rattle.chunk_reader.specs.BlockJudges.{EachBlock}
use Rattle.chunk_reader.proofs.Loads.{IsOnBoundary-of, header_within, data_within, chunk_end-on_boundary, taken_data}
use Rattle.chunk_reader.proofs.Scans.{accepted-joined, refused-in_header, refused-behind, HasUsableBytes-before, headers-of_header, headers-behind}
use Rattle.chunk_reader.proofs.feeding.read_data.Goals as goal
use Rattle.chunk_reader.proofs.feeding.read_data.Goals.{After-behind_header-usable, After-judge_blocks, In_ok-feed_data}

-- the chunk has its header, and the data behind that
header_ends : (g : _) (c : After-behind_header-usable g) → c.behind_header-usable.result.place ≤ c.args.end
header_ends g c =
    let header = c.args.header.now in
    omega (arith, c.behind_header-usable.ensures, header_within c.args.at header.data_size header.num_records, c.requires.span.is_end)

data_ends : (g : _) (c : After-behind_header-usable g) → end_of c.behind_header-usable.result.place c.args.header.now.data_size ≤ c.args.end
data_ends g c =
    let header = c.args.header.now in
    rw (c.behind_header-usable.ensures, c.requires.span.is_end) (data_within c.args.at header.data_size header.num_records)

-- what is taken up to there
header_takes : (g : _) (c : After-judge_blocks g)
    → g.S.Store.handed c.judge_blocks.new.store + (c.args.at + 40) ≤ g.S.Store.handed c.args.store.now + end_of c.args.at 40
header_takes g c =
    omega (
      arith,
      c.behind_header-usable.ensures,
      c.judge_blocks.ensures.store.handed,
      headers-of_header c.args.at (IsOnBoundary-of c.args.at c.requires.span.from_boundary),
    )

pub behind_header-usable-requires-clause-in_reach : goal.behind_header-usable-requires-clause-in_reach
behind_header-usable-requires-clause-in_reach g c =
    let header = c.args.header.now in
    omega (
      arith,
      end_of_after c.args.at 40,
      header_within c.args.at header.data_size header.num_records,
      c.requires.span.is_end,
      c.requires.span.in_reach,
    )

pub judge_blocks-requires-clause-judges : goal.judge_blocks-requires-clause-judges
judge_blocks-requires-clause-judges g c =
    let may = c.requires.judges in
    let ends = header_ends g (goal.at.judge_blocks-requires-clause-judges g c).After-behind_header-usable in
    record {
      fits = may.fits;
      begun = may.begun;
      ordered = omega (arith, c.behind_header-usable.ensures, end_of_after c.args.at 40);
      within = omega (arith, may.within, ends);
    }

pub judge_blocks-requires-clause-in_reach : goal.judge_blocks-requires-clause-in_reach
judge_blocks-requires-clause-in_reach g c =
    omega (arith, c.requires.span.in_reach, header_ends g (goal.at.judge_blocks-requires-clause-in_reach g c).After-behind_header-usable)

pub feed_data-requires-clause-judges : goal.feed_data-requires-clause-judges
feed_data-requires-clause-judges g c =
    let may = c.requires.judges in
    let place = c.behind_header-usable.result.place in
    let ends = data_ends g (goal.at.feed_data-requires-clause-judges g c).After-behind_header-usable in
    record {
      fits = rw c.in_ok-judge_blocks.ensures.store.asks.same_told may.fits;
      begun = omega (arith, may.begun, c.behind_header-usable.ensures, end_of_after c.args.at 40);
      ordered = end_of_after place c.args.header.now.data_size;
      within = omega (arith, may.within, ends);
    }

pub feed_data-requires-clause-told : goal.feed_data-requires-clause-told
feed_data-requires-clause-told g c =
    let span = c.requires.span in
    let ends = data_ends g (goal.at.feed_data-requires-clause-told g c).After-behind_header-usable in
    rw c.in_ok-judge_blocks.ensures.store.asks.same_told
    (HasUsableBytes-before _ c.behind_header-usable.result.place c.args.header.now.data_size c.args.end span.within ends span.in_reach)

pub judge_blocks-requires-2-clause-judges : goal.judge_blocks-requires-2-clause-judges
judge_blocks-requires-2-clause-judges g c =
    let may = c.requires.judges in
    let place = c.behind_header-usable.result.place in
    let moved = c.in_ok-feed_data.ensures.moved in
    let ends = data_ends g (goal.at.judge_blocks-requires-2-clause-judges g c).After-behind_header-usable in
    record {
      fits = rw (c.in_ok-feed_data.ensures.store.asks.same_told, c.in_ok-judge_blocks.ensures.store.asks.same_told) may.fits;
      begun = omega (arith, may.begun, c.behind_header-usable.ensures, end_of_after c.args.at 40, moved, end_of_after place c.args.header.now.data_size);
      ordered = omega (arith, moved, ends);
      within = omega (arith, may.within, moved, ends);
    }

pub returns-in_err-judge_blocks-clause-refused : goal.returns-in_err-judge_blocks-clause-refused
returns-in_err-judge_blocks-clause-refused g c =
    λ told e.
    let at = goal.at.returns-in_err-judge_blocks-clause-refused g c in
    let here = c.in_err-judge_blocks.ensures.refused told (ap Err (sym (rw e at c.from_residual.ensures.1))) in (
      here.0,
      refused-in_header _ (g.J.JudgesBlocks.accepts c.args.judge.now) (g.J.JudgesBlocks.tells c.args.judge.now) c.args.at
          c.behind_header-usable.result.place c.args.end told _ _ (header_ends g at.After-behind_header-usable) (header_takes g at.After-judge_blocks) here.1,
    )

pub returns-in_err-judge_blocks-clause-store : goal.returns-in_err-judge_blocks-clause-store
returns-in_err-judge_blocks-clause-store g c =
    let at = goal.at.returns-in_err-judge_blocks-clause-store g c in
    record {
      asks = search rules;
      handed = omega (arith, header_takes g at.After-judge_blocks, c.behind_header-usable.ensures, header_ends g at.After-behind_header-usable);
    }

pub returns-in_err-feed_data-clause-refused : goal.returns-in_err-feed_data-clause-refused
returns-in_err-feed_data-clause-refused g c =
    λ told e.
    let at = goal.at.returns-in_err-feed_data-clause-refused g c in
    let place = c.behind_header-usable.result.place in
    let here = c.in_err-feed_data.ensures.refused told (ap Err (sym (rw e at c.from_residual-in_err-feed_data.ensures.1))) in (
      here.0,
      refused-behind _ _ (g.J.JudgesBlocks.accepts c.args.judge.now) (g.J.JudgesBlocks.tells c.args.judge.now) c.args.at place
          (end_of place c.args.header.now.data_size) c.args.end told _ _ _ c.in_ok-judge_blocks.ensures.store.asks.same_bytes
          (omega (arith, c.behind_header-usable.ensures, end_of_room c.args.at 40)) (data_ends g at.After-behind_header-usable)
          c.in_ok-judge_blocks.ensures.accepted (omega (arith, header_takes g at.After-judge_blocks, c.behind_header-usable.ensures)) here.1,
    )

pub returns-in_err-feed_data-clause-store : goal.returns-in_err-feed_data-clause-store
returns-in_err-feed_data-clause-store g c =
    let at = goal.at.returns-in_err-feed_data-clause-store g c in
    record {
      asks = search rules;
      handed = omega (
        arith,
        header_takes g at.After-judge_blocks,
        c.behind_header-usable.ensures,
        c.feed_data.ensures.store.handed,
        data_ends g at.After-behind_header-usable,
      );
    }

-- the blocks up to the end of the data are accepted
accepted_to_data : (g : _) (c : In_ok-feed_data g) → IfSome (g.S.Store.bytes c.args.store.now)
    (λ file. EachBlock (g.J.JudgesBlocks.accepts c.args.judge.now file) c.args.at c.feed_data.new.usable.place)
accepted_to_data g c =
    accepted-joined _ _ (g.J.JudgesBlocks.accepts c.args.judge.now) c.args.at c.behind_header-usable.result.place c.feed_data.new.usable.place
    c.in_ok-judge_blocks.ensures.store.asks.same_bytes c.in_ok-judge_blocks.ensures.accepted c.in_ok-feed_data.ensures.accepted

-- and so much is taken there
data_takes : (g : _) (c : In_ok-feed_data g)
    → g.S.Store.handed c.feed_data.new.store + (c.args.at + 40) ≤ g.S.Store.handed c.args.store.now + c.feed_data.new.usable.place
data_takes g c =
    omega (
      arith,
      c.behind_header-usable.ensures,
      c.judge_blocks.ensures.store.handed,
      headers-of_header c.args.at (IsOnBoundary-of c.args.at c.requires.span.from_boundary),
      c.feed_data.ensures.store.handed,
      c.in_ok-feed_data.ensures.moved,
    )

pub returns-clause-accepted : goal.returns-clause-accepted
returns-clause-accepted g c =
    let fed = (goal.at.returns-clause-accepted g c).In_ok-feed_data in
    on_ok_weaker c.judge_blocks-2.result
    (λ behind. accepted-joined _ _ (g.J.JudgesBlocks.accepts c.args.judge.now) c.args.at c.feed_data.new.usable.place c.args.end
    (c.in_ok-feed_data.ensures.store.asks.same_bytes ∙ c.in_ok-judge_blocks.ensures.store.asks.same_bytes) (accepted_to_data g fed) behind)
    c.judge_blocks-2.ensures.accepted

pub returns-clause-refused : goal.returns-clause-refused
returns-clause-refused g c =
    λ told e.
    let at = goal.at.returns-clause-refused g c in
    let place = c.behind_header-usable.result.place in
    let past : c.args.at + 40 ≤ c.feed_data.new.usable.place =
    omega (
      arith,
      c.behind_header-usable.ensures,
      end_of_room c.args.at 40,
      c.in_ok-feed_data.ensures.moved,
      end_of_after place c.args.header.now.data_size,
    ) in
    let here = c.judge_blocks-2.ensures.refused told e in (
      here.0,
      refused-behind _ _ (g.J.JudgesBlocks.accepts c.args.judge.now) (g.J.JudgesBlocks.tells c.args.judge.now) c.args.at c.feed_data.new.usable.place
          c.args.end c.args.end told _ _ _ (c.in_ok-feed_data.ensures.store.asks.same_bytes ∙ c.in_ok-judge_blocks.ensures.store.asks.same_bytes) past
          (omega arith) (accepted_to_data g at.In_ok-feed_data) (data_takes g at.In_ok-feed_data) here.1,
    )

pub returns-clause-taken : goal.returns-clause-taken
returns-clause-taken g c =
    let header = c.args.header.now in
    on_ok_weaker c.judge_blocks-2.result
    (λ behind. taken_data _ _ (g.S.Store.told c.args.store.now) (g.T.TakesData.has_taken c.feed_data.new.taker) c.args.at header.data_size c.args.end
    c.in_ok-judge_blocks.ensures.store.asks.same_bytes (g.met.S.Store.sized c.args.store.now) c.requires.span.within
    (omega (arith, c.requires.span.is_end, header_within c.args.at header.data_size header.num_records))
    (rw (c.behind_header-usable.ensures) at c.in_ok-feed_data.ensures.taken))
    c.judge_blocks-2.ensures.accepted

pub returns-clause-store : goal.returns-clause-store
returns-clause-store g c =
    let at = goal.at.returns-clause-store g c in
    let header = c.args.header.now in
    let place : c.feed_data.new.usable.place ≤ c.args.end =
    omega (arith, c.in_ok-feed_data.ensures.moved, data_ends g at.After-behind_header-usable) in
    record {
      asks = search rules;
      handed = headers-behind c.feed_data.new.usable.place c.args.end _ _ _ (c.args.at + 40) place
          (rw c.requires.span.is_end (chunk_end-on_boundary c.args.at header.data_size header.num_records)) (data_takes g at.In_ok-feed_data)
          c.judge_blocks-2.ensures.store.handed;
    }
