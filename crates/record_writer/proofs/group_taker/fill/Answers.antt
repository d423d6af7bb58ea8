use Rattle.std.proofs.Common.{◌≡◌, ◌≤◌, ℕ, Some, None, Ok, Err, ap, arith, rules}
use Rattle.std.proofs.lemmas.Result.{err_from_is_err_and}
use Rattle.meta_chunk.specs.Files.{end_of_chunks}
use Rattle.record_group.specs.Groupings.{Grouping}
use Rattle.record_writer.specs.declared.cut_off.CutOff.TheVariants.{Input, Memory}
use Rattle.record_writer.specs.declared.feed.FeedEnd.TheVariants as end
use Rattle.record_writer.specs.MadeFiles.{chunks_of_groups, reach_of}
use Rattle.record_writer.specs.Windows.{with_record}
use Rattle.record_writer.proofs.Reaches.{reach_of-closed, cost_of-open}
use Rattle.record_writer.proofs.Taking.{TakesSome, TakesSome-held, TakesSome-record, TakesGroups-window, TakesGroups-cut_off, OnlyCounts-none}
use Rattle.record_writer.proofs.Windows.{TakesGroups-ended}
use Rattle.record_writer.proofs.group_taker.fill.Goals as goal
use Rattle.record_writer.proofs.group_taker.fill.Goals.{After-take_held}

-- what was given once the records that the feed held were taken
held : (g : _) (c : After-take_held g)
    → TakesSome g.L.RecordFeed.rest g.L.RecordFeed.bound g.L.RecordFeed.origin g.L.RecordFeed.faults c.args.feed.now c.take_held.new.feed
    c.args.buffer.now.grouping c.take_held.new.buffer.grouping c.take_held.new.buffer.closed
held g c =
    TakesSome-held _ _ g.L.RecordFeed.rest g.L.RecordFeed.bound g.L.RecordFeed.going g.L.RecordFeed.origin g.L.RecordFeed.faults
    c.args.feed.now c.loop-feed.feed c.take_held.new.feed c.args.buffer.now.grouping c.loop-feed.buffer.grouping c.take_held.new.buffer.grouping
    c.loop-feed.buffer.closed c.take_held.new.buffer.closed
    c.loop-feed.invariant.taken c.take_held.ensures.taken c.take_held.ensures.closed c.take_held.ensures.lowers c.take_held.ensures.in_reach
    c.take_held.ensures.keeps

pub returns-in_err-take_held-clause-taken : goal.returns-in_err-take_held-clause-taken
returns-in_err-take_held-clause-taken g c =
    let p = err_from_is_err_and c.from_residual.result c.from_residual.ensures.1 in
    let at = (goal.at.returns-in_err-take_held-clause-taken g c).After-take_held in
    rw (p.1, p.2)
    (TakesGroups-cut_off _ _ g.L.RecordFeed.rest g.L.RecordFeed.bound g.L.RecordFeed.going g.L.RecordFeed.origin g.L.RecordFeed.faults
    c.args.feed.now c.take_held.new.feed c.take_held.new.feed c.args.buffer.now.grouping c.take_held.new.buffer.grouping c.take_held.new.buffer.grouping
    c.take_held.new.buffer.closed Memory ⊥ (held g at) (omega arith)
    (OnlyCounts-none g.L.RecordFeed.origin g.L.RecordFeed.faults c.take_held.new.feed) (λ is. cc is) (λ is. cc is) (omega arith))

pub returns-in-Err-Failed-clause-taken : goal.returns-in-Err-Failed-clause-taken
returns-in-Err-Failed-clause-taken g c =
    let at = (goal.at.returns-in-Err-Failed-clause-taken g c).After-take_held in
    TakesGroups-cut_off _ _ g.L.RecordFeed.rest g.L.RecordFeed.bound g.L.RecordFeed.going g.L.RecordFeed.origin g.L.RecordFeed.faults
    c.args.feed.now c.take_held.new.feed c.pull.new.self c.args.buffer.now.grouping c.take_held.new.buffer.grouping c.take_held.new.buffer.grouping
    c.take_held.new.buffer.closed Input (c.pull.result ≡ Err end.Failed) (held g at) c.pull.ensures.never_rises
    c.pull.ensures.counts (λ is. search rules) (λ is. cc is) (omega arith)

pub returns-in-Err-Memory-clause-taken : goal.returns-in-Err-Memory-clause-taken
returns-in-Err-Memory-clause-taken g c =
    let at = (goal.at.returns-in-Err-Memory-clause-taken g c).After-take_held in
    TakesGroups-cut_off _ _ g.L.RecordFeed.rest g.L.RecordFeed.bound g.L.RecordFeed.going g.L.RecordFeed.origin g.L.RecordFeed.faults
    c.args.feed.now c.take_held.new.feed c.pull.new.self c.args.buffer.now.grouping c.take_held.new.buffer.grouping c.take_held.new.buffer.grouping
    c.take_held.new.buffer.closed Memory (c.pull.result ≡ Err end.Failed) (held g at) c.pull.ensures.never_rises
    c.pull.ensures.counts (λ is. cc is) (λ is. cc is) (omega arith)

pub returns-in_err-close_before-clause-taken : goal.returns-in_err-close_before-clause-taken
returns-in_err-close_before-clause-taken g c =
    let p = err_from_is_err_and c.from_residual-in_err-close_before.result c.from_residual-in_err-close_before.ensures.1 in
    let at = (goal.at.returns-in_err-close_before-clause-taken g c).After-take_held in
    rw (p.1, p.2, c.in_err-close_before.ensures.kept)
    (TakesGroups-cut_off _ _ g.L.RecordFeed.rest g.L.RecordFeed.bound g.L.RecordFeed.going g.L.RecordFeed.origin g.L.RecordFeed.faults
    c.args.feed.now c.take_held.new.feed c.pull.new.self c.args.buffer.now.grouping c.take_held.new.buffer.grouping c.take_held.new.buffer.grouping
    c.take_held.new.buffer.closed Memory (c.pull.result ≡ Err end.Failed) (held g at) c.pull.ensures.never_rises
    c.pull.ensures.counts (λ is. cc is) (λ is. cc is) (omega arith))

pub returns-then-is_enough-clause-taken : goal.returns-then-is_enough-clause-taken
returns-then-is_enough-clause-taken g c =
    let at = (goal.at.returns-then-is_enough-clause-taken g c).After-take_held in
    let gives = c.in-Ok-true.ensures.gives (ap Ok c.in-Ok-true.field-0-test) in
    let pushes = rw c.as_slice.ensures.value at c.in_ok-close_before.ensures.pushes in
    let reach = rw c.as_slice.ensures.value at c.in_ok-close_before.ensures.in_reach in
    let taken = held g at in
    TakesGroups-window _ _ g.L.RecordFeed.rest g.L.RecordFeed.bound g.L.RecordFeed.going g.L.RecordFeed.origin g.L.RecordFeed.faults
    c.args.feed.now c.take_held.new.feed c.pull.new.self c.args.buffer.now.grouping (with_record c.close_before.new.buffer.grouping c.pull.new.into)
    c.close_before.new.buffer.closed
    (TakesSome-record _ _ g.L.RecordFeed.rest g.L.RecordFeed.bound g.L.RecordFeed.going g.L.RecordFeed.origin g.L.RecordFeed.faults
    c.args.feed.now c.take_held.new.feed c.pull.new.self c.args.buffer.now.grouping c.take_held.new.buffer.grouping
    (with_record c.close_before.new.buffer.grouping c.pull.new.into) c.take_held.new.buffer.closed c.close_before.new.buffer.closed
    c.pull.new.into pushes.0 (c.pull.result ≡ Err end.Failed) taken gives c.pull.ensures.counts (λ failed. search rules)
    pushes.1 pushes.2 reach)
    taken.lowers (omega (arith, gives.lowers)) c.in-Ok-true.ensures.going

pub loop-feed-preserved : goal.loop-feed-preserved
loop-feed-preserved g c =
    let at = (goal.at.loop-feed-preserved g c).After-take_held in
    let gives = c.in-Ok-true.ensures.gives (ap Ok c.in-Ok-true.field-0-test) in
    let pushes = rw c.as_slice.ensures.value at c.in_ok-close_before.ensures.pushes in
    let reach = rw c.as_slice.ensures.value at c.in_ok-close_before.ensures.in_reach in
    let put = rw c.as_slice-in-loop-feed.ensures.value at c.in_ok-append.ensures.push in
    record {
      taken = rw (put.1, c.in_ok-append.ensures.closed)
          (TakesSome-record _ _ g.L.RecordFeed.rest g.L.RecordFeed.bound g.L.RecordFeed.going g.L.RecordFeed.origin g.L.RecordFeed.faults
          c.args.feed.now c.take_held.new.feed c.pull.new.self c.args.buffer.now.grouping c.take_held.new.buffer.grouping
          (with_record c.close_before.new.buffer.grouping c.pull.new.into) c.take_held.new.buffer.closed c.close_before.new.buffer.closed
          c.pull.new.into pushes.0 (c.pull.result ≡ Err end.Failed) (held g at) gives c.pull.ensures.counts (λ failed. search rules)
          pushes.1 pushes.2 reach);
      feed_going = c.in-Ok-true.ensures.going;
    }

pub returns-in_err-append-clause-taken : goal.returns-in_err-append-clause-taken
returns-in_err-append-clause-taken g c =
    let p = err_from_is_err_and c.from_residual-in_err-append.result c.from_residual-in_err-append.ensures.1 in
    let at = (goal.at.returns-in_err-append-clause-taken g c).After-take_held in
    let gives = c.in-Ok-true.ensures.gives (ap Ok c.in-Ok-true.field-0-test) in
    let pushes = rw c.as_slice.ensures.value at c.in_ok-close_before.ensures.pushes in
    let reach = rw c.as_slice.ensures.value at c.in_ok-close_before.ensures.in_reach in
    rw (p.1, p.2, c.in_err-append.ensures.kept)
    (TakesGroups-cut_off _ _ g.L.RecordFeed.rest g.L.RecordFeed.bound g.L.RecordFeed.going g.L.RecordFeed.origin g.L.RecordFeed.faults
    c.args.feed.now c.pull.new.self c.pull.new.self c.args.buffer.now.grouping (with_record c.close_before.new.buffer.grouping c.pull.new.into)
    c.close_before.new.buffer.grouping c.close_before.new.buffer.closed Memory ⊥
    (TakesSome-record _ _ g.L.RecordFeed.rest g.L.RecordFeed.bound g.L.RecordFeed.going g.L.RecordFeed.origin g.L.RecordFeed.faults
    c.args.feed.now c.take_held.new.feed c.pull.new.self c.args.buffer.now.grouping c.take_held.new.buffer.grouping
    (with_record c.close_before.new.buffer.grouping c.pull.new.into) c.take_held.new.buffer.closed c.close_before.new.buffer.closed
    c.pull.new.into pushes.0 (c.pull.result ≡ Err end.Failed) (held g at) gives c.pull.ensures.counts (λ failed. search rules)
    pushes.1 pushes.2 reach)
    (omega arith) (OnlyCounts-none g.L.RecordFeed.origin g.L.RecordFeed.faults c.pull.new.self) (λ is. cc is) (λ is. cc is)
    (cost_of-open c.close_before.new.buffer.grouping c.pull.new.into))

pub returns-in_err-close-clause-taken : goal.returns-in_err-close-clause-taken
returns-in_err-close-clause-taken g c =
    let p = err_from_is_err_and c.from_residual-in_err-close.result c.from_residual-in_err-close.ensures.1 in
    let at = (goal.at.returns-in_err-close-clause-taken g c).After-take_held in
    rw (p.1, p.2, c.in_err-close.ensures.kept)
    (TakesGroups-cut_off _ _ g.L.RecordFeed.rest g.L.RecordFeed.bound g.L.RecordFeed.going g.L.RecordFeed.origin g.L.RecordFeed.faults
    c.args.feed.now c.take_held.new.feed c.pull.new.self c.args.buffer.now.grouping c.take_held.new.buffer.grouping c.take_held.new.buffer.grouping
    c.take_held.new.buffer.closed Memory (c.pull.result ≡ Err end.Failed) (held g at) c.pull.ensures.never_rises
    c.pull.ensures.counts (λ is. cc is) (λ is. cc is) (omega arith))

pub returns-clause-taken : goal.returns-clause-taken
returns-clause-taken g c =
    let at = (goal.at.returns-clause-taken g c).After-take_held in
    let taken = held g at in
    let reach : (place : ℕ) → reach_of (end_of_chunks place (chunks_of_groups c.close.new.self.closed)) c.close.new.self.grouping (g.L.RecordFeed.bound c.pull.new.self)
    ≤ reach_of place c.args.buffer.now.grouping (g.L.RecordFeed.bound c.args.feed.now) =
    λ place. omega (
      arith,
      taken.in_reach place,
      reach_of-closed place c.take_held.new.buffer.grouping c.close.new.self.grouping c.take_held.new.buffer.closed c.close.new.self.closed
          c.in_ok-close.ensures.closed (ap (λ (g : Grouping). g.group) c.in_ok-close.ensures.grouping),
      c.pull.ensures.never_rises,
    ) in
    elim c.match-pull.branch [
      | goal.in-Ok-false w ↦
          rw w.stop-is
          (TakesGroups-ended _ _ g.L.RecordFeed.rest g.L.RecordFeed.bound g.L.RecordFeed.going g.L.RecordFeed.origin g.L.RecordFeed.faults
          c.args.feed.now c.take_held.new.feed c.pull.new.self c.args.buffer.now.grouping c.take_held.new.buffer.grouping c.close.new.self.grouping
          c.take_held.new.buffer.closed c.close.new.self.closed None
          taken.given_of (search rules) (λ none. search rules) c.in_ok-close.ensures.closed
          reach (search rules))
      | goal.in-Err-Stop w ↦
          rw (w.stop-is, w.in-Err-Stop.field-0-is)
          (TakesGroups-ended _ _ g.L.RecordFeed.rest g.L.RecordFeed.bound g.L.RecordFeed.going g.L.RecordFeed.origin g.L.RecordFeed.faults
          c.args.feed.now c.take_held.new.feed c.pull.new.self c.args.buffer.now.grouping c.take_held.new.buffer.grouping c.close.new.self.grouping
          c.take_held.new.buffer.closed c.close.new.self.closed (Some w.in-Err-Stop.stop)
          taken.given_of (w.in-Err-Stop.ensures.stop w.in-Err-Stop.stop (ap Err w.in-Err-Stop.field-0-is)) (search rules) c.in_ok-close.ensures.closed
          reach (search rules))
    ]
