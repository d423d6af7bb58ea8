use Rattle.std.proofs.Common.{◌≡◌, ℕ, Option, Result, Err, List, refl, ap, arith, rules}
use Rattle.std.proofs.lemmas.Option.{IfSome_then}
use Rattle.std.proofs.lemmas.Result.{err_from_is_err_and}
use Rattle.record_group.specs.Groups.{padding_if}
use Rattle.meta_chunk.proofs.Joins.{end_of_chunks_past}
use Rattle.simple_chunk.specs.Costs.{cost_of}
use Rattle.record_writer.specs.declared.cut_off.CutOff.{CutOff}
use Rattle.record_writer.specs.declared.cut_off.CutOff.TheVariants.{Made}
use Rattle.record_writer.specs.declared.feed.Stop.{Stop}
use Rattle.record_writer.specs.Feeds.{Rest}
use Rattle.record_writer.proofs.Given.{whatever_is_left, Lays-all_groups, LaysFront-all_groups}
use Rattle.record_writer.proofs.Layings.{LaysFront-where}
use Rattle.record_writer.proofs.Wholes.{padded_near, Lays-grouped, Lays-records, LaysFront-padding, LaysFront-groups, LaysFront-end}
use Rattle.record_writer.proofs.engine.put_chunks.Goals as goal

pub returns-in_err-pad_if-clause-put : goal.returns-in_err-pad_if-clause-put
returns-in_err-pad_if-clause-put g c =
    let p = err_from_is_err_and c.from_residual.result c.from_residual.ensures.1 in
    let front = LaysFront-where _ _ _ c.pad_if.new.self _ (λ _. refl) (rw c.pads_start.ensures at c.in_err-pad_if.ensures.laid.laid.front) in
    rw p.1
    (record {
      stop = tt;
      whole = tt;
      front = whatever_is_left _ _ (λ rest. LaysFront-padding c.args.options.now c.args.file.now rest.records _ _ c.pad_if.new.self front);
      drained = search rules;
      feed = search rules;
      made = search rules;
    })

pub put_groups-requires-clause-in_reach : goal.put_groups-requires-clause-in_reach
put_groups-requires-clause-in_reach g c =
    omega (
      arith,
      padded_near c.pads_start.result _ _ c.args.file.now c.pad_if.new.self c.requires.follows.from_boundary c.in_ok-pad_if.ensures.laid.laid.whole,
      ap (λ (group : List (List ℕ)). cost_of group) c.requires.taker.no_record,
      c.requires.follows.within,
      c.requires.follows.feed.in_reach,
    )

pub returns-in_err-stop-clause-put : goal.returns-in_err-stop-clause-put
returns-in_err-stop-clause-put g c =
    let p = err_from_is_err_and c.from_residual-in_err-stop.result c.from_residual-in_err-stop.ensures.1 in
    let padded = rw c.pads_start.ensures at c.in_ok-pad_if.ensures.laid.laid.whole in
    let front = LaysFront-all_groups (◌≡◌ {A = Result (Option Stop) CutOff} (Err c.in_err-stop.field-0.0) (Err Made)) (g.L.RecordFeed.rest c.args.feed.now) c.args.pipeline.now.coming.taker c.args.options.now.size c.args.options.now.every
    (g.M.Sink.taken c.pad_if.new.made) (g.M.Sink.taken c.put_groups.new.made) c.pad_if.new.self c.put_groups.new.file
    c.requires.taker.all
    c.in_err-stop.ensures.put.front in
    rw (p.1, p.2)
    (record {
      stop = tt;
      whole = tt;
      front = IfSome_then _ front (λ (rest : Rest) front.
          LaysFront-groups c.args.options.now c.args.file.now rest.records _ _ _ c.pad_if.new.self c.put_groups.new.file padded front);
      drained = search rules;
      feed = search rules;
      made = search rules;
    })

pub returns-in_err-pad_if-2-clause-put : goal.returns-in_err-pad_if-2-clause-put
returns-in_err-pad_if-2-clause-put g c =
    let p = err_from_is_err_and c.from_residual-in_err-pad_if-2.result c.from_residual-in_err-pad_if-2.ensures.1 in
    let padded = rw c.pads_start.ensures at c.in_ok-pad_if.ensures.laid.laid.whole in
    let front = LaysFront-where _ _ _ c.pad_if-2.new.self _ (λ _. refl) (rw c.pads_end.ensures at c.in_err-pad_if-2.ensures.laid.laid.front) in
    let grouped = Lays-all_groups (g.L.RecordFeed.rest c.args.feed.now) c.args.pipeline.now.coming.taker c.args.options.now.size c.args.options.now.every
    (g.M.Sink.taken c.pad_if.new.made) (g.M.Sink.taken c.put_groups.new.made) c.pad_if.new.self c.put_groups.new.file
    c.requires.taker.all
    c.in_ok-stop.ensures.put.whole in
    rw p.1
    (record {
      stop = tt;
      whole = tt;
      front = IfSome_then _ grouped (λ (rest : Rest) grouped.
          LaysFront-end c.args.options.now c.args.file.now rest.records _ _ _ c.put_groups.new.file c.pad_if-2.new.self
          (Lays-grouped c.args.options.now c.args.file.now rest.records _ _ _ c.pad_if.new.self c.put_groups.new.file padded grouped)
          front);
      drained = search rules;
      feed = search rules;
      made = search rules;
    })

pub returns-clause-put : goal.returns-clause-put
returns-clause-put g c =
    let padded = rw c.pads_start.ensures at c.in_ok-pad_if.ensures.laid.laid.whole in
    let end = rw c.pads_end.ensures at c.in_ok-pad_if-2.ensures.laid.laid.whole in
    let grouped = Lays-all_groups (g.L.RecordFeed.rest c.args.feed.now) c.args.pipeline.now.coming.taker c.args.options.now.size c.args.options.now.every
    (g.M.Sink.taken c.pad_if.new.made) (g.M.Sink.taken c.put_groups.new.made) c.pad_if.new.self c.put_groups.new.file
    c.requires.taker.all
    c.in_ok-stop.ensures.put.whole in
    record {
      stop = search rules;
      whole = IfSome_then _ grouped (λ (rest : Rest) grouped.
          Lays-records c.args.options.now c.args.file.now rest.records _ _ _ c.put_groups.new.file c.pad_if-2.new.self
          (Lays-grouped c.args.options.now c.args.file.now rest.records _ _ _ c.pad_if.new.self c.put_groups.new.file padded grouped)
          end);
      front = tt;
      drained = search rules;
      feed = search rules;
      made = search rules;
    }

pub returns-clause-behind : goal.returns-clause-behind
returns-clause-behind g c =
    omega (
      arith,
      c.in_ok-pad_if.ensures.laid.laid.whole.place,
      end_of_chunks_past c.args.file.now.place (padding_if c.pads_start.result c.args.file.now.place),
      c.in_ok-stop.ensures.place,
      c.in_ok-pad_if-2.ensures.laid.laid.whole.place,
      end_of_chunks_past c.put_groups.new.file.place (padding_if c.pads_end.result c.put_groups.new.file.place),
    )
