use Rattle.std.proofs.Common.{◌≡◌, ◌∙◌, ◌^◌, ◌≤◌, ◌++◌, ◌≢◌, Ok, Err, Result, [], refl, subst, arith, rules}
use Rattle.std.proofs.lemmas.Result.{err_from_is_err_and}
use Rattle.record_io.proofs.Calls.{OnErr-any}
use Rattle.meta_chunk.specs.Files.{end_of_chunks}
use Rattle.meta_chunk.proofs.Joins.{end_of_chunks_past}
use Rattle.record_writer.specs.declared.cut_off.CutOff.{CutOff}
use Rattle.record_writer.specs.declared.cut_off.CutOff.TheVariants.{Made}
use Rattle.record_writer.specs.declared.group_taker.FeedPart.{FeedPart}
use Rattle.record_writer.specs.declared.group_taker.FeedPart.TheVariants.{Window, All}
use Rattle.record_writer.specs.MadeFiles.{chunks_of_groups}
use Rattle.record_writer.specs.Windows.{AreTaken, TakesGroups}
use Rattle.record_writer.proofs.Layings.{Lays-none, LaysFront-where, LaysFront-whole}
use Rattle.record_writer.proofs.Given.{Lays-all, LaysFront-all, LaysFront-more}
use Rattle.record_writer.proofs.Reaches.{reach_of-window, within-before}
use Rattle.record_writer.proofs.Windows.{Lays-taken, LaysFront-taken, handed_on, OnOk-any, TakesGroups-moved}
use Rattle.record_writer.proofs.engine.put_groups.Goals as goal

pub loop-part-init : goal.loop-part-init
loop-part-init g c = record {
  laid = ([], Lays-none _ c.args.file.now c.requires.going, c.begin-part.ensures.taken);
  windows = c.begin-part.ensures.windows;
  made = search rules;
}

pub go_on-requires-clause-may_lay : goal.go_on-requires-clause-may_lay
go_on-requires-clause-may_lay g c κs within =
    let before = c.loop-part.invariant.laid in
    let held = c.loop-part.pipeline.next.groups ++ c.loop-part.pipeline.coming.taken.groups in
    let near : end_of_chunks c.loop-part.file.place (chunks_of_groups held) ≤ 2 ^ 61 =
    reach_of-window c.args.file.now.place c.loop-part.file.place before.0 held c.loop-part.pipeline.coming.taker (g.L.RecordFeed.bound c.loop-part.feed) (2 ^ 61)
    before.1.place (omega (arith, before.2.in_reach c.args.file.now.place, c.requires.in_reach)) in
    record {
      going = before.1.going;
      in_reach = omega (
        arith,
        within-before c.loop-part.file.place (2 ^ 61) (c.loop-part.pipeline.next.groups) (c.loop-part.pipeline.coming.taken.groups) near,
      );
    }

pub returns-in_err-part-in-Ok-Window-clause-put : goal.returns-in_err-part-in-Ok-Window-clause-put
returns-in_err-part-in-Ok-Window-clause-put g c =
    let before = c.loop-part.invariant.laid in
    let first = c.loop-part.pipeline.next.groups in
    let taken = c.loop-part.pipeline.coming.taken.groups in
    let p = err_from_is_err_and c.from_residual.result c.from_residual.ensures.1 in
    rw (p.1, p.2)
    (record {
      stop = tt;
      whole = tt;
      front = LaysFront-taken c.loop-part.part _ (g.L.RecordFeed.rest c.loop-part.feed) _ c.loop-part.pipeline.coming.taker (before.0 ++ (first ++ taken)) _ _ _ _ before.2.given_of
          (LaysFront-all _ _ _ _ c.loop-part.file c.go_on.new.file (before.0 ++ (first ++ taken)) before.0 (first ++ taken) refl before.1
          (LaysFront-more _ _ c.loop-part.file c.go_on.new.file first taken
          (LaysFront-where _ _ c.loop-part.file c.go_on.new.file _ (handed_on c.in_err-part-in-Ok-Window.field-0.0 Made) c.in_err-part-in-Ok-Window.ensures.laid.front)));
      drained = search rules;
      feed = search rules;
      made = search rules;
    })

pub loop-part-preserved : goal.loop-part-preserved
loop-part-preserved g c =
    let before = c.loop-part.invariant.laid in
    let first = c.loop-part.pipeline.next.groups in
    let taken = c.loop-part.pipeline.coming.taken.groups in
    let next = c.in_ok-part-in-Ok-Window.ensures.taken in
    let more : c.loop-part.part ≡ Ok Window = search rules in
    record {
      laid = (
        before.0 ++ first,
        Lays-all _ _ _ _ c.loop-part.file c.go_on.new.file (before.0 ++ first) before.0 first refl before.1 c.in_ok-part-in-Ok-Window.ensures.laid.whole,
        TakesGroups-moved _ _ g.L.RecordFeed.rest g.L.RecordFeed.bound g.L.RecordFeed.going g.L.RecordFeed.origin g.L.RecordFeed.faults
            c.args.feed.now c.loop-part.feed c.go_on.new.feed c.args.pipeline.now.coming.taker c.loop-part.pipeline.coming.taker c.go_on.new.self.coming.taker
            before.0 first taken next.0 (c.go_on.new.self.next.groups ++ c.go_on.new.self.coming.taken.groups)
            c.in_ok-part-in-Ok-Window.part next.1
            (subst (λ (t : Result FeedPart CutOff). TakesGroups g.L.RecordFeed.rest g.L.RecordFeed.bound g.L.RecordFeed.going g.L.RecordFeed.origin
            g.L.RecordFeed.faults c.args.feed.now c.loop-part.feed c.args.pipeline.now.coming.taker c.loop-part.pipeline.coming.taker
            (before.0 ++ (first ++ taken)) t) more before.2)
            next.2,
      );
      windows = c.in_ok-part-in-Ok-Window.ensures.windows;
      made = search rules;
    }

pub finish-requires-clause-may_lay : goal.finish-requires-clause-may_lay
finish-requires-clause-may_lay g c κs within =
    let before = c.loop-part.invariant.laid in
    let held = c.loop-part.pipeline.next.groups ++ c.loop-part.pipeline.coming.taken.groups in
    let near : end_of_chunks c.loop-part.file.place (chunks_of_groups held) ≤ 2 ^ 61 =
    reach_of-window c.args.file.now.place c.loop-part.file.place before.0 held c.loop-part.pipeline.coming.taker (g.L.RecordFeed.bound c.loop-part.feed) (2 ^ 61)
    before.1.place (omega (arith, before.2.in_reach c.args.file.now.place, c.requires.in_reach)) in
    record { going = before.1.going; in_reach = omega (arith, near) }

pub returns-in_err-finish-clause-put : goal.returns-in_err-finish-clause-put
returns-in_err-finish-clause-put g c =
    let before = c.loop-part.invariant.laid in
    let held = c.loop-part.pipeline.next.groups ++ c.loop-part.pipeline.coming.taken.groups in
    let p = err_from_is_err_and c.from_residual-in_err-finish.result c.from_residual-in_err-finish.ensures.1 in
    rw (p.1, p.2)
    (record {
      stop = tt;
      whole = tt;
      front = LaysFront-taken c.loop-part.part _ (g.L.RecordFeed.rest c.loop-part.feed) _ c.loop-part.pipeline.coming.taker (before.0 ++ held) _ _ _ _ before.2.given_of
          (LaysFront-all _ _ _ _ c.loop-part.file c.finish.new.file (before.0 ++ held) before.0 held refl before.1
          (LaysFront-where _ _ c.loop-part.file c.finish.new.file _ (handed_on c.in_err-finish.field-0.0 Made) c.in_err-finish.ensures.laid.front));
      drained = search rules;
      feed = search rules;
      made = search rules;
    })

pub returns-clause-put : goal.returns-clause-put
returns-clause-put g c =
    let before = c.loop-part.invariant.laid in
    let held = c.loop-part.pipeline.next.groups ++ c.loop-part.pipeline.coming.taken.groups in
    let laid = Lays-all _ _ _ c.args.file.now c.loop-part.file c.finish.new.file (before.0 ++ held) before.0 held refl before.1 c.in_ok-finish.ensures.laid.whole in
    let done : c.match-part.end ≢ Err Made =
    elim c.match-part.branch [
      | goal.in-Ok-All w ↦ rw w.end-is (λ is. cc is)
      | goal.in-Err w ↦
          let part : c.loop-part.part ≡ Err w.in-Err.cut = search rules in
          rw w.end-is (λ is. before.2.no_sink (part ∙ handed_on w.in-Err.cut Made is))
    ] in
    record {
      stop = search rules;
      whole = elim c.match-part.branch [
        | goal.in-Ok-All w ↦
            let ended : c.loop-part.part ≡ Ok (All w.in-Ok-All.stop) = search rules in
            rw w.end-is
            (Lays-taken w.in-Ok-All.stop (g.L.RecordFeed.rest c.args.feed.now) (g.L.RecordFeed.rest c.loop-part.feed) c.args.pipeline.now.coming.taker
            c.loop-part.pipeline.coming.taker (before.0 ++ held) _ _ _ _
            (subst (λ (t : Result FeedPart CutOff). AreTaken t (g.L.RecordFeed.rest c.args.feed.now) (g.L.RecordFeed.rest c.loop-part.feed) c.args.pipeline.now.coming.taker
            c.loop-part.pipeline.coming.taker (before.0 ++ held)) ended before.2.given_of)
            laid)
        | goal.in-Err w ↦ rw w.end-is tt
      ];
      front = OnErr-any _
          (LaysFront-taken c.loop-part.part _ (g.L.RecordFeed.rest c.loop-part.feed) _ c.loop-part.pipeline.coming.taker (before.0 ++ held) _ _ _ _ before.2.given_of
          (LaysFront-all _ _ _ _ c.loop-part.file c.finish.new.file (before.0 ++ held) before.0 held refl before.1
          (LaysFront-whole _ _ _ _ _ done c.in_ok-finish.ensures.laid.whole)));
      drained = search rules;
      feed = search rules;
      made = search rules;
    }

pub returns-clause-place : goal.returns-clause-place
returns-clause-place g c =
    let before = c.loop-part.invariant.laid in
    let held = c.loop-part.pipeline.next.groups ++ c.loop-part.pipeline.coming.taken.groups in
    let near : end_of_chunks c.loop-part.file.place (chunks_of_groups held) ≤ 2 ^ 61 =
    reach_of-window c.args.file.now.place c.loop-part.file.place before.0 held c.loop-part.pipeline.coming.taker (g.L.RecordFeed.bound c.loop-part.feed) (2 ^ 61)
    before.1.place (omega (arith, before.2.in_reach c.args.file.now.place, c.requires.in_reach)) in
    let moved : (c.args.file.now.place ≤ c.finish.new.file.place) × (c.finish.new.file.place ≤ 2 ^ 61) = (
      omega (
        arith,
        before.1.place,
        end_of_chunks_past c.args.file.now.place (chunks_of_groups before.0),
        c.in_ok-finish.ensures.laid.whole.place,
        end_of_chunks_past c.loop-part.file.place (chunks_of_groups held),
      ),
      omega (arith, near, c.in_ok-finish.ensures.laid.whole.place),
    ) in
    OnOk-any _ moved
