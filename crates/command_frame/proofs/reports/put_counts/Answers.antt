use Rattle.std.proofs.Common.{◌≡◌, List, [], ℕ, map, take, arith, rules}
use Rattle.std.specs.List.{concat}
use Rattle.std.proofs.lemmas.List.{get_or-map, length-map, take_all}
use Rattle.std.proofs.lemmas.Result.{on_ok_weaker, on_err_weaker}
use Rattle.record_io.proofs.Calls.{OnErr-any}
use Rattle.record_io.proofs.Buffered.{pieces-next, pieces-failed}
use Rattle.command_frame.specs.FileAnswers.{count_line}
use Rattle.command_frame.proofs.NoteLines.{front-flushed, whole-flushed}
use Rattle.command_frame.proofs.reports.put_counts.Goals as goal

pub returns-in_err-put_count : goal.returns-in_err-put_count
returns-in_err-put_count g c =
    let lines : List (List ℕ) = map (λ count. count_line count.0.now count.1) c.args.counts.now in
    record {
      out = record {
        whole = search rules;
        front = OnErr-any _ (pieces-failed _ _ _ [] _ lines c.loop-count.count-index _
            (omega (arith, length-map c.args.counts.now (λ count. count_line count.0.now count.1)))
            (get_or-map (λ count. count_line count.0.now count.1) c.args.counts.now c.loop-count.count-index _ [] (omega arith))
            c.loop-count.invariant.whole c.in_err-put_count.ensures.out.front);
        counts = search rules;
      };
    }

pub loop-count-preserved : goal.loop-count-preserved
loop-count-preserved g c =
    let lines : List (List ℕ) = map (λ count. count_line count.0.now count.1) c.args.counts.now in
    record {
      whole = pieces-next _ _ _ [] _ _ lines c.loop-count.count-index _
          (omega (arith, length-map c.args.counts.now (λ count. count_line count.0.now count.1)))
          (get_or-map (λ count. count_line count.0.now count.1) c.args.counts.now c.loop-count.count-index _ [] (omega arith))
          c.loop-count.invariant.whole c.in_ok-put_count.ensures.out.whole;
      counts = search rules;
    }

pub returns : goal.returns
returns g c =
    let lines : List (List ℕ) = map (λ count. count_line count.0.now count.1) c.args.counts.now in
    let all : take c.loop-count.count-index lines ≡ lines =
    take_all c.loop-count.count-index lines (omega (arith, length-map c.args.counts.now (λ count. count_line count.0.now count.1))) in
    let held = rw all at c.loop-count.invariant.whole in
    record {
      out = record {
        whole = on_ok_weaker c.flush.result (whole-flushed _ _ _ (concat lines) c.loop-count.lines held) c.flush.ensures.sink.whole;
        front = on_err_weaker c.flush.result (front-flushed _ _ _ (concat lines) c.loop-count.lines held) c.flush.ensures.sink.front;
        counts = search rules;
      };
    }
