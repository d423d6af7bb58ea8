use Rattle.std.proofs.Common.{◌≡◌, ◌∙◌, ◌+◌, ◌*◌, ◌^◌, ◌<◌, ◌≤◌, List, ℕ, length, get_or, sym, subst, arith, rules}
use Rattle.std.proofs.lemmas.List.{take_all}
use Rattle.std.proofs.lemmas.Option.{get_or_from_slice_get, same_Some, slice_get_within}
use Rattle.std.proofs.lemmas.Result.{err_from_is_err_and}
use Rattle.chunk_header.specs.SimpleChunks.{simple_chunk}
use Rattle.simple_chunk.specs.Costs.{cost_of}
use Rattle.chunk_workers.specs.Coded.{CodedValue, IsCodedAt, StandsFor}
use Rattle.chunk_workers.specs.Runs.{run_of}
use Rattle.chunk_workers.proofs.RunLists.{length-run_of, run_within}
use Rattle.record_writer.specs.MadeFiles.{Lays, chunks_of_groups}
use Rattle.record_writer.proofs.EncodedWindows.{coded-at, group-in_run}
use Rattle.record_writer.proofs.Layings.{Lays-none}
use Rattle.record_writer.proofs.Windows.{Lays-chunk, LaysFront-chunk, chunk-within}
use Rattle.record_writer.proofs.window.put_run.Goals as goal
use Rattle.record_writer.proofs.window.put_run.Goals.{After-group-group}

pub overflow_mul-begin : goal.overflow_mul-begin
overflow_mul-begin g c =
    omega (arith, run_within c.args.step _ c.args.number c.requires.step c.requires.number, c.len-all.ensures)

pub overflow_sub-all : goal.overflow_sub-all
overflow_sub-all g c = omega (arith, run_within c.args.step _ c.args.number c.requires.step c.requires.number, c.len-all.ensures)

pub loop-i-init : goal.loop-i-init
loop-i-init g c = record { laid = Lays-none _ c.args.file.now c.requires.may_lay.going; counts = search rules }

-- the group stands in its run, and its chunk at the run's place
there : (g : _) (c : After-group-group g)
    → (c.loop-i.i < length (run_of c.args.step c.args.groups.now.groups c.args.number))
    × (c.group-group.result ≡ get_or (run_of c.args.step c.args.groups.now.groups c.args.number) c.loop-i.i c.group-group.result)
there g c =
    group-in_run c.args.step c.args.number c.loop-i.i c.args.groups.now.groups c.group-group.result (omega (arith, c.loop-i-test.true, c.min-count.ensures))
    c.group-group.ensures

coded : (g : _) (c : After-group-group g) → IsCodedAt simple_chunk c.group-group.result c.index-runs-place.result.chunks (c.args.place.first + c.loop-i.i)
coded g c =
    coded-at c.args.step c.args.number c.loop-i.i c.args.groups.now.groups c.args.runs.now c.args.place c.index-runs-place.result c.group-group.result
    c.requires.place c.index-runs-place.is (omega (arith, c.loop-i-test.true, c.min-count.ensures)) c.group-group.ensures

pub chunk-requires : goal.chunk-requires
chunk-requires g c =
    let coded = coded g (goal.at.chunk-requires g c).After-group-group in
    slice_get_within c.index-runs-place.result.chunks (c.args.place.first + c.loop-i.i) coded.coded coded.at

pub put_coded-requires-clause-may_lay : goal.put_coded-requires-clause-may_lay
put_coded-requires-clause-may_lay g c =
    let there = there g (goal.at.put_coded-requires-clause-may_lay g c).After-group-group in
    record {
      going = c.loop-i.invariant.laid.going;
      in_reach = chunk-within c.args.file.now.place c.loop-i.file.place (2 ^ 62) (run_of c.args.step c.args.groups.now.groups c.args.number) c.loop-i.i
          c.group-group.result there.0 there.1 c.loop-i.invariant.laid.place c.requires.may_lay.in_reach;
    }

pub put_coded-requires-clause-stands : goal.put_coded-requires-clause-stands
put_coded-requires-clause-stands g c =
    let coded = coded g (goal.at.put_coded-requires-clause-stands g c).After-group-group in
    subst (λ (c' : CodedValue). StandsFor (simple_chunk c.group-group.result) c.group-group.result c') (same_Some _ _ (sym coded.at ∙ c.chunk.ensures)) coded.stands

pub put_coded-requires-clause-short : goal.put_coded-requires-clause-short
put_coded-requires-clause-short g c =
    let groups = c.args.groups.now.groups in
    let n : ℕ = c.args.number * c.args.step + c.loop-i.i in
    subst (λ (group : List (List ℕ)). cost_of group ≤ 2 ^ 25) (get_or_from_slice_get groups n c.group-group.result c.group-group.result c.group-group.ensures)
    (c.requires.short n c.group-group.result (slice_get_within groups n c.group-group.result c.group-group.ensures))

pub returns-in_err-put_coded : goal.returns-in_err-put_coded
returns-in_err-put_coded g c =
    let p = err_from_is_err_and c.from_residual.result c.from_residual.ensures.1 in
    let there = there g (goal.at.returns-in_err-put_coded g c).After-group-group in
    rw p.1
    (record {
      whole = tt;
      front = LaysFront-chunk _ _ _ c.args.file.now c.loop-i.file _ (run_of c.args.step c.args.groups.now.groups c.args.number) c.loop-i.i c.group-group.result
          there.0 there.1 c.loop-i.invariant.laid c.in_err-put_coded.ensures.laid.laid.front;
      counts = search rules;
    })

pub loop-i-preserved : goal.loop-i-preserved
loop-i-preserved g c =
    let there = there g (goal.at.loop-i-preserved g c).After-group-group in
    record {
      laid = Lays-chunk _ _ _ c.args.file.now c.loop-i.file _ (run_of c.args.step c.args.groups.now.groups c.args.number) c.loop-i.i c.group-group.result
          there.0 there.1 c.loop-i.invariant.laid c.in_ok-put_coded.ensures.laid.laid.whole;
      counts = search rules;
    }

pub returns : goal.returns
returns g c =
    let run = run_of c.args.step c.args.groups.now.groups c.args.number in
    record {
      whole = subst (λ (groups : List (List (List ℕ))). Lays (g.M.Sink.taken c.args.made.now) (g.M.Sink.taken c.loop-i.made) c.args.file.now c.loop-i.file
          (chunks_of_groups groups))
          (take_all c.loop-i.i run
          (omega (arith, c.loop-i-test.false, c.min-count.ensures, c.len-all.ensures.count, length-run_of c.args.step c.args.groups.now.groups c.args.number)))
          c.loop-i.invariant.laid;
      front = tt;
      counts = search rules;
    }
