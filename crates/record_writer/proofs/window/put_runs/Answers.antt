use Rattle.std.proofs.Common.{◌≡◌, ◌∙◌, ◌+◌, ◌-◌, ◌*◌, ◌^◌, ◌++◌, ℕ, List, [], length, take, drop, sym, subst, ap, arith, rules}
use Rattle.std.proofs.lemmas.Result.{err_from_is_err_and}
use Rattle.chunk_header.specs.SimpleChunks.{simple_chunk}
use Rattle.chunk_workers.specs.declared.places.RunPlace.{RunPlace}
use Rattle.chunk_workers.specs.Runs.{run_count, run_of}
use Rattle.chunk_workers.specs.RunPlaces.{IsRunPlace}
use Rattle.ordered_writer.specs.Reorders.{Reordering, coming}
use Rattle.record_writer.specs.EncodedWindows.{ArePlaces}
use Rattle.record_writer.specs.MadeFiles.{Lays, MayLay, chunks_of_groups}
use Rattle.record_writer.proofs.EncodedWindows.{coming-none, run-behind, run-between, run-within, runs-whole}
use Rattle.record_writer.proofs.Given.{Lays-all, LaysFront-all, LaysFront-more}
use Rattle.record_writer.proofs.Layings.{Lays-none}
use Rattle.record_writer.proofs.window.put_runs.Goals as goal
use Rattle.record_writer.proofs.window.put_runs.Goals.{After-wanted-number}

pub loop-place-init : goal.loop-place-init
loop-place-init g c =
    let order = c.requires.order in
    let none : c.args.order.wanted * c.args.step ≡ 0 = ap (λ (n : ℕ). n * c.args.step) order.begins ∙ (omega arith) in
    record {
      laid = subst (λ (n : ℕ). Lays (g.M.Sink.taken c.args.made.now) (g.M.Sink.taken c.args.made.now) c.args.file.now c.args.file.now
          (chunks_of_groups (take n c.args.groups.now.groups)))
          (sym none)
          (Lays-none _ c.args.file.now c.requires.may_lay.going);
      places = subst (λ (n : ℕ). ArePlaces c.args.step c.args.groups.now.groups c.args.runs.now n (coming c.args.order)) (sym order.begins) order.places;
      all = omega (arith, order.begins, order.all);
      some_room = order.some_room;
      in_reach = omega (arith, order.begins, order.in_reach);
      counts = search rules;
    }

-- the number of the run whose place comes next, and that of the one behind it
number_is : (g : _) (c : After-wanted-number g) → (c.wanted-number.result - 1 ≡ c.loop-place.order.wanted) × (c.next.new.self.wanted ≡ c.loop-place.order.wanted + 1)
number_is g c =
    let next : c.next.new.self.wanted ≡ c.loop-place.order.wanted + 1 = ap (λ (r : Reordering RunPlace). r.wanted) c.in-Some.ensures.some in
    (omega (arith, next, c.wanted-number.ensures), next)

-- its place, and those behind it
places_are : (g : _) (c : After-wanted-number g) → IsRunPlace simple_chunk c.args.step c.args.groups.now.groups c.args.runs.now c.loop-place.order.wanted c.in-Some.place
    × ArePlaces c.args.step c.args.groups.now.groups c.args.runs.now (c.loop-place.order.wanted + 1) (coming c.next.new.self)
places_are g c =
    subst (λ (places : List RunPlace). ArePlaces c.args.step c.args.groups.now.groups c.args.runs.now c.loop-place.order.wanted places) c.in-Some.ensures.coming
    c.loop-place.invariant.places

pub put_run-requires-clause-number : goal.put_run-requires-clause-number
put_run-requires-clause-number g c =
    omega (
      arith,
      c.loop-place.invariant.all,
      ap length c.in-Some.ensures.coming,
      (number_is g (goal.at.put_run-requires-clause-number g c).After-wanted-number).0,
    )

pub put_run-requires-clause-place : goal.put_run-requires-clause-place
put_run-requires-clause-place g c =
    let at = (goal.at.put_run-requires-clause-place g c).After-wanted-number in
    subst (λ (n : ℕ). IsRunPlace simple_chunk c.args.step c.args.groups.now.groups c.args.runs.now n c.in-Some.place) (sym (number_is g at).0) (places_are g at).0

pub put_run-requires-clause-may_lay : goal.put_run-requires-clause-may_lay
put_run-requires-clause-may_lay g c =
    let at = (goal.at.put_run-requires-clause-may_lay g c).After-wanted-number in
    subst (λ (n : ℕ). MayLay c.loop-place.file (chunks_of_groups (run_of c.args.step c.args.groups.now.groups n))) (sym (number_is g at).0)
    (record {
      going = c.loop-place.invariant.laid.going;
      in_reach = run-within c.args.file.now.place c.loop-place.file.place (2 ^ 62) c.args.step c.loop-place.order.wanted c.args.groups.now.groups
          c.loop-place.invariant.laid.place c.requires.may_lay.in_reach;
    })

pub returns-in_err-put_run : goal.returns-in_err-put_run
returns-in_err-put_run g c =
    let p = err_from_is_err_and c.from_residual.result c.from_residual.ensures.1 in
    let number = (number_is g (goal.at.returns-in_err-put_run g c).After-wanted-number).0 in
    let step = c.args.step in
    let groups = c.args.groups.now.groups in
    let n = c.loop-place.order.wanted in
    rw p.1
    (record {
      whole = tt;
      front = LaysFront-all _ _ _ c.args.file.now c.loop-place.file c.put_run.new.file groups (take (n * step) groups)
          (run_of step groups n ++ drop ((n + 1) * step) groups) (run-between step n groups) c.loop-place.invariant.laid
          (LaysFront-more _ _ c.loop-place.file c.put_run.new.file (run_of step groups n) (drop ((n + 1) * step) groups)
          (rw number at c.in_err-put_run.ensures.front));
      counts = search rules;
    })

pub loop-place-preserved : goal.loop-place-preserved
loop-place-preserved g c =
    let at = (goal.at.loop-place-preserved g c).After-wanted-number in
    let is = number_is g at in
    let step = c.args.step in
    let groups = c.args.groups.now.groups in
    let n = c.loop-place.order.wanted in
    record {
      laid = subst (λ (m : ℕ). Lays (g.M.Sink.taken c.args.made.now) (g.M.Sink.taken c.put_run.new.made) c.args.file.now c.put_run.new.file
          (chunks_of_groups (take (m * step) groups)))
          (sym is.1)
          (Lays-all _ _ _ c.args.file.now c.loop-place.file c.put_run.new.file (take ((n + 1) * step) groups) (take (n * step) groups) (run_of step groups n)
          (sym (run-behind step n groups)) c.loop-place.invariant.laid
          (rw is.0 at c.in_ok-put_run.ensures.whole));
      places = subst (λ (m : ℕ). ArePlaces step groups c.args.runs.now m (coming c.next.new.self)) (sym is.1) (places_are g at).1;
      all = omega (arith, is.1, c.loop-place.invariant.all, ap length c.in-Some.ensures.coming);
      some_room = omega (arith, c.loop-place.invariant.some_room, c.in-Some.ensures.room);
      in_reach = omega (arith, is.1, c.loop-place.invariant.in_reach, c.in-Some.ensures.count, c.in-Some.ensures.room);
      counts = search rules;
    }

pub returns : goal.returns
returns g c =
    let step = c.args.step in
    let groups = c.args.groups.now.groups in
    let ended : coming c.loop-place.order ≡ [] = coming-none c.loop-place.order (search rules) in
    let last : c.loop-place.order.wanted * step ≡ run_count step (length groups) * step =
    ap (λ (n : ℕ). n * step) (omega (arith, c.loop-place.invariant.all, ap length ended)) in
    record {
      whole = subst (λ (gs : List (List (List ℕ))). Lays (g.M.Sink.taken c.args.made.now) (g.M.Sink.taken c.loop-place.made) c.args.file.now c.loop-place.file
          (chunks_of_groups gs))
          (ap (λ (n : ℕ). take n groups) last ∙ runs-whole step groups c.requires.order.some_step)
          c.loop-place.invariant.laid;
      front = tt;
      counts = search rules;
    }
