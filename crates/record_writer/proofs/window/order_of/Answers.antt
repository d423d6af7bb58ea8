use Rattle.std.proofs.Common.{◌≡◌, ◌∙◌, ℕ, List, length, map, sym, subst, ap, arith, rules}
use Rattle.std.proofs.lemmas.Result.{IfOk-weaker}
use Rattle.chunk_workers.specs.declared.places.RunPlace.{RunPlace}
use Rattle.chunk_workers.specs.Runs.{run_count}
use Rattle.chunk_workers.specs.RunPlaces.{places_of}
use Rattle.ordered_writer.specs.Reorders.{HasEachFrom, Reordering, reordering_from, with_each}
use Rattle.record_writer.specs.EncodedWindows.{AreInOrder}
use Rattle.record_writer.proofs.EncodedWindows.{each-placed, order-held, some_runs}
use Rattle.record_writer.proofs.window.order_of.Goals as goal
use Rattle.record_writer.proofs.window.order_of.Goals.{After-run_count}

-- there is a place for each run
places_are : (c : After-run_count) → c.append_places.new.places.items ≡ places_of c.args.step (length c.args.groups.now.groups) c.args.runs.now
places_are c =
    let items : c.append_places.new.places.items ≡ places_of c.args.step c.len-count.result c.args.runs.now = search rules in
    items ∙ ap (λ (n : ℕ). places_of c.args.step n c.args.runs.now) c.len-count.ensures.count

count_is : (c : After-run_count) → c.run_count.result ≡ run_count c.args.step (length c.args.groups.now.groups)
count_is c = c.run_count.ensures.count ∙ ap (run_count c.args.step) c.len-count.ensures.count

pub in_order-requires-clause-each : goal.in_order-requires-clause-each
in_order-requires-clause-each c =
    subst (λ (n : ℕ). HasEachFrom 0 n (map (λ (p : ℕ × RunPlace). p.0) c.append_places.new.places.items)) (sym (count_is c))
    (subst (λ (places : List (ℕ × RunPlace)). HasEachFrom 0 (run_count c.args.step (length c.args.groups.now.groups)) (map (λ (p : ℕ × RunPlace). p.0) places))
    (sym (places_are c))
    (each-placed c.args.step c.args.groups.now.groups c.args.runs.now c.requires.runs))

pub returns : goal.returns
returns c =
    let before = (goal.at.returns c).After-run_count in
    let groups = c.args.groups.now.groups in
    let step = c.args.step in
    let places = c.append_places.new.places.items in
    IfOk-weaker c.in_order.result (λ (order : Reordering RunPlace). order ≡ with_each (reordering_from 0 c.run_count.result) places)
    (AreInOrder step groups c.args.runs.now)
    (λ order is.
    order-held step groups c.args.runs.now order c.requires.runs c.requires.step.0
    (some_runs step (length groups) c.requires.step.0 c.requires.groups.some)
    (omega (arith, c.run_count.ensures.few, count_is before))
    (is
    ∙ ap (λ (n : ℕ). with_each (reordering_from 0 n) places) (count_is before)
    ∙ ap (λ (places : List (ℕ × RunPlace)). with_each (reordering_from 0 (run_count step (length groups))) places) (places_are before)))
    c.in_order.ensures
