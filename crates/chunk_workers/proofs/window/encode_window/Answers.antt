use Rattle.std.proofs.Common.{◌≡◌, ◌≢◌, ◌∙◌, ℕ, suc, List, [], ◌∷◌, ◌++◌, All, IfOk, Result, ap, sym, subst, arith}
use Rattle.std.specs.List.{flat_map}
use Rattle.std.proofs.lemmas.List.{flat_map_more}
use Rattle.std.proofs.lemmas.List.Elements.{All-push}
use Rattle.std.specs.Vec.Iter.{into_iter_items}
use Rattle.std.specs.declared.alloc.AllocError.{AllocError}
use Rattle.chunk_workers.specs.Seats.{BelongsTo, SeatValue, drawn_by, numbers_at}
use Rattle.chunk_workers.specs.declared.workers.Worker.{Worker}
use Rattle.chunk_workers.specs.Coded.{AreCoded}
use Rattle.chunk_workers.specs.Runs.{IsDrawn, RunsValue, groups_of_runs}
use Rattle.chunk_workers.proofs.window.encode_window.Goals as goal

-- the numbers of what workers made, and of what one more made
numbers-more : {X : Type 0} (f : X → List ℕ) (xs : List X) (x : X) (seats : List SeatValue) (seat : SeatValue) → flat_map f xs ≡ drawn_by seats → f x ≡ numbers_at seat.hand.mine
    → flat_map f (xs ++ x ∷ []) ≡ drawn_by (seats ++ seat ∷ [])
numbers-more f xs x seats seat before one =
    sym (flat_map_more f [] xs x)
    ∙ ap (λ (ns : List ℕ). ns ++ f x) before
    ∙ ap (λ (ns : List ℕ). drawn_by seats ++ ns) one
    ∙ flat_map_more (λ (s : SeatValue). numbers_at s.hand.mine) [] seats seat

pub loop-part-preserved : goal.loop-part-preserved
loop-part-preserved g c =
    let chunk_of = g.C.Coder.chunk_of c.args.coder.now in
    let draws = c.args.draws.now in
    let groups = c.args.groups.now.groups in
    let h = c.loop-part.invariant in
    let rest = into_iter_items c.next.new.self in
    let part = c.in-Some.part in
    let worker = c.in_ok-worker.worker in
    let runs = c.loop-part.runs.items in
    let ended = c.loop-part.ended.items in
    let P : Result Worker AllocError → Type 0 = λ p. IfOk p (λ w. IsDrawn chunk_of draws c.args.step groups w.seat w.runs) in
    let Q : SeatValue → Type 0 = λ s. BelongsTo draws s × (s.hand.past ≢ []) in
    let C : RunsValue → Type 0 = λ r. AreCoded chunk_of (groups_of_runs c.args.step groups r.numbers) r.chunks in
    let numbers : RunsValue → List ℕ = λ r. r.numbers in
    let all : All P (part ∷ rest) = subst (All P) c.in-Some.ensures.steps.0 h.parts in
    let one = subst P c.in_ok-worker.was (all 0 part (omega arith)) in
    let more : c.push.new.self.items ≡ runs ++ worker.runs ∷ [] = c.in_ok-push.ensures.items in
    let pushed : c.push-in-loop-part.new.self.items ≡ ended ++ worker.seat ∷ [] = c.in_ok-push-2.ensures.items in
    record {
      parts = λ k d within. all (suc k) d (omega (arith, within));
      ended = subst (All Q) (sym pushed) (All-push Q ended worker.seat h.ended (one.belongs, one.ended));
      seats = omega (arith, h.seats, c.in_ok-push-2.ensures.len, c.in-Some.ensures.steps.1);
      numbers =
          ap (flat_map numbers) more
          ∙ numbers-more numbers runs worker.runs ended worker.seat h.numbers one.numbers
          ∙ ap (λ (seats : List SeatValue). drawn_by seats) (sym pushed);
      coded = subst (All C) (sym more) (All-push C runs worker.runs h.coded one.coded);
    }
