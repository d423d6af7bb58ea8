use Rattle.std.proofs.Common.{◌≡◌, suc, [], ◌∷◌, ◌++◌, All, sym, subst, arith}
use Rattle.std.proofs.lemmas.List.Elements.{All-push}
use Rattle.std.specs.Vec.Iter.{into_iter_items}
use Rattle.number_shares.specs.Machine.{empty_hand}
use Rattle.chunk_workers.specs.Runs.{CanDraw}
use Rattle.chunk_workers.specs.Seats.{BelongsTo, SeatValue}
use Rattle.chunk_workers.specs.declared.workers.Worker.{Worker}
use Rattle.chunk_workers.proofs.workers.with_memory.Goals as goal

pub loop-seat-preserved : goal.loop-seat-preserved
loop-seat-preserved c =
    let draws = c.args.draws.now in
    let h = c.loop-seat.invariant in
    let seat = c.in-Some.seat in
    let P : SeatValue → Type 0 = λ s. BelongsTo draws s × (s.hand ≡ empty_hand) in
    let Q : Worker → Type 0 = λ w. CanDraw draws w.seat w.runs in
    let all : All P (seat ∷ into_iter_items c.next.new.self) = subst (All P) c.in-Some.ensures.steps.0 h.rest in
    let one = all 0 seat (omega arith) in
    let w : Worker = record { seat = seat; runs = c.cleared-runs.result } in
    let pushed : c.push.new.self.items ≡ c.loop-seat.ready.items ++ w ∷ [] = c.in_ok-push.ensures.items in
    record {
      rest = λ k d within. all (suc k) d (omega (arith, within));
      len = omega (arith, h.len, c.in_ok-push.ensures.len, c.in-Some.ensures.steps.1);
      each = subst (All Q) (sym pushed) (All-push Q c.loop-seat.ready.items w h.each (record { belongs = one.0; fresh = one.1; none = c.cleared-runs.ensures }));
    }
