use Rattle.std.proofs.Common.{◌≡◌, ◌≢◌, ◌+◌, [], All, IfOk, vec_len}
use Rattle.std.specs.List.{flat_map}
use Rattle.std.specs.Vec.Iter.{into_iter_items, into_iter_len}
use Rattle.chunk_workers.specs.Coded.{AreCoded}
use Rattle.chunk_workers.specs.Runs.{IsDrawn, groups_of_runs}
use Rattle.chunk_workers.specs.Seats.{BelongsTo, drawn_by}
use Rattle.chunk_workers.proofs.window.encode_window.Given as goal

abbrev pub invariant-loop-part : goal.invariant-loop-part
invariant-loop-part g l = record {
  parts : All (λ part. IfOk part (λ w. IsDrawn (g.C.Coder.chunk_of l.coder) l.draws l.fn.step l.groups.groups w.seat w.runs)) (into_iter_items l.part-iterator);
  ended : All (λ seat. BelongsTo l.draws seat × (seat.hand.past ≢ [])) l.ended.items;
  seats : vec_len l.ended + into_iter_len l.part-iterator ≡ l.draws.workers;
  numbers : flat_map (λ r. r.numbers) l.runs.items ≡ drawn_by l.ended.items;
  coded : All (λ r. AreCoded (g.C.Coder.chunk_of l.coder) (groups_of_runs l.fn.step l.groups.groups r.numbers) r.chunks) l.runs.items;
}
