use Rattle.std.proofs.Common.{◌≡◌, ◌++◌, drop}
use Rattle.chunk_workers.specs.RunPlaces.{places_in}
use Rattle.chunk_workers.proofs.places.append_worker.Given as goal

-- what is appended, and what the rest will append
abbrev pub invariant-loop-number : goal.invariant-loop-number
invariant-loop-number l =
    l.places.items ++ places_in l.step l.groups l.worker l.first (drop l.number-index l.numbers) ≡ l.fn.places.items ++ places_in l.step l.groups l.worker 0 l.numbers
