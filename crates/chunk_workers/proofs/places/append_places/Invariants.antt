use Rattle.std.proofs.Common.{◌≡◌, ◌++◌, drop}
use Rattle.chunk_workers.specs.RunPlaces.{places_from, places_of}
use Rattle.chunk_workers.proofs.places.append_places.Given as goal

-- what is appended, and what the rest will append
abbrev pub invariant-loop-i : goal.invariant-loop-i
invariant-loop-i l =
    l.places.items ++ places_from l.step l.groups l.i (drop l.i l.runs) ≡ l.fn.places.items ++ places_of l.step l.groups l.runs
