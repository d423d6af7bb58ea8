use Rattle.std.proofs.Common.{ℕ, ◌-◌, List, ◌++◌, take, drop}
use Rattle.chunk_workers.specs.Coded.{AreCoded}
use Rattle.chunk_workers.proofs.window.code_run.Given as goal

-- what was coded of the groups up to this one
abbrev pub invariant-loop-i : goal.invariant-loop-i
invariant-loop-i g l =
    (before : List (List (List ℕ))) → AreCoded (g.C.Coder.chunk_of l.coder) before l.fn.chunks
    → AreCoded (g.C.Coder.chunk_of l.coder) (before ++ take (l.i - l.begin) (drop l.begin l.groups.groups)) l.chunks
