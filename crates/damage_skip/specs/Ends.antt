-- Inside. How a walk ends before it is done. Own.
use Rattle.chunk_reader.specs.declared.judging.LoadEnd.{LoadEnd}
use Rattle.chunk_reader.specs.declared.judging.LoadEnd.TheVariants as load
use Rattle.damage_skip.specs.declared.events.WalkEnd.{WalkEnd}
use Rattle.damage_skip.specs.declared.events.WalkEnd.TheVariants as walk

-- an end of loading a chunk, as one of a walk
abbrev pub walk_end_of : LoadEnd → WalkEnd
walk_end_of load.Store = walk.Store
walk_end_of load.Memory = walk.Memory
