-- Inside. Bytes that lie in memory of their own, or in shared memory. Own.
use Rattle.std.specs.Prelude.{ℕ, List}
use Rattle.record_values.specs.declared.byte_list.Held.{Held}
use Rattle.record_values.specs.declared.byte_list.Held.TheVariants.{Own, Shared}

-- the bytes, wherever they lie
abbrev pub bytes_of : Held → List ℕ
bytes_of (Own bytes) = bytes.items
bytes_of (Shared bytes alloc) = bytes
