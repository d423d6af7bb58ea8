-- Promise. The chunk size of commands that write records, where none is named. Own.
use Rattle.std.specs.Prelude.{ℕ}

abbrev pub default_chunk_size : ℕ
default_chunk_size = 1048576
