-- Inside. What is told of a chunk that was judged. Own.
use Rattle.std.specs.Prelude.{◌≡◌, ℕ, length}
use Rattle.std.specs.List.{concat}
use Rattle.chunk_reader.specs.Contents.{records_given}
use Rattle.chunk_reader.specs.declared.judging.Judged.{Judged}
use Rattle.chunk_reader.specs.declared.judging.What.{What}
use Rattle.chunk_reader.specs.declared.judging.What.TheVariants.{Records, Passive, Unread}
use Rattle.riegeli_c.specs.declared.reading.ChunkTold.{ChunkTold}

-- the number of what it is
abbrev pub what_number : What → ℕ
what_number (Records records) = 1
what_number Passive = 2
what_number Unread = 3

-- this is told of it
pub record TellsJudged (j : Judged) (told : ChunkTold) : Type 0 where
  pub end : told.end ≡ j.end
  pub what : told.what ≡ what_number j.what
  pub count : told.records ≡ length (records_given j.what)
  pub bytes : told.bytes ≡ length (concat (records_given j.what))
