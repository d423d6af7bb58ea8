-- Promise. What is written under options. Own.
use Rattle.std.specs.Prelude.{ℕ, List}
use Rattle.chunk_header.specs.Chunks.{ChunkValue}
use Rattle.record_group.specs.Groups.{chunks_of, file_of, record_chunks}
use Rattle.record_writer.specs.declared.options.WriteOptions.{WriteOptions}

-- the chunks of records under options, and the file of them
abbrev pub chunks_under : WriteOptions → List (List ℕ) → List ChunkValue
chunks_under options records = chunks_of records options.size options.every options.pad

abbrev pub file_under : WriteOptions → List (List ℕ) → List ℕ
file_under options records = file_of records options.size options.every options.pad

-- the chunks of records alone, from a place on where others end
abbrev pub tail_chunks : WriteOptions → ℕ → List (List ℕ) → List ChunkValue
tail_chunks options at records = record_chunks at records options.size options.every options.pad
