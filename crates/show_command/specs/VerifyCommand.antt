-- Promise. What `verify` prints, says and ends with. Own.
use Rattle.std.specs.Prelude.{◌≡◌, ℕ, ◌⊎◌, true, List, []}
use Rattle.record_io.specs.Puts.{Out, puts_to, Put}
use Rattle.chunk_header.specs.Chunks.{ChunkValue}
use Rattle.meta_chunk.specs.Files.{totals_of, IsWellFormed}
use Rattle.chunk_reader.specs.Faults.{IsFault}
use Rattle.chunk_reader.specs.declared.reasons.Fault.{Fault}
use Rattle.command_frame.specs.Answers.{Answer, noted}
use Rattle.show_command.specs.Readings.{refused_text, MayTakeOnce, MayEndReading}
use Rattle.command_frame.specs.FileAnswers.{file_meaning, report}
use Rattle.command_frame.specs.Meanings.{Meaning, none_used}
use Rattle.command_frame.specs.declared.status.Status.TheVariants as status

-- the answer to a file: the report of its chunks, where it is well-formed chunks to its end, or else its fault
abbrev pub IsVerified : List ℕ → Answer → Type 0
IsVerified file answer =
    ((ks : List ChunkValue) × IsWellFormed ks file
    × (answer ≡ record { puts = puts_to Out (report (totals_of ks)); status = status.Ok }))
    ⊎ ((fault : Fault) × IsFault true file fault × (answer ≡ noted status.Refused (refused_text fault)))

-- nothing is put before the report
abbrev pub IsVerifiedSoFar : (before after : ℕ) → List ℕ → List Put → Type 0
IsVerifiedSoFar before after file part = part ≡ []

-- what `verify` means
abbrev pub verify_meaning : Meaning
verify_meaning = record (file_meaning IsVerified IsVerifiedSoFar) {
  uses = record none_used { files = true; out = true };
  may_take = MayTakeOnce;
  may_end = MayEndReading;
}
