-- Promise. What `show` prints, says and ends with. Own.
use Rattle.std.specs.Prelude.{◌≡◌, ℕ, ◌-◌, ◌⊎◌, false, List, [], ◌++◌}
use Rattle.std.specs.List.{flat_map}
use Rattle.record_io.specs.Puts.{Put, Out, Notes, puts_to}
use Rattle.chunk_header.specs.Chunks.{ChunkValue}
use Rattle.meta_chunk.specs.Files.{IsPlain, IsChainOf, ArePlaced}
use Rattle.chunk_reader.specs.Faults.{IsLongest, HasNoFault, IsFault}
use Rattle.chunk_reader.specs.SearchBounds.{MayBeReadTo}
use Rattle.chunk_reader.specs.declared.reasons.Fault.{Fault}
use Rattle.show_command.specs.declared.show_words.ShowWords.{ShowWords}
use Rattle.command_frame.specs.Answers.{Answer}
use Rattle.show_command.specs.Readings.{refused_text, record_line, MayTakeOnce, MayEndReading}
use Rattle.command_frame.specs.FileAnswers.{file_meaning}
use Rattle.command_frame.specs.Meanings.{Meaning}
use Rattle.command_frame.specs.declared.status.Status.TheVariants as status

-- the answer to a file: the records of its longest front of well-formed chunks, and the fault behind that, if there is one
pub record IsShown (words : ShowWords) (file : List ℕ) (answer : Answer) : Type 0 where
  pub ks : List ChunkValue
  pub place : ℕ
  pub placed : List (ℕ × List ℕ)
  pub longest : IsLongest IsPlain ks file place
  pub records : ArePlaced ks placed
  pub said : List ℕ
  pub puts : answer.puts ≡ puts_to Out (flat_map (record_line words.form) placed) ++ puts_to Notes said
  pub ended : (HasNoFault false file × (said ≡ []) × (answer.status ≡ status.Ok))
      ⊎ ((fault : Fault) × IsFault false file fault × (said ≡ refused_text fault) × (answer.status ≡ status.Refused))

-- what was put so far: the records of some chunks at the file's front. What was handed out is read behind them no further
-- than a chunk header or the next chunk
pub record IsShownSoFar (words : ShowWords) (before after : ℕ) (file : List ℕ) (part : List Put) : Type 0 where
  pub ks : List ChunkValue
  pub place : ℕ
  pub placed : List (ℕ × List ℕ)
  pub chain : IsChainOf IsPlain ks file place
  pub records : ArePlaced ks placed
  pub puts : part ≡ puts_to Out (flat_map (record_line words.form) placed)
  pub read : MayBeReadTo file place (after - before)

-- what `show` means
abbrev pub show_meaning : ShowWords → Meaning
show_meaning words = record (file_meaning (IsShown words) (IsShownSoFar words)) { may_take = MayTakeOnce; may_end = MayEndReading }
