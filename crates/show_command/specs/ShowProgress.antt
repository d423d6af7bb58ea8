-- Inside. How far `show` has printed a file. Own.
use Rattle.std.specs.Prelude.{◌≡◌, ℕ, ◌+◌, ◌<◌, ◌≤◌, Bool, true, Result, Ok, List}
use Rattle.std.specs.List.{flat_map}
use Rattle.record_io.specs.Puts.{Out, Taken, puts_to}
use Rattle.record_io.specs.Buffers.{GoOutOrAreHeld}
use Rattle.record_values.specs.declared.file_totals.Totals.{Totals}
use Rattle.chunk_header.specs.Chunks.{ChunkValue}
use Rattle.meta_chunk.specs.Files.{totals_of, IsPlain, IsChainOf, ArePlaced}
use Rattle.chunk_reader.specs.declared.reasons.Fault.{Fault}
use Rattle.command_frame.specs.declared.ending.Ending.{Ending}
use Rattle.command_frame.specs.Answers.{line}
use Rattle.command_frame.specs.Endings.{HasPutAtEnd}
use Rattle.show_command.specs.declared.show_words.RecordForm.{RecordForm}
use Rattle.show_command.specs.declared.show_words.ShowWords.{ShowWords}
use Rattle.show_command.specs.ReadingEnds.{reading_ends}
use Rattle.show_command.specs.Readings.{record_line}
use Rattle.show_command.specs.ShowCommand.{IsShown}

-- the lines of records with their positions
abbrev pub record_lines : RecordForm → List (ℕ × List ℕ) → List ℕ
record_lines form placed = flat_map (record_line form) placed

-- the lines of records as they are
abbrev pub plain_lines : List (List ℕ) → List ℕ
plain_lines records = flat_map line records

-- the text is the lines of the records of the chunks at a file's front, of which these are the totals
pub record IsTextOf (words : ShowWords) (file : List ℕ) (totals : Totals) (text : List ℕ) : Type 0 where
  pub ks : List ChunkValue
  pub placed : List (ℕ × List ℕ)
  pub chain : IsChainOf IsPlain ks file totals.bytes
  pub counted : totals ≡ totals_of ks
  pub records : ArePlaced ks placed
  pub lines : text ≡ record_lines words.form placed

-- such a text was printed, or is held
abbrev pub IsPrinted : ShowWords → List ℕ → Totals → (before after : Taken) → List ℕ → Type 0
IsPrinted words file totals before after held =
    (text : List ℕ) × IsTextOf words file totals text × GoOutOrAreHeld before after Out (puts_to Out text) held

-- a chunk more was printed, or the work ended
abbrev pub PrintsOn : ShowWords → Result Bool (Ending Fault) → List ℕ → Totals → (before after : Taken) → List ℕ → Type 0
PrintsOn words (Ok true) file totals before after held = IsPrinted words file totals before after held
PrintsOn words result file totals before after held = HasPutAtEnd reading_ends (IsShown words) result file before after held

-- a file was read on from a place to another, and no more of it was handed out than lies between
pub record MovesOn (place place_then handed handed_then : ℕ) : Type 0 where
  pub further : place < place_then
  pub handed_between : handed_then + place ≤ handed + place_then

-- no line was put, neither to what is held nor to the sink
pub record PutsNothing {O : Type 0} (lines lines_then : List ℕ) (out out_then : O) : Type 0 where
  pub same_lines : lines_then ≡ lines
  pub same_out : out_then ≡ out
