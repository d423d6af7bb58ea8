-- Promise. What `ranges` prints, says and ends with. Own.
use Rattle.std.specs.Prelude.{◌≡◌, ℕ, ◌^◌, ◌<◌, ◌≤◌, ◌⊎◌, not, ◌==◌, true, false, Some, List, ◌∷◌, ◌++◌, decimal, length, map, slice_get}
use Rattle.std.specs.List.{AllByRecursion, find, flat_map}
use lib.Chars.{codes}
use Rattle.record_io.specs.Puts.{Out, puts_to}
use Rattle.chunk_header.specs.Chunks.{ChunkValue}
use Rattle.meta_chunk.specs.Files.{IsReadable, ArePlaced}
use Rattle.chunk_reader.specs.Faults.{IsFault}
use Rattle.chunk_reader.specs.declared.reasons.Fault.{Fault}
use Rattle.command_frame.specs.Answers.{Answer, line, noted}
use Rattle.command_frame.specs.FileAnswers.{AreWithin, MayEndBySizes, limit_text}
use Rattle.command_frame.specs.Meanings.{Meaning, meaning, none_used}
use Rattle.command_frame.specs.declared.status.Status.{Status}
use Rattle.command_frame.specs.declared.status.Status.TheVariants as status
use Rattle.show_command.specs.Readings.{bare, record_line, refused_text}

-- the most bytes of a file that is read in parts
abbrev pub most_range_bytes : ℕ
most_range_bytes = 2 ^ 28

-- the sizes of stores that differ: the first, and the first that is another
abbrev pub Differ : List ℕ → (first other : ℕ) → Type 0
Differ sizes first other = (slice_get sizes 0 ≡ Some first) × (find (λ size. not (size == first)) sizes ≡ Some other)

-- all stores of a file told this size, and it has no more bytes than are read
pub record AreAlike (size : ℕ) (sizes : List ℕ) : Type 0 where
  pub some : 0 < length sizes
  pub same : AllByRecursion (λ other. other ≡ size) sizes
  pub within : size ≤ most_range_bytes

-- by these sizes of its stores the file is read
abbrev pub MayBeRead : List ℕ → Type 0
MayBeRead sizes = (size : ℕ) × AreAlike size sizes

-- the line that tells two sizes of one file
abbrev pub differ_text : (first other : ℕ) → List ℕ
differ_text first other = line (codes "size " ++ decimal first ++ 32 ∷ decimal other)

-- these are the records of a file without fault, each as a line
pub record IsTextOfFile (file text : List ℕ) : Type 0 where
  pub chunks : List ChunkValue
  pub placed : List (ℕ × List ℕ)
  pub is_file : IsReadable chunks file
  pub records : ArePlaced chunks placed
  pub lines : text ≡ flat_map (record_line bare) placed

-- what is answered of a file that is read strictly: its records, where it has no fault, or else its fault
abbrev pub IsReadAnswer : List ℕ → Answer → Type 0
IsReadAnswer file answer =
    ((text : List ℕ) × IsTextOfFile file text × (answer ≡ record { puts = puts_to Out text; status = status.Ok }))
    ⊎ ((fault : Fault) × IsFault false file fault × (answer ≡ noted status.Refused (refused_text fault)))

-- the answer to what the stores of one file show, by their sizes first
abbrev pub IsRangesAnswer : List (List ℕ) → Answer → Type 0
IsRangesAnswer files answer =
    (¬ AreWithin most_range_bytes (map length files) × (answer ≡ noted status.Limit limit_text))
    ⊎ (AreWithin most_range_bytes (map length files)
    × (first : ℕ) × (other : ℕ) × Differ (map length files) first other × (answer ≡ noted status.Differ (differ_text first other)))
    ⊎ (MayBeRead (map length files) × (file : List ℕ) × (slice_get files 0 ≡ Some file) × IsReadAnswer file answer)

-- all stores show the bytes of one file
abbrev pub AreOneFile : List (List ℕ) → Type 0
AreOneFile files = (file : List ℕ) × AllByRecursion (λ other. other ≡ file) files

-- how it may end by the sizes that the stores told, whatever they hold: also with a fault, or as two sizes differ
abbrev pub MayEndRanges : List ℕ → Status → List ℕ → Type 0
MayEndRanges sizes ended text =
    MayEndBySizes (λ sizes. ¬ AreWithin most_range_bytes sizes) MayBeRead
    (λ ended text. (fault : Fault) × (ended ≡ status.Refused) × (text ≡ refused_text fault)) sizes ended text
    ⊎ (AreWithin most_range_bytes sizes × (first : ℕ) × (other : ℕ) × Differ sizes first other × (ended ≡ status.Differ) × (text ≡ differ_text first other))

-- what `ranges` means: once the sizes let the file be read, it is supposed that all stores show the same bytes
abbrev pub ranges_meaning : Meaning
ranges_meaning = record (meaning (record none_used { files = true; out = true; memory = true }) (λ r answer. IsRangesAnswer r.files answer)) {
  supposes = λ r. MayBeRead (map length r.files) → AreOneFile r.files;
  may_work = MayBeRead;
  may_take = λ sizes before after. Unit {0};
  may_end = MayEndRanges;
}
