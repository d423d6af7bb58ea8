-- Promise. What the words of each command say: its options, which stand once at most, and its files. Own.
use Rattle.std.specs.Prelude.{ℕ, ◌-◌, ◌^◌, Option, Some, None, List, [], ◌∷◌, unwrap_or, option_map, if◌then◌else◌}
use Rattle.std.specs.Str.{bytes_eq}
use lib.Chars.{codes}
use Rattle.record_group.specs.declared.pad.Pad.{Pad}
use Rattle.record_group.specs.declared.pad.Pad.TheVariants.{No, Start, End, Both}
use Rattle.record_writer.specs.declared.options.WriteOptions.{WriteOptions}
use Rattle.write_command.specs.declared.write_words.WriteWords.{WriteWords}
use Rattle.show_command.specs.declared.show_words.ShowWords.{ShowWords}
use Rattle.seek_command.specs.declared.seek_words.By.{By}
use Rattle.seek_command.specs.declared.seek_words.By.TheVariants.{At, Key}
use Rattle.sample_command.specs.SampleCommand.{most_records}
use Rattle.riegeli_tool.specs.declared.command.Command.{Command}
use Rattle.riegeli_tool.specs.declared.command.Command.TheVariants.{Write, Show, Recover, Verify, Seek, Repair, Sample, Join, Ranges, Append, Collect}
use Rattle.command_frame.specs.Numbers.{number_within}
use Rattle.command_frame.specs.Options.{value_given, has_flag, are_words_of, file_places, only_two, file_place, is_same_at, optional_value, number_given, files_words_of, ◌>>=◌}
use Rattle.command_frame.specs.Writing.{default_chunk_size}

-- where padding stands, by its name
abbrev pub pad_named : List ℕ → Option Pad
pad_named name =
    if bytes_eq name (codes "start") then Some Start
    else if bytes_eq name (codes "end") then Some End
    else if bytes_eq name (codes "both") then Some Both
    else None

-- how words say that records are written. What they don't name is the default chunk size, one worker, any number of records
-- in a chunk, and no padding
abbrev pub options_of : List (List ℕ) → Option WriteOptions
options_of words = do
  size ← number_given (codes "--chunk=") 1 (2 ^ 24) words
  workers ← number_given (codes "--workers=") 1 16 words
  every ← number_given (codes "--every=") 1 (2 ^ 24) words
  pad ← optional_value pad_named (value_given (codes "--pad=") words)
  Some (record { size = unwrap_or size default_chunk_size; workers = unwrap_or workers 1; every = every; pad = unwrap_or pad No })

-- the options of commands that read lines
abbrev pub line_options : List (List ℕ)
line_options = codes "--chunk=" ∷ codes "--every=" ∷ codes "--workers=" ∷ codes "--pad=" ∷ codes "--hex" ∷ []

-- what the words of a command that reads lines say. It has these options; those beyond `line_options` it reads itself
unfoldable pub line_words_of : (options words : List (List ℕ)) → Option WriteWords
line_words_of options words = do
  file ← file_place options words
  how ← options_of words
  Some (record { options = how; hex = has_flag (codes "--hex") words; file = file })

abbrev pub write_command_of : List (List ℕ) → Option Command
write_command_of words = option_map Write (line_words_of line_options words)

abbrev pub append_command_of : List (List ℕ) → Option Command
append_command_of words = do
  write ← line_words_of (codes "--cut" ∷ line_options) words
  Some (Append (record { write = write; cut = has_flag (codes "--cut") words }))

-- how words say that the records of a file are printed
abbrev pub shown : (file : ℕ) → List (List ℕ) → ShowWords
shown file words = record {
  form = record { positions = has_flag (codes "--positions") words; hex = has_flag (codes "--hex") words };
  file = file;
}

-- the most bytes of a region that is skipped, where they are bounded
abbrev pub most_of : List (List ℕ) → Option (Option ℕ)
most_of words = number_given (codes "--most=") 0 (2 ^ 62) words

-- `show` that goes past damage
unfoldable pub recover_command_of : List (List ℕ) → Option Command
recover_command_of words = do
  file ← file_place (codes "--recover" ∷ codes "--most=" ∷ codes "--hex" ∷ codes "--positions" ∷ []) words
  most ← most_of words
  Some (Recover (record { show = shown file words; most = most }))

unfoldable pub show_command_of : List (List ℕ) → Option Command
show_command_of words =
    if has_flag (codes "--recover") words then recover_command_of words
    else option_map (λ file. Show (shown file words)) (file_place (codes "--hex" ∷ codes "--positions" ∷ []) words)

unfoldable pub verify_command_of : List (List ℕ) → Option Command
verify_command_of words = option_map Verify (file_place [] words)

-- what is looked for: a position or a key, and not both
abbrev pub one_sought : (position : Option ℕ) → (key : Option (List ℕ)) → Option By
one_sought (Some position) None = Some (At position)
one_sought None (Some key) = Some (Key key)
one_sought position key = None

unfoldable pub seek_command_of : List (List ℕ) → Option Command
seek_command_of words = do
  file ← file_place (codes "--at=" ∷ codes "--key=" ∷ codes "--hex" ∷ []) words
  position ← number_given (codes "--at=") 0 (2 ^ 64 - 1) words
  by ← one_sought position (value_given (codes "--key=") words)
  Some (Seek (record { by = by; hex = has_flag (codes "--hex") words; file = file }))

-- the two words of `repair` differ: another name of the same file is no matter of words
unfoldable pub repair_command_of : List (List ℕ) → Option Command
repair_command_of words =
    if are_words_of (codes "--most=" ∷ []) words
    then (do
      files ← only_two (file_places words)
      most ← most_of words
      (if is_same_at words files.0 files.1 then None else Some (Repair (record { most = most; from = files.0; to = files.1 }))))
    else None

-- `--seed` and `--records` have to be given
unfoldable pub sample_command_of : List (List ℕ) → Option Command
sample_command_of words = do
  file ← file_place (codes "--seed=" ∷ codes "--records=" ∷ codes "--chunk=" ∷ codes "--workers=" ∷ []) words
  how ← options_of words
  seed ← value_given (codes "--seed=") words >>= number_within 0 (2 ^ 64 - 1)
  count ← value_given (codes "--records=") words >>= number_within 0 most_records
  Some (Sample (record { options = how; seed = seed; count = count; file = file }))

-- `--parts` has to be given
unfoldable pub ranges_command_of : List (List ℕ) → Option Command
ranges_command_of words = do
  file ← file_place (codes "--parts=" ∷ []) words
  parts ← value_given (codes "--parts=") words >>= number_within 1 16
  Some (Ranges (record { parts = parts; file = file }))

-- the command of this name that words are, if they are one. `join` reads 64 files at most, and `collect` 16
abbrev pub command_named : (name : List ℕ) → List (List ℕ) → Option Command
command_named name words =
    if bytes_eq name (codes "write") then write_command_of words
    else if bytes_eq name (codes "show") then show_command_of words
    else if bytes_eq name (codes "verify") then verify_command_of words
    else if bytes_eq name (codes "seek") then seek_command_of words
    else if bytes_eq name (codes "repair") then repair_command_of words
    else if bytes_eq name (codes "sample") then sample_command_of words
    else if bytes_eq name (codes "join") then option_map Join (files_words_of 64 words)
    else if bytes_eq name (codes "ranges") then ranges_command_of words
    else if bytes_eq name (codes "append") then append_command_of words
    else if bytes_eq name (codes "collect") then option_map Collect (files_words_of 16 words)
    else None
