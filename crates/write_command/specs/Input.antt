-- Promise. The records that `write` takes from its input. Own.
use Rattle.std.specs.Prelude.{ℕ, ◌+◌, ◌-◌, ◌^◌, Bool, Option, Some, None, Result, Ok, Err, List, [], ◌∷◌, length, take, nat_le, nat_lt, if◌then◌else◌}
use Rattle.std.specs.List.{after_last}
use Rattle.hex.specs.Hex.{decode_of}
use Rattle.hex.specs.declared.FromHexError.{FromHexError}
use Rattle.record_writer.specs.declared.feed.Stop.{Stop}
use Rattle.record_writer.specs.declared.feed.Stop.TheVariants.{TooLong, InputTooLong, BadLine}
use Rattle.record_writer.specs.Feeds.{Rest, stop_alone}
use Rattle.command_frame.specs.Lines.{ends_line, lines}

-- the most bytes that are taken of an input: those that are read, and one that shows that it goes on
abbrev pub most_input_taken : ℕ
most_input_taken = 2 ^ 40 + 1

-- the bytes after the last byte 10: a line that no byte 10 has ended yet
abbrev pub running : List ℕ → List ℕ
running bytes = after_last ends_line bytes

-- the bytes up to the last byte 10
abbrev pub up_to_last_end : List ℕ → List ℕ
up_to_last_end bytes = take (length bytes - length (running bytes)) bytes

-- the most bytes that a line may have
abbrev pub line_limit : Bool → ℕ
line_limit hex = if hex then 2 ^ 25 else 2 ^ 24

-- what a line in the hexadecimal form stands for, or that it isn't one
abbrev pub or_bad_line : Result (List ℕ) FromHexError → Result (List ℕ) Stop
or_bad_line (Ok bytes) = Ok bytes
or_bad_line (Err _) = Err BadLine

-- the record of a line, or why it is refused: a line is its own record, or in the hexadecimal form the bytes
-- that its digits stand for
abbrev pub record_of_line : Bool → List ℕ → Result (List ℕ) Stop
record_of_line hex line =
    if nat_lt (line_limit hex) (length line) then Err TooLong
    else if hex then or_bad_line (decode_of line)
    else Ok line

-- a line's record before the records of the lines after it
abbrev pub taken_before : Result (List ℕ) Stop → Rest → Rest
taken_before (Ok bytes) rest = record rest { records = bytes ∷ rest.records }
taken_before (Err stop) rest = stop_alone stop

-- the records of lines before the first refused one, which is the stop; else the stop that is given
abbrev pub taken_lines : Bool → List (List ℕ) → Option Stop → Rest
taken_lines hex [] stop = record { records = []; stop = stop }
taken_lines hex (line ∷ rest) stop = taken_before (record_of_line hex line) (taken_lines hex rest stop)

-- the stop of an input that goes past its limit, by the line that runs there
abbrev pub stop_past_limit : Bool → List ℕ → Stop
stop_past_limit hex line = if nat_lt (line_limit hex) (length line) then TooLong else InputTooLong

-- what is taken from an input, of which at most limit bytes are read
unfoldable pub taken_from : List ℕ → Bool → ℕ → Rest
taken_from input hex limit =
    if nat_le (length input) limit then taken_lines hex (lines input) None
    else (let front = take limit input in
    taken_lines hex (lines (up_to_last_end front)) (Some (stop_past_limit hex (running front))))
