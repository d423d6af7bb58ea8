-- Values counted by hand, computed from the definitions.
use Rattle.std.proofs.Common.{◌≡◌, ℕ, false, true, Some, None, Ok, Err, List, [], ◌∷◌, ◌++◌, length, codes, nat_lt, if◌then◌else◌, ap, refl}
use Rattle.hex.specs.Hex.{decode_of, decode_pairs}
use Rattle.record_writer.specs.declared.feed.Stop.TheVariants.{TooLong, InputTooLong, BadLine}
use Rattle.write_command.specs.Input.{running, up_to_last_end, line_limit, or_bad_line, record_of_line, stop_past_limit, taken_from}
use Rattle.write_command.specs.LastLines.{with_last_end}

-- the line that runs at the end, and what stands before it
running_line : running (0x61 ∷ 10 ∷ 0x62 ∷ 0x63 ∷ []) ≡ 0x62 ∷ 0x63 ∷ []
running_line = refl

running_after_end : running (0x61 ∷ 10 ∷ []) ≡ []
running_after_end = refl

running_alone : running (0x61 ∷ 0x62 ∷ []) ≡ 0x61 ∷ 0x62 ∷ []
running_alone = refl

ended_lines : up_to_last_end (0x61 ∷ 10 ∷ 10 ∷ 0x62 ∷ 0x63 ∷ []) ≡ 0x61 ∷ 10 ∷ 10 ∷ []
ended_lines = refl

no_ended_line : up_to_last_end (0x61 ∷ 0x62 ∷ []) ≡ []
no_ended_line = refl

-- `a` and `b` with a limit of 3: the line `b` ends past it
taken_to_limit : taken_from (0x61 ∷ 10 ∷ 0x62 ∷ 10 ∷ []) false 3 ≡ record { records = (0x61 ∷ []) ∷ []; stop = Some InputTooLong }
unfolding taken_from
taken_to_limit = refl

-- the same with a limit of 4, which is the input's length, and of 3 where the last line has no byte 10
taken_at_limit : taken_from (0x61 ∷ 10 ∷ 0x62 ∷ 10 ∷ []) false 4 ≡ record { records = (0x61 ∷ []) ∷ (0x62 ∷ []) ∷ []; stop = None }
unfolding taken_from
taken_at_limit = refl

taken_without_end : taken_from (0x61 ∷ 10 ∷ 0x62 ∷ []) false 3 ≡ record { records = (0x61 ∷ []) ∷ (0x62 ∷ []) ∷ []; stop = None }
unfolding taken_from
taken_without_end = refl

-- a limit between two lines
taken_between : taken_from (0x61 ∷ 10 ∷ 0x62 ∷ 10 ∷ []) false 2 ≡ record { records = (0x61 ∷ []) ∷ []; stop = Some InputTooLong }
unfolding taken_from
taken_between = refl

-- a limit within the first line, whose end is past it, and an empty input at a limit of 0
taken_within_line : taken_from (0x61 ∷ 10 ∷ 0x62 ∷ 10 ∷ []) false 1 ≡ record { records = []; stop = Some InputTooLong }
unfolding taken_from
taken_within_line = refl

taken_of_nothing : taken_from [] false 0 ≡ record { records = []; stop = None }
unfolding taken_from
taken_of_nothing = refl

-- nothing is taken from an input that goes past a limit of 0
taken_past_0 : taken_from (10 ∷ []) false 0 ≡ record { records = []; stop = Some InputTooLong }
unfolding taken_from
taken_past_0 = refl

-- hexadecimal: `00fF` and an empty line
taken_hex : taken_from (codes "00fF" ++ 10 ∷ 10 ∷ []) true 100 ≡ record { records = (0x00 ∷ 0xff ∷ []) ∷ [] ∷ []; stop = None }
unfolding taken_from decode_pairs
taken_hex = refl

-- `zz` is not hexadecimal, nor are an odd number of digits, a digit alone, and a byte 13 or a space behind digits
taken_hex_letters : taken_from (codes "0a" ++ 10 ∷ codes "zz" ++ 10 ∷ codes "0b" ++ 10 ∷ []) true 100 ≡ record { records = (0x0a ∷ []) ∷ []; stop = Some BadLine }
unfolding taken_from decode_pairs
taken_hex_letters = refl

taken_hex_odd : taken_from (codes "00f" ++ 10 ∷ []) true 100 ≡ record { records = []; stop = Some BadLine }
unfolding taken_from decode_pairs
taken_hex_odd = refl

taken_hex_digit : taken_from (codes "0A" ++ 10 ∷ codes "1" ++ 10 ∷ []) true 100 ≡ record { records = (0x0a ∷ []) ∷ []; stop = Some BadLine }
unfolding taken_from decode_pairs
taken_hex_digit = refl

taken_hex_return : taken_from (codes "0a" ++ 13 ∷ 10 ∷ []) true 100 ≡ record { records = []; stop = Some BadLine }
unfolding taken_from decode_pairs
taken_hex_return = refl

taken_hex_space : taken_from (codes "0a 0" ++ 10 ∷ []) true 100 ≡ record { records = []; stop = Some BadLine }
unfolding taken_from decode_pairs
taken_hex_space = refl

-- a running line is not judged as hexadecimal
taken_hex_running : taken_from (codes "zz" ++ 10 ∷ []) true 2 ≡ record { records = []; stop = Some InputTooLong }
unfolding taken_from decode_pairs
taken_hex_running = refl

-- but a bad line that ended comes before the limit
taken_hex_bad_first : taken_from (codes "zz" ++ 10 ∷ codes "0a" ++ 10 ∷ []) true 4 ≡ record { records = []; stop = Some BadLine }
unfolding taken_from decode_pairs
taken_hex_bad_first = refl

-- a line may have 2 ^ 24 bytes and no more, and in the hexadecimal form 2 ^ 25, as the line that runs at the limit
line_of_greatest_length : (line : List ℕ) → length line ≡ 16777216 → record_of_line false line ≡ Ok line
line_of_greatest_length line h = ap (λ n. if nat_lt (line_limit false) n then Err TooLong else Ok line) h

line_too_long : (line : List ℕ) → length line ≡ 16777217 → record_of_line false line ≡ Err TooLong
line_too_long line h = ap (λ n. if nat_lt (line_limit false) n then Err TooLong else Ok line) h

hex_line_of_greatest_length : (line : List ℕ) → length line ≡ 33554432 → record_of_line true line ≡ or_bad_line (decode_of line)
hex_line_of_greatest_length line h = ap (λ n. if nat_lt (line_limit true) n then Err TooLong else or_bad_line (decode_of line)) h

-- too long comes before not hexadecimal
hex_line_too_long : (line : List ℕ) → length line ≡ 33554433 → record_of_line true line ≡ Err TooLong
hex_line_too_long line h = ap (λ n. if nat_lt (line_limit true) n then Err TooLong else or_bad_line (decode_of line)) h

stop_at_greatest_length : (line : List ℕ) → length line ≡ 16777216 → stop_past_limit false line ≡ InputTooLong
stop_at_greatest_length line h = ap (λ n. if nat_lt (line_limit false) n then TooLong else InputTooLong) h

stop_past_greatest_length : (line : List ℕ) → length line ≡ 16777217 → stop_past_limit false line ≡ TooLong
stop_past_greatest_length line h = ap (λ n. if nat_lt (line_limit false) n then TooLong else InputTooLong) h

hex_stop_at_greatest_length : (line : List ℕ) → length line ≡ 33554432 → stop_past_limit true line ≡ InputTooLong
hex_stop_at_greatest_length line h = ap (λ n. if nat_lt (line_limit true) n then TooLong else InputTooLong) h

hex_stop_past_greatest_length : (line : List ℕ) → length line ≡ 33554433 → stop_past_limit true line ≡ TooLong
hex_stop_past_greatest_length line h = ap (λ n. if nat_lt (line_limit true) n then TooLong else InputTooLong) h

-- the last line's end is added where it lacks one
end_of_nothing : with_last_end [] ≡ []
end_of_nothing = refl

end_added : with_last_end (codes "a\nb") ≡ codes "a\nb\n"
end_added = refl

end_kept : with_last_end (codes "a\nb\n") ≡ codes "a\nb\n"
end_kept = refl

end_of_empty_line : with_last_end (codes "\n") ≡ codes "\n"
end_of_empty_line = refl

end_behind_return : with_last_end (0x61 ∷ 13 ∷ []) ≡ 0x61 ∷ 13 ∷ 10 ∷ []
end_behind_return = refl
