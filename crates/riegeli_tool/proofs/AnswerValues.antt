-- Commands and their answers, judged by hand, computed from the definitions.
use Rattle.std.proofs.Common.{◌≡◌, false, Some, None, [], ◌∷◌, ◌++◌, length, take, drop, codes, refl}
use Rattle.std.specs.Fmt.{digits}
use Rattle.record_io.specs.Puts.{Made, Out, Notes, puts_to, bytes_to}
use Rattle.record_group.specs.declared.pad.Pad.TheVariants.{No, Both}
use Rattle.record_group.specs.Groups.{file_of}
use Rattle.record_writer.specs.declared.feed.Stop.TheVariants.{TooLong, InputTooLong, BadLine}
use Rattle.riegeli_tool.specs.declared.command.Command.TheVariants.{Write}
use Rattle.write_command.specs.declared.write_words.WriteWords.{WriteWords}
use Rattle.command_frame.specs.Lines.{lines}
use Rattle.write_command.specs.Input.{taken_from}
use Rattle.riegeli_tool.specs.CommandWords.{line_words_of}
use Rattle.riegeli_tool.specs.Commands.{command_of, accepted, names_of}
use Rattle.riegeli_tool.specs.CommandAnswers.{usage_text, usage}
use Rattle.write_command.specs.WriteCommand.{answer_to}
use Rattle.riegeli_tool.specs.AnswersTo.{IsAnswerTo}
use Rattle.command_frame.specs.Unseen.{reads}
use Rattle.command_frame.specs.RunLeaves.{first_lines}
use Rattle.command_frame.specs.declared.status.Status.TheVariants as status

-- what the words `write F` say
abbrev plain : WriteWords
plain = record { options = record { size = 1048576; workers = 1; every = None; pad = No }; hex = false; file = 1 }

-- the one command of now, where no file is handed in, and words that are none
write_file : accepted (codes "write" ∷ codes "F" ∷ []) 0 ≡ Some (Write plain)
unfolding line_words_of
write_file = refl

write_of_a_file : accepted (codes "write" ∷ codes "F" ∷ []) 1 ≡ None
unfolding line_words_of
write_of_a_file = refl

no_words : command_of [] ≡ None
no_words = refl

write_alone : command_of (codes "write" ∷ []) ≡ None
unfolding line_words_of
write_alone = refl

file_alone : command_of (codes "F" ∷ []) ≡ None
file_alone = refl

write_capital : command_of (codes "Write" ∷ codes "F" ∷ []) ≡ None
write_capital = refl

write_longer : command_of (codes "writes" ∷ codes "F" ∷ []) ≡ None
write_longer = refl

write_shorter : command_of (codes "writ" ∷ codes "F" ∷ []) ≡ None
write_shorter = refl

write_behind : command_of (codes "F" ∷ codes "write" ∷ []) ≡ None
write_behind = refl

-- the file that is made is named by its place
named_behind_options : names_of (command_of (codes "write" ∷ codes "--pad=both" ∷ codes "--every=2" ∷ codes "F" ∷ [])) ≡ record { first = 0; count = 0; made = Some 3; times = 1; grown = None }
unfolding line_words_of
named_behind_options = refl

-- the usage text: eleven lines of 7, 80, 55, 12, 40, 26, 59, 16, 22, 89 and 19 bytes
usage_length : length usage_text ≡ 425
usage_length = refl

usage_begin : take 7 usage_text ≡ codes "usage:\n"
usage_begin = refl

usage_of_write : take 80 (drop 7 usage_text) ≡ codes "write [--chunk=N] [--every=N] [--workers=N] [--pad=start|end|both] [--hex] FILE\n"
usage_of_write = refl

usage_of_ranges : take 22 (drop 295 usage_text) ≡ codes "ranges --parts=N FILE\n"
usage_of_ranges = refl

usage_end : drop 317 usage_text ≡ codes "append [--chunk=N] [--every=N] [--workers=N] [--pad=start|end|both] [--hex] [--cut] FILE\ncollect FROM... TO\n"
usage_end = refl

usage_lines : length (lines usage_text) ≡ 11
usage_lines = refl

-- words that are no command are answered by that text, whatever is handed in
answer_of_no_words : IsAnswerTo (accepted [] 0) (reads (0x61 ∷ []) []) (record { puts = puts_to Notes usage_text; status = status.Usage })
answer_of_no_words = refl

answer_with_a_file : IsAnswerTo (accepted (codes "write" ∷ codes "F" ∷ []) 1) (reads (0x61 ∷ []) ([] ∷ [])) usage
unfolding line_words_of
answer_with_a_file = refl

answer_of_every_zero : IsAnswerTo (accepted (codes "write" ∷ codes "--every=0" ∷ codes "F" ∷ []) 0) (reads (0x61 ∷ []) []) usage
unfolding line_words_of
answer_of_every_zero = refl

answer_of_pad_no : IsAnswerTo (accepted (codes "write" ∷ codes "--pad=no" ∷ codes "F" ∷ []) 0) (reads (0x61 ∷ []) []) usage
unfolding line_words_of
answer_of_pad_no = refl

-- `write F` makes the file of the lines and says nothing
answer_of_nothing : IsAnswerTo (accepted (codes "write" ∷ codes "F" ∷ []) 0) (reads [] []) (record { puts = puts_to Made (file_of [] 1048576 None No) ++ puts_to Notes []; status = status.Ok })
unfolding line_words_of taken_from
answer_of_nothing = refl

answer_of_three : IsAnswerTo (accepted (codes "write" ∷ codes "F" ∷ []) 0) (reads (0x61 ∷ 10 ∷ 0x62 ∷ 0x63 ∷ 10 ∷ 10 ∷ []) [])
    (record { puts = puts_to Made (file_of ((0x61 ∷ []) ∷ (0x62 ∷ 0x63 ∷ []) ∷ [] ∷ []) 1048576 None No) ++ puts_to Notes []; status = status.Ok })
unfolding line_words_of taken_from
answer_of_three = refl

-- with the chunk size, the number of records and the padding that are named
answer_of_chunk : IsAnswerTo (accepted (codes "write" ∷ codes "--chunk=20" ∷ codes "F" ∷ []) 0) (reads (0x61 ∷ 10 ∷ 0x62 ∷ 10 ∷ 0x63 ∷ []) [])
    (record { puts = puts_to Made (file_of ((0x61 ∷ []) ∷ (0x62 ∷ []) ∷ (0x63 ∷ []) ∷ []) 20 None No) ++ puts_to Notes []; status = status.Ok })
unfolding line_words_of taken_from
answer_of_chunk = refl

answer_of_all_options : IsAnswerTo (accepted (codes "write" ∷ codes "--pad=both" ∷ codes "F" ∷ codes "--every=2" ∷ codes "--chunk=1" ∷ []) 0) (reads (0x61 ∷ 10 ∷ []) [])
    (record { puts = puts_to Made (file_of ((0x61 ∷ []) ∷ []) 1 (Some 2) Both) ++ puts_to Notes []; status = status.Ok })
unfolding line_words_of taken_from
answer_of_all_options = refl

-- what is said of a stop behind two records, and its status; the file is that of these records
too_long_a_line : answer_to plain (record { records = (0x61 ∷ []) ∷ [] ∷ []; stop = Some TooLong })
    ≡ record { puts = puts_to Made (file_of ((0x61 ∷ []) ∷ [] ∷ []) 1048576 None No) ++ puts_to Notes (codes "limit record 2\n"); status = status.Limit }
unfolding digits
too_long_a_line = refl

too_long_an_input : answer_to plain (record { records = (0x61 ∷ []) ∷ [] ∷ []; stop = Some InputTooLong })
    ≡ record { puts = puts_to Made (file_of ((0x61 ∷ []) ∷ [] ∷ []) 1048576 None No) ++ puts_to Notes (codes "limit input\n"); status = status.Limit }
too_long_an_input = refl

bad_line : answer_to plain (record { records = (0x61 ∷ []) ∷ [] ∷ []; stop = Some BadLine })
    ≡ record { puts = puts_to Made (file_of ((0x61 ∷ []) ∷ [] ∷ []) 1048576 None No) ++ puts_to Notes (codes "bad line 2\n"); status = status.BadLine }
unfolding digits
bad_line = refl

-- also behind none
first_line_too_long : answer_to plain (record { records = []; stop = Some TooLong })
    ≡ record { puts = puts_to Made (file_of [] 1048576 None No) ++ puts_to Notes (codes "limit record 0\n"); status = status.Limit }
unfolding digits
first_line_too_long = refl

-- the first lines of two
no_line : first_lines 0 (codes "a\nbc\n") ≡ []
no_line = refl

one_line : first_lines 1 (codes "a\nbc\n") ≡ codes "a\n"
one_line = refl

all_lines : first_lines 9 (codes "a\nbc\n") ≡ codes "a\nbc\n"
all_lines = refl

-- what each stream takes of bytes that go to two in turn
of_out : bytes_to Out (puts_to Out (codes "a\n") ++ puts_to Notes (codes "b\n") ++ puts_to Out (codes "c\n")) ≡ codes "a\nc\n"
of_out = refl

of_notes : bytes_to Notes (puts_to Out (codes "a\n") ++ puts_to Notes (codes "b\n") ++ puts_to Out (codes "c\n")) ≡ codes "b\n"
of_notes = refl

of_made : bytes_to Made (puts_to Out (codes "a\n") ++ puts_to Notes (codes "b\n") ++ puts_to Out (codes "c\n")) ≡ []
of_made = refl
