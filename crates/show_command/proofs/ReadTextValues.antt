-- What `show` and `verify` print and say, counted by hand, computed from the definitions.
use Rattle.std.proofs.Common.{◌≡◌, true, [], ◌∷◌, codes, refl}
use Rattle.std.specs.Fmt.{digits}
use Rattle.hex.specs.Hex.{encode_with}
use Rattle.show_command.specs.declared.show_words.RecordForm.{RecordForm}
use Rattle.show_command.specs.Readings.{bare, refused_file_text, refused_text, record_line}
use Rattle.command_frame.specs.FileAnswers.{report, limit_text, most_file_bytes}
use Rattle.chunk_reader.specs.declared.reasons.Why.TheVariants as why

-- a fault, by its place and reason
refused_no_signature : refused_text (record { at = 0; why = why.NoSignature }) ≡ codes "refused 0 NoSignature\n"
unfolding digits
refused_no_signature = refl

refused_short : refused_text (record { at = 64; why = why.Short }) ≡ codes "refused 64 Short\n"
unfolding digits
refused_short = refl

refused_header_hash : refused_text (record { at = 108; why = why.HeaderHash }) ≡ codes "refused 108 HeaderHash\n"
unfolding digits
refused_header_hash = refl

refused_truncated : refused_text (record { at = 90223; why = why.Truncated }) ≡ codes "refused 90223 Truncated\n"
unfolding digits
refused_truncated = refl

refused_too_large : refused_text (record { at = 64; why = why.TooLarge }) ≡ codes "refused 64 TooLarge\n"
unfolding digits
refused_too_large = refl

refused_block_header : refused_text (record { at = 65536; why = why.BlockHeader }) ≡ codes "refused 65536 BlockHeader\n"
unfolding digits
refused_block_header = refl

refused_data_hash : refused_text (record { at = 108; why = why.DataHash }) ≡ codes "refused 108 DataHash\n"
unfolding digits
refused_data_hash = refl

refused_contents : refused_text (record { at = 64; why = why.Contents }) ≡ codes "refused 64 Contents\n"
unfolding digits
refused_contents = refl

refused_compressed : refused_text (record { at = 64; why = why.Compressed }) ≡ codes "refused 64 Compressed\n"
unfolding digits
refused_compressed = refl

refused_transposed : refused_text (record { at = 64; why = why.Transposed }) ≡ codes "refused 64 Transposed\n"
unfolding digits
refused_transposed = refl

refused_unknown_kind : refused_text (record { at = 64; why = why.UnknownKind }) ≡ codes "refused 64 UnknownKind\n"
unfolding digits
refused_unknown_kind = refl

refused_contradicted : refused_text (record { at = 30109; why = why.Contradicted }) ≡ codes "refused 30109 Contradicted\n"
unfolding digits
refused_contradicted = refl

-- a place of many digits
refused_far : refused_text (record { at = 1152921504606846975; why = why.Truncated }) ≡ codes "refused 1152921504606846975 Truncated\n"
unfolding digits
refused_far = refl

-- of one of several files, by its number too
second_refused : refused_file_text 1 (record { at = 108; why = why.HeaderHash }) ≡ codes "refused 1 108 HeaderHash\n"
unfolding digits
second_refused = refl

first_refused : refused_file_text 0 (record { at = 0; why = why.NoSignature }) ≡ codes "refused 0 0 NoSignature\n"
unfolding digits
first_refused = refl

-- a report
report_of_signature : report (record { chunks = 1; records = 0; bytes = 64; unread = 0 }) ≡ codes "chunks 1\nrecords 0\nbytes 64\nunread 0\n"
unfolding digits
report_of_signature = refl

report_of_unread : report (record { chunks = 2; records = 0; bytes = 65561; unread = 1 }) ≡ codes "chunks 2\nrecords 0\nbytes 65561\nunread 1\n"
unfolding digits
report_of_unread = refl

report_of_many : report (record { chunks = 12; records = 100000; bytes = 10104233; unread = 0 }) ≡ codes "chunks 12\nrecords 100000\nbytes 10104233\nunread 0\n"
unfolding digits
report_of_many = refl

-- records with their positions, in either form
abbrev with_positions : RecordForm
with_positions = record bare { positions = true }

abbrev digits_with_positions : RecordForm
digits_with_positions = record { positions = true; hex = true }

-- a record, with its position or without; an empty one keeps the space before it
bare_record : record_line bare (64, codes "a") ≡ codes "a\n"
unfolding digits
bare_record = refl

bare_empty_record : record_line bare (66, []) ≡ codes "\n"
unfolding digits
bare_empty_record = refl

placed_record : record_line with_positions (64, codes "a") ≡ codes "64 a\n"
unfolding digits
placed_record = refl

placed_record_of_two : record_line with_positions (65, codes "bc") ≡ codes "65 bc\n"
unfolding digits
placed_record_of_two = refl

placed_empty_record : record_line with_positions (66, []) ≡ codes "66 \n"
unfolding digits
placed_empty_record = refl

-- a record's bytes are printed as they are, an end of a line too
record_with_end : record_line with_positions (64, 10 ∷ 0xff ∷ []) ≡ 0x36 ∷ 0x34 ∷ 32 ∷ 10 ∷ 0xff ∷ 10 ∷ []
unfolding digits
record_with_end = refl

-- digits of its bytes, in lower case
record_of_digits : record_line (record bare { hex = true }) (64, 0x00 ∷ 0xaf ∷ 10 ∷ []) ≡ codes "00af0a\n"
unfolding digits encode_with
record_of_digits = refl

placed_digits : record_line digits_with_positions (65, codes "bc") ≡ codes "65 6263\n"
unfolding digits encode_with
placed_digits = refl

placed_no_digits : record_line digits_with_positions (66, []) ≡ codes "66 \n"
unfolding digits encode_with
placed_no_digits = refl

-- a file that is too long
limit_of_file : limit_text ≡ codes "limit file\n"
unfolding digits
limit_of_file = refl

most_of_file : most_file_bytes ≡ 1152921504606846976
unfolding digits
most_of_file = refl
