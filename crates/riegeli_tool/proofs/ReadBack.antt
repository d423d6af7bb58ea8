-- What was written reads back, and `show` prints it.
use Rattle.std.proofs.Common.{◌≡◌, ◌∙◌, ℕ, ◌^◌, ◌≤◌, Bool, false, List, [], ◌∷◌, ◌++◌, Option, Some, None, length, map, refl, ap, subst, inl, inr, arith, append-nil, sym}
use Rattle.std.specs.List.{AllByRecursion, flat_map}
use Rattle.std.specs.List.Sorted.{IsStrictlyIncreasing}
use Rattle.record_values.specs.Bytes.{AreBytes}
use Rattle.record_io.specs.Puts.{Made, Out, Notes, puts_to, bytes_to}
use Rattle.chunk_header.specs.Chunks.{ChunkValue}
use Rattle.meta_chunk.specs.Files.{IsPlain, IsChainOf, AreRecordsOf, ArePlaced}
use Rattle.meta_chunk.proofs.Held.{AreRecordsOf-one}
use Rattle.meta_chunk.proofs.Placed.{AreRecordsOf-placed, ArePlaced-rise}
use Rattle.chunk_reader.specs.Faults.{HasNoFault}
use Rattle.chunk_reader.proofs.FileFaults.{fault_or_none}
use Rattle.chunk_reader.proofs.WellFormedFiles.{chain_is_one}
use Rattle.record_group.specs.declared.pad.Pad.{Pad}
use Rattle.record_group.specs.Groups.{chunks_of, file_of}
use Rattle.record_group.specs.Records.{AreRecords}
use Rattle.record_group.proofs.RecordFiles.{IsReadable-file_of, AreRecordsOf-chunks_of}
use Rattle.record_writer.specs.declared.feed.Stop.{Stop}
use Rattle.record_writer.specs.declared.feed.Stop.TheVariants.{TooLong, InputTooLong, BadLine}
use Rattle.record_writer.specs.OptionLimits.{AreInLimits}
use Rattle.show_command.specs.declared.show_words.ShowWords.{ShowWords}
use Rattle.write_command.specs.declared.write_words.WriteWords.{WriteWords}
use Rattle.command_frame.specs.Answers.{Answer, line}
use Rattle.command_frame.specs.Lines.{lines}
use Rattle.write_command.specs.Input.{taken_from}
use Rattle.write_command.specs.LastLines.{with_last_end}
use Rattle.show_command.specs.declared.show_words.RecordForm.{RecordForm}
use Rattle.show_command.specs.Readings.{bare, record_line}
use Rattle.write_command.specs.WriteCommand.{stop_status, write_answer}
use Rattle.show_command.specs.ShowCommand.{IsShown}
use Rattle.riegeli_tool.proofs.AnswerStreams.{written_made}
use Rattle.record_ranges.proofs.RangesLines.{bare_lines}
use Rattle.show_command.proofs.OneReading.{EndsReading}
use Rattle.command_frame.proofs.OneAnswer.{same_answer}
use Rattle.write_command.proofs.TakenRecords.{taken_from-records, taken_from-all, lines-joined}
use Rattle.command_frame.specs.declared.status.Status.TheVariants as status

-- lists of few bytes can be written
pub are_records : (records : List (List ℕ)) → AllByRecursion AreBytes records → AllByRecursion (λ bytes. length bytes ≤ 2 ^ 24) records → AreRecords records
are_records [] bytes short = tt
are_records (first ∷ records) bytes short = (record { are_bytes = bytes.0; at_most = short.0 }, are_records records bytes.1 short.1)

-- the records of the chunks of a written file
pub written-records : (records : List (List ℕ)) (size : ℕ) (every : Option ℕ) (pad : Pad) → AreRecords records → size ≤ 2 ^ 24
    → (ks : List ChunkValue) → IsChainOf IsPlain ks (file_of records size every pad) (length (file_of records size every pad))
    → AreRecordsOf ks records
written-records records size every pad each small ks chain =
    let file : List ℕ = file_of records size every pad in
    let own : List ChunkValue = chunks_of records size every pad in
    let same : own ≡ ks = chain_is_one own ks file (length file) (IsReadable-file_of records size every pad each small).1 chain in
    subst (λ (xs : List ChunkValue). AreRecordsOf xs records) same (AreRecordsOf-chunks_of records size every pad each small)

-- and with their positions, which rise
pub written-placed : (records : List (List ℕ)) (size : ℕ) (every : Option ℕ) (pad : Pad) → AreRecords records → size ≤ 2 ^ 24
    → (ks : List ChunkValue) (placed : List (ℕ × List ℕ))
    → IsChainOf IsPlain ks (file_of records size every pad) (length (file_of records size every pad)) → ArePlaced ks placed
    → (map (λ p. p.1) placed ≡ records) × IsStrictlyIncreasing (map (λ p. p.0) placed)
written-placed records size every pad each small ks placed chain are = (
  AreRecordsOf-one ks (map (λ p. p.1) placed) records (AreRecordsOf-placed ks placed are)
      (written-records records size every pad each small ks chain),
  ArePlaced-rise ks placed are,
)

-- the file has no fault
pub written-faultless : (records : List (List ℕ)) (size : ℕ) (every : Option ℕ) (pad : Pad) → AreRecords records → size ≤ 2 ^ 24
    → HasNoFault false (file_of records size every pad)
written-faultless records size every pad each small =
    (chunks_of records size every pad, IsReadable-file_of records size every pad each small)

-- and nothing is said
faultless-end : (file said : List ℕ) (answer : Answer) → HasNoFault false file → EndsReading file said answer → (said ≡ []) × (answer.status ≡ status.Ok)
faultless-end file said answer none (inl (also, nothing, ended)) = (nothing, ended)
faultless-end file said answer none (inr (fault, faulty, text, ended)) = absurd (fault_or_none false file fault faulty none)

-- an answer that is printed alone
abbrev pub printed : List ℕ → Answer
printed out = record { puts = puts_to Out out; status = status.Ok }

-- so `show` prints what was written
shown-written : (words : ShowWords) (answer : Answer) (records : List (List ℕ)) (size : ℕ) (every : Option ℕ) (pad : Pad)
    → AreRecords records → size ≤ 2 ^ 24 → words.form ≡ bare → IsShown words (file_of records size every pad) answer
    → answer ≡ printed (flat_map line records)
shown-written words answer records size every pad each small is_bare h =
    let file : List ℕ = file_of records size every pad in
    let none = written-faultless records size every pad each small in
    let last : h.place ≡ length file = omega (arith, h.longest.chain.within, h.longest.greatest none.0 (length file) none.1.1) in
    let chain : IsChainOf IsPlain h.ks file (length file) = subst (λ (p : ℕ). IsChainOf IsPlain h.ks file p) last h.longest.chain in
    let taken = written-placed records size every pad each small h.ks h.placed chain h.records in
    let said = faultless-end file h.said answer none h.ended in
    let lines : flat_map (record_line words.form) h.placed ≡ flat_map line records =
    ap (λ (form : RecordForm). flat_map (record_line form) h.placed) is_bare
    ∙ bare_lines h.placed
    ∙ ap (flat_map line) taken.0 in
    same_answer answer (printed (flat_map line records))
    (h.puts
    ∙ ap (λ (t : List ℕ). puts_to Out (flat_map (record_line words.form) h.placed) ++ puts_to Notes t) said.0
    ∙ append-nil (puts_to Out (flat_map (record_line words.form) h.placed))
    ∙ ap (puts_to Out) lines)
    said.1

-- of what `write` made of an input that is the records that were taken
pub shown-taken : (write : WriteWords) (words : ShowWords) (input : List ℕ) (answer : Answer)
    → AreInLimits write.options → AreBytes input → words.form ≡ bare → IsShown words (bytes_to Made (write_answer write input).puts) answer
    → answer ≡ printed (flat_map line (taken_from input write.hex (2 ^ 40)).records)
shown-taken write words input answer limits bytes is_bare h =
    shown-written words answer (taken_from input write.hex (2 ^ 40)).records write.options.size write.options.every write.options.pad
    (taken_from-records input write.hex (2 ^ 40) bytes) limits.size is_bare
    (subst (λ (file : List ℕ). IsShown words file answer) (written_made write (taken_from input write.hex (2 ^ 40))) h)

-- and where nothing stopped it the input
no_stop : (stop : Option Stop) → stop_status stop ≡ status.Ok → stop ≡ None
no_stop None is = refl
no_stop (Some TooLong) is = absurd (cc is)
no_stop (Some InputTooLong) is = absurd (cc is)
no_stop (Some BadLine) is = absurd (cc is)

pub shown-input : (write : WriteWords) (words : ShowWords) (input : List ℕ) (answer : Answer)
    → AreInLimits write.options → AreBytes input → write.hex ≡ false → words.form ≡ bare → (write_answer write input).status ≡ status.Ok
    → IsShown words (bytes_to Made (write_answer write input).puts) answer
    → answer ≡ printed (with_last_end input)
shown-input write words input answer limits bytes plain is_bare whole h =
    let all : (taken_from input write.hex (2 ^ 40)).records ≡ lines input =
    ap (λ (hex : Bool). (taken_from input hex (2 ^ 40)).records) plain
    ∙ taken_from-all input (2 ^ 40) (ap (λ (hex : Bool). (taken_from input hex (2 ^ 40)).stop) (sym plain) ∙ no_stop (taken_from input write.hex (2 ^ 40)).stop whole) in
    shown-taken write words input answer limits bytes is_bare h
    ∙ ap (λ (records : List (List ℕ)). printed (flat_map line records)) all
    ∙ ap printed (lines-joined input)
