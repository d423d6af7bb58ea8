-- What each stream takes of an answer.
use Rattle.std.proofs.Common.{◌≡◌, ◌∙◌, ℕ, Option, Some, None, List, [], ◌∷◌, ◌++◌, length, take, refl, ap, append-nil}
use Rattle.std.specs.List.{flat_map}
use Rattle.record_io.specs.Puts.{Put, Made, Out, Notes, bytes_to}
use Rattle.record_io.proofs.Puts.{bytes_to-append, bytes_to-own, bytes_to-other}
use Rattle.chunk_header.specs.Chunks.{ChunkValue}
use Rattle.meta_chunk.specs.Files.{totals_of, signature}
use Rattle.damage_skip.specs.Pieces.{Piece}
use Rattle.damage_skip.specs.declared.regions.Region.{Region}
use Rattle.record_writer.specs.Feeds.{Rest}
use Rattle.record_writer.specs.Written.{file_under}
use Rattle.repair_copy.specs.RepairPuts.{chunks_in, repair_puts}
use Rattle.repair_copy.specs.RelaidFiles.{relaid}
use Rattle.repair_copy.proofs.RepairPuts.{made_in-repair, out_in-repair, notes_in-repair}
use Rattle.riegeli_tool.specs.declared.repair_words.RepairWords.{RepairWords}
use Rattle.sample_command.specs.declared.sample_words.SampleWords.{SampleWords}
use Rattle.sample_command.specs.SampleCommand.{sample_file, sample_summary, sample_answer}
use Rattle.show_command.specs.declared.show_words.ShowWords.{ShowWords}
use Rattle.write_command.specs.declared.write_words.WriteWords.{WriteWords}
use Rattle.command_frame.specs.Answers.{Answer}
use Rattle.show_command.specs.Readings.{record_line}
use Rattle.command_frame.specs.FileAnswers.{report}
use Rattle.write_command.specs.WriteCommand.{stop_text, answer_to}
use Rattle.show_command.specs.ShowCommand.{IsShown}
use Rattle.damage_skip.specs.Bounds.{walked, refused_in}
use Rattle.damage_skip.specs.Regions.{regions_in, skipped_text, stopped_text, walk_text}
use Rattle.riegeli_tool.specs.RepairCommand.{end_puts, IsRepaired}
use Rattle.record_join.specs.Joined.{joined}
use Rattle.show_command.specs.Readings.{refused_file_text}
use Rattle.join_command.specs.JoinCommand.{AreJoinedIn, AreJoinedToFaultIn}
use Rattle.join_command.specs.CollectCommand.{AreCollectedIn, collected_file, collected_lines}
use Rattle.command_frame.proofs.TwoStreams.{bytes_to-first, bytes_to-second, bytes_to-neither}

-- of the answer of `write`
pub written_made : (words : WriteWords) (rest : Rest) → bytes_to Made (answer_to words rest).puts ≡ file_under words.options rest.records
written_made words rest = bytes_to-first Made Notes (file_under words.options rest.records) (stop_text (length rest.records) rest.stop) refl

pub written-streams : (words : WriteWords) (rest : Rest)
    → (bytes_to Made (answer_to words rest).puts ≡ file_under words.options rest.records)
    × (bytes_to Out (answer_to words rest).puts ≡ [])
    × (bytes_to Notes (answer_to words rest).puts ≡ stop_text (length rest.records) rest.stop)
written-streams words rest =
    let file : List ℕ = file_under words.options rest.records in
    let text : List ℕ = stop_text (length rest.records) rest.stop in
    (written_made words rest, bytes_to-neither Out Made Notes file text refl refl, bytes_to-second Made Notes file text refl)

-- of that of `sample`
pub sampled-streams : (words : SampleWords)
    → (bytes_to Made (sample_answer words).puts ≡ sample_file words)
    × (bytes_to Out (sample_answer words).puts ≡ sample_summary words)
    × (bytes_to Notes (sample_answer words).puts ≡ [])
sampled-streams words =
    let file : List ℕ = sample_file words in
    let text : List ℕ = sample_summary words in
    (bytes_to-first Made Out file text refl, bytes_to-second Made Out file text refl, bytes_to-neither Notes Made Out file text refl refl)

-- of that of `show`
pub shown-streams : (words : ShowWords) (file : List ℕ) (answer : Answer) (is : IsShown words file answer)
    → (bytes_to Made answer.puts ≡ [])
    × (bytes_to Out answer.puts ≡ flat_map (record_line words.form) is.placed)
    × (bytes_to Notes answer.puts ≡ is.said)
shown-streams words file answer is =
    let lines : List ℕ = flat_map (record_line words.form) is.placed in (
      ap (bytes_to Made) is.puts ∙ bytes_to-neither Made Out Notes lines is.said refl refl,
      ap (bytes_to Out) is.puts ∙ bytes_to-first Out Notes lines is.said refl,
      ap (bytes_to Notes) is.puts ∙ bytes_to-second Out Notes lines is.said refl,
    )

-- of what is put last
end_made : (refused : Option Region) (ks : List ChunkValue) → bytes_to Made (end_puts refused ks) ≡ []
end_made None ks = bytes_to-other Made Out (report (totals_of (signature ∷ ks))) refl
end_made (Some region) ks = bytes_to-other Made Notes (stopped_text (Some region)) refl

end_notes : (refused : Option Region) (ks : List ChunkValue) → bytes_to Notes (end_puts refused ks) ≡ stopped_text refused
end_notes None ks = bytes_to-other Notes Out (report (totals_of (signature ∷ ks))) refl
end_notes (Some region) ks = bytes_to-own Notes (stopped_text (Some region))

-- and of the answer of `repair`
pub repaired-streams : (words : RepairWords) (file : List ℕ) (answer : Answer) (is : IsRepaired words file answer)
    → (bytes_to Made answer.puts ≡ relaid (walked words.most is.events))
    × (bytes_to Out answer.puts ≡ bytes_to Out (end_puts (refused_in words.most is.events) (chunks_in (walked words.most is.events))))
    × (bytes_to Notes answer.puts ≡ walk_text (regions_in (walked words.most is.events)) (refused_in words.most is.events))
repaired-streams words file answer is =
    let es : List Piece = walked words.most is.events in
    let last : List Put = end_puts (refused_in words.most is.events) (chunks_in es) in (
      ap (bytes_to Made) is.puts
          ∙ bytes_to-append Made (repair_puts es) last
          ∙ ap (λ (xs : List ℕ). bytes_to Made (repair_puts es) ++ xs) (end_made (refused_in words.most is.events) (chunks_in es))
          ∙ append-nil (bytes_to Made (repair_puts es))
          ∙ made_in-repair es,
      ap (bytes_to Out) is.puts
          ∙ bytes_to-append Out (repair_puts es) last
          ∙ ap (λ (xs : List ℕ). xs ++ bytes_to Out last) (out_in-repair es),
      ap (bytes_to Notes) is.puts
          ∙ bytes_to-append Notes (repair_puts es) last
          ∙ ap (λ (xs : List ℕ). xs ++ bytes_to Notes last) (notes_in-repair es)
          ∙ ap (λ (xs : List ℕ). skipped_text (regions_in es) ++ xs) (end_notes (refused_in words.most is.events) (chunks_in es)),
    )

-- and of that of `join`, where no file has a fault
pub joined-streams : (files : List (List ℕ)) (answer : Answer) (is : AreJoinedIn files answer)
    → (bytes_to Made answer.puts ≡ joined files)
    × (bytes_to Out answer.puts ≡ report (totals_of is.chunks))
    × (bytes_to Notes answer.puts ≡ [])
joined-streams files answer is =
    let text : List ℕ = report (totals_of is.chunks) in (
      ap (λ (a : Answer). bytes_to Made a.puts) is.is ∙ bytes_to-first Made Out (joined files) text refl,
      ap (λ (a : Answer). bytes_to Out a.puts) is.is ∙ bytes_to-second Made Out (joined files) text refl,
      ap (λ (a : Answer). bytes_to Notes a.puts) is.is ∙ bytes_to-neither Notes Made Out (joined files) text refl refl,
    )

-- or one has
pub refused-streams : (files : List (List ℕ)) (answer : Answer) (is : AreJoinedToFaultIn files answer)
    → (bytes_to Made answer.puts ≡ joined (take is.index files))
    × (bytes_to Out answer.puts ≡ [])
    × (bytes_to Notes answer.puts ≡ refused_file_text is.index is.fault)
refused-streams files answer is =
    let front : List ℕ = joined (take is.index files) in
    let text : List ℕ = refused_file_text is.index is.fault in (
      ap (λ (a : Answer). bytes_to Made a.puts) is.is ∙ bytes_to-first Made Notes front text refl,
      ap (λ (a : Answer). bytes_to Out a.puts) is.is ∙ bytes_to-neither Out Made Notes front text refl refl,
      ap (λ (a : Answer). bytes_to Notes a.puts) is.is ∙ bytes_to-second Made Notes front text refl,
    )

-- and of that of `collect`
pub collected-streams : (files : List (List ℕ)) (answer : Answer) (is : AreCollectedIn files answer)
    → (bytes_to Made answer.puts ≡ collected_file is.made.records)
    × (bytes_to Out answer.puts ≡ collected_lines is.made)
    × (bytes_to Notes answer.puts ≡ [])
collected-streams files answer is =
    let file : List ℕ = collected_file is.made.records in
    let text : List ℕ = collected_lines is.made in (
      ap (λ (a : Answer). bytes_to Made a.puts) is.is ∙ bytes_to-first Made Out file text refl,
      ap (λ (a : Answer). bytes_to Out a.puts) is.is ∙ bytes_to-second Made Out file text refl,
      ap (λ (a : Answer). bytes_to Notes a.puts) is.is ∙ bytes_to-neither Notes Made Out file text refl refl,
    )
