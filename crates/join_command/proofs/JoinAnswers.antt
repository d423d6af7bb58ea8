-- Files have one answer of `join`.
use Rattle.std.proofs.Common.{◌≡◌, ◌≢◌, ◌∙◌, ℕ, ◌⊎◌, true, List, [], ◌++◌, length, map, take, refl, sym, ap, inl, inr, arith}
use Rattle.std.specs.List.{AllByRecursion}
use Rattle.std.proofs.lemmas.Bool.{cases_lt}
use Rattle.record_values.specs.Bytes.{AreBytes}
use Rattle.record_io.specs.Puts.{Made, Out, Notes, puts_to}
use Rattle.chunk_header.specs.Chunks.{ChunkValue}
use Rattle.meta_chunk.specs.Files.{totals_of}
use Rattle.chunk_reader.specs.declared.reasons.Fault.{Fault}
use Rattle.chunk_reader.proofs.WellFormedFiles.{well_formed_is_one}
use Rattle.record_join.specs.Joined.{joined, joined_at_most}
use Rattle.chunk_reader.proofs.ManyFiles.{files_judged, first_is_one, first_or_none}
use Rattle.record_join.proofs.JoinedFiles.{joined-no_fault}
use Rattle.command_frame.specs.Answers.{Answer, noted}
use Rattle.command_frame.specs.FileAnswers.{limit_text, most_file_bytes, report}
use Rattle.show_command.specs.Readings.{refused_file_text}
use Rattle.join_command.specs.JoinCommand.{AreJoinedIn, AreJoinedToFaultIn, IsJoinAnswer}
use Rattle.command_frame.specs.declared.status.Status.TheVariants as status

-- the answer to files without fault
abbrev pub whole_answer : List (List ℕ) → List ChunkValue → Answer
whole_answer files chunks =
    record { puts = puts_to Made (joined files) ++ puts_to Out (report (totals_of chunks)); status = status.Ok }

-- and to files of which one is the first with a fault
abbrev pub refused_answer : List (List ℕ) → ℕ → Fault → Answer
refused_answer files index fault =
    record { puts = puts_to Made (joined (take index files)) ++ puts_to Notes (refused_file_text index fault); status = status.Refused }

-- files of bytes have an answer
pub join_exists : (files : List (List ℕ)) → files ≢ [] → AllByRecursion AreBytes files → (answer : Answer) × IsJoinAnswer files answer
join_exists files some bytes = elim (cases_lt most_file_bytes (joined_at_most (map length files))) [
  | inl long ↦ (noted status.Limit limit_text, inl ((λ reach. omega (arith, long, reach)), refl))
  | inr reach ↦ elim (files_judged true files bytes) [
    | inl none ↦
        let whole = joined-no_fault files some none in
        (whole_answer files whole.0, inr (reach, inl (record { without_fault = none; chunks = whole.0; well_formed = whole.1; is = refl })))
    | inr (index, fault, first) ↦
        (refused_answer files index fault, inr (reach, inr (record { index = index; fault = fault; first = first; is = refl })))
  ]
]

judged-one : (files : List (List ℕ)) (a b : Answer) → AreJoinedIn files a ⊎ AreJoinedToFaultIn files a → AreJoinedIn files b ⊎ AreJoinedToFaultIn files b → a ≡ b
judged-one files a b (inl h) (inl g) =
    h.is ∙ ap (λ (ks : List ChunkValue). whole_answer files ks) (well_formed_is_one h.chunks g.chunks (joined files) h.well_formed g.well_formed) ∙ sym g.is
judged-one files a b (inl h) (inr g) = absurd (first_or_none true files g.index g.fault g.first h.without_fault)
judged-one files a b (inr h) (inl g) = absurd (first_or_none true files h.index h.fault h.first g.without_fault)
judged-one files a b (inr h) (inr g) =
    let same = first_is_one true files h.index g.index h.fault g.fault h.first g.first in
    h.is ∙ ap (λ (n : ℕ). refused_answer files n h.fault) same.0 ∙ ap (λ (f : Fault). refused_answer files g.index f) same.1 ∙ sym g.is

-- and one at most
pub join_is_one : (files : List (List ℕ)) (a b : Answer) → IsJoinAnswer files a → IsJoinAnswer files b → a ≡ b
join_is_one files a b (inl (long, is)) (inl (too, also)) = is ∙ sym also
join_is_one files a b (inl (long, is)) (inr (reach, g)) = absurd (long reach)
join_is_one files a b (inr (reach, h)) (inl (long, also)) = absurd (long reach)
join_is_one files a b (inr (reach, h)) (inr (also, g)) = judged-one files a b h g
