-- Files of bytes have an answer of `collect`.
use Rattle.std.proofs.Common.{ℕ, ◌⊎◌, false, List, [], ◌∷◌, length, map, refl, inl, inr}
use Rattle.std.specs.List.{AllByRecursion, flat_map, sum_by}
use Rattle.std.proofs.lemmas.Bool.{cases_lt}
use Rattle.record_values.specs.Bytes.{AreBytes}
use Rattle.chunk_header.specs.Chunks.{ChunkValue}
use Rattle.meta_chunk.specs.Files.{AreRecordsOf, IsReadable}
use Rattle.meta_chunk.proofs.Held.{HoldEach-well_formed}
use Rattle.chunk_reader.specs.Faults.{HasNoFault, HaveNoFault}
use Rattle.chunk_reader.proofs.WellFormedFiles.{well_formed_of_plain}
use Rattle.chunk_reader.proofs.ManyFiles.{files_judged}
use Rattle.simple_chunk.specs.Costs.{cost_of}
use Rattle.record_collect.specs.Gatherings.{AreGatheredOf, AreRecordsOfEach, IsTooMuch, GatheredValue}
use Rattle.record_collect.specs.Limits.{limit}
use Rattle.command_frame.specs.Answers.{Answer, noted}
use Rattle.command_frame.specs.FileAnswers.{limit_text, most_file_bytes}
use Rattle.command_frame.specs.declared.status.Status.TheVariants as status
use Rattle.show_command.specs.Readings.{refused_file_text}
use Rattle.command_frame.proofs.AskedFiles.{within_or_past}
use Rattle.join_command.specs.CollectCommand.{IsCollectAnswer, collected_answer, too_much_text}
use Rattle.join_command.specs.CollectingEnds.{AreEachInReach}
use Rattle.record_collect.specs.Batches.{in_turn}
use Rattle.record_collect.proofs.Weaves.{too_long_or_short}
use Rattle.join_command.proofs.InTurnWeaves.{in_turn-bounds, in_turn-woven, numbers_from}

-- the answer to files whose records are gathered so
pub is_whole : (files : List (List ℕ)) (made : GatheredValue) → AreEachInReach (map length files) → AreGatheredOf files made
    → IsCollectAnswer files (collected_answer made)
is_whole files made reach gathered = inr (reach, inl (record { made = made; gathered = gathered; is = refl }))

-- the records of a file without fault
records_of_file : (file : List ℕ) → HasNoFault false file → (records : List (List ℕ)) × ((ks : List ChunkValue) × IsReadable ks file × AreRecordsOf ks records)
records_of_file file (ks, is) =
    let held = HoldEach-well_formed ks (well_formed_of_plain ks file (length file) is.1).each in
    (flat_map (λ list. list) held.0, (ks, is, (held.0, held.1, refl)))

pub records_of_files : (files : List (List ℕ)) → HaveNoFault false files → (lists : List (List (List ℕ))) × AreRecordsOfEach files lists
records_of_files [] none = ([], tt)
records_of_files (file ∷ files) none =
    let first = records_of_file file none.0 in
    let others = records_of_files files none.1 in
    (first.0 ∷ others.0, (first.1, others.1))

-- records of files are gathered, or too many
pub gathered_or_too_much : (files : List (List ℕ)) (lists : List (List (List ℕ))) → AreRecordsOfEach files lists
    → ((made : GatheredValue) × AreGatheredOf files made) ⊎ IsTooMuch files
gathered_or_too_much files lists are = elim (too_long_or_short lists) [
  | inl long ↦ inr (record { lists = lists; are = are; over = inl long })
  | inr short ↦ elim (cases_lt limit (sum_by cost_of lists)) [
    | inl over ↦ inr (record { lists = lists; are = are; over = inr over })
    | inr most ↦ inl (
      record { records = in_turn lists; numbers = numbers_from 0 lists },
      record { lists = lists; are = are; woven = in_turn-woven lists; bounds = in_turn-bounds lists short most },
    )
  ]
]

-- so there is an answer
pub answer_in_reach : (files : List (List ℕ)) → AllByRecursion AreBytes files → AreEachInReach (map length files)
    → (answer : Answer) × IsCollectAnswer files answer
answer_in_reach files bytes reach = elim (files_judged false files bytes) [
  | inl none ↦ let each = records_of_files files none in elim (gathered_or_too_much files each.0 each.1) [
    | inl (made, gathered) ↦ (collected_answer made, is_whole files made reach gathered)
    | inr much ↦ (noted status.Limit too_much_text, inr (reach, inr (inr (much, refl))))
  ]
  | inr (index, fault, first) ↦
      let answer : Answer = noted status.Refused (refused_file_text index fault) in
      (answer, inr (reach, inr (inl (record { index = index; fault = fault; first = first; is = refl }))))
]

pub collect_exists : (files : List (List ℕ)) → AllByRecursion AreBytes files → (answer : Answer) × IsCollectAnswer files answer
collect_exists files bytes = elim (within_or_past most_file_bytes (map length files)) [
  | inl long ↦ (noted status.Limit limit_text, inl (long, refl))
  | inr reach ↦ answer_in_reach files bytes reach
]
