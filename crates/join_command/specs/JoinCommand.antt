-- Promise. What `join` makes, prints, says and ends with. Own.
use Rattle.std.specs.Prelude.{◌≡◌, ℕ, ◌+◌, ◌*◌, ◌≤◌, ◌⊎◌, true, Some, List, ◌++◌, length, map, slice_get, take}
use Rattle.record_io.specs.Puts.{Put, Made, Out, Notes, puts_to}
use Rattle.chunk_header.specs.Chunks.{ChunkValue}
use Rattle.meta_chunk.specs.Files.{totals_of, IsWellFormed}
use Rattle.chunk_reader.specs.Faults.{HaveNoFault, IsFirstFault}
use Rattle.chunk_reader.specs.declared.reasons.Fault.{Fault}
use Rattle.record_join.specs.Joined.{joined, joined_at_most}
use Rattle.command_frame.specs.Answers.{Answer, noted}
use Rattle.command_frame.specs.FileAnswers.{MayEndBySizes, limit_text, most_file_bytes, report}
use Rattle.command_frame.specs.Meanings.{Meaning, meaning, none_used}
use Rattle.show_command.specs.Readings.{refused_file_text}
use Rattle.command_frame.specs.declared.status.Status.TheVariants as status

-- files of these sizes have so few bytes one after another that they are joined
abbrev pub AreTogetherInReach : List ℕ → Type 0
AreTogetherInReach sizes = joined_at_most sizes ≤ most_file_bytes

-- none of the files has a fault: what they make, and the report of its chunks
pub record AreJoinedIn (files : List (List ℕ)) (answer : Answer) : Type 0 where
  pub without_fault : HaveNoFault true files
  pub chunks : List ChunkValue
  pub well_formed : IsWellFormed chunks (joined files)
  pub is : answer ≡ record { puts = puts_to Made (joined files) ++ puts_to Out (report (totals_of chunks)); status = status.Ok }

-- one is the first with a fault: what those before it make, and the line of that
pub record AreJoinedToFaultIn (files : List (List ℕ)) (answer : Answer) : Type 0 where
  pub index : ℕ
  pub fault : Fault
  pub first : IsFirstFault true files index fault
  pub is : answer ≡ record { puts = puts_to Made (joined (take index files)) ++ puts_to Notes (refused_file_text index fault); status = status.Refused }

-- the answer to files, by their sizes first
abbrev pub IsJoinAnswer : List (List ℕ) → Answer → Type 0
IsJoinAnswer files answer =
    (¬ AreTogetherInReach (map length files) × (answer ≡ noted status.Limit limit_text))
    ⊎ (AreTogetherInReach (map length files) × (AreJoinedIn files answer ⊎ AreJoinedToFaultIn files answer))

-- of files these are joined: all where none has a fault, or those before the first that has one
abbrev pub AreToJoin : List (List ℕ) → List (List ℕ) → Type 0
AreToJoin files front =
    (HaveNoFault true files × (front ≡ files))
    ⊎ ((index : ℕ) × (fault : Fault) × IsFirstFault true files index fault × (front ≡ take index files))

-- what was put so far: so many bytes of what these make
abbrev pub IsJoinedSoFar : List (List ℕ) → List Put → Type 0
IsJoinedSoFar files part =
    (front : List (List ℕ)) × AreToJoin files front × (count : ℕ) × (part ≡ puts_to Made (take count (joined front)))

-- how many bytes joining hands out of each file at most: each twice, to judge it and to copy it
abbrev pub MayJoin : (sizes before after : List ℕ) → Type 0
MayJoin sizes before after =
    (place a b size : ℕ) → slice_get before place ≡ Some a → slice_get after place ≡ Some b → slice_get sizes place ≡ Some size
    → b ≤ a + 2 * size

-- what `join` means: whatever its files hold, it may end with a fault of one
abbrev pub join_meaning : Meaning
join_meaning = record (meaning (record none_used { files = true; made = true; out = true }) (λ r answer. IsJoinAnswer r.files answer)) {
  may_have_put = λ r before after part. IsJoinedSoFar r.files part;
  may_work = AreTogetherInReach;
  may_take = MayJoin;
  may_end = MayEndBySizes (λ sizes. ¬ AreTogetherInReach sizes) AreTogetherInReach
      (λ ended text. (index : ℕ) × (fault : Fault) × (ended ≡ status.Refused) × (text ≡ refused_file_text index fault));
}
