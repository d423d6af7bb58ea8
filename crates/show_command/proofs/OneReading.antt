-- Strict reading has one answer to a file.
use Rattle.std.proofs.Common.{◌≡◌, ◌⊎◌, ℕ, true, false, List, [], ◌++◌, sym, ◌∙◌, ap, subst, inl, inr}
use Rattle.std.specs.List.{flat_map}
use Rattle.record_io.specs.Puts.{Out, Notes, puts_to}
use Rattle.chunk_header.specs.Chunks.{ChunkValue}
use Rattle.meta_chunk.specs.Files.{totals_of, IsPlain, IsChainOf, ArePlaced}
use Rattle.meta_chunk.proofs.Placed.{ArePlaced-one}
use Rattle.chunk_reader.specs.Faults.{HasNoFault, IsFault}
use Rattle.chunk_reader.specs.declared.reasons.Fault.{Fault}
use Rattle.chunk_reader.proofs.FileFaults.{longest_is_one, fault_is_one, fault_or_none}
use Rattle.chunk_reader.proofs.WellFormedFiles.{well_formed_is_one, chain_is_one}
use Rattle.show_command.specs.declared.show_words.ShowWords.{ShowWords}
use Rattle.command_frame.specs.Answers.{Answer, noted}
use Rattle.show_command.specs.Readings.{refused_text, record_line}
use Rattle.command_frame.specs.FileAnswers.{report}
use Rattle.show_command.specs.ShowCommand.{IsShown}
use Rattle.show_command.specs.VerifyCommand.{IsVerified}
use Rattle.command_frame.proofs.OneAnswer.{same_answer}
use Rattle.command_frame.specs.declared.status.Status.TheVariants as status

-- how strict reading of a file ends, with what is said then
abbrev pub EndsReading : (file said : List ℕ) → Answer → Type 0
EndsReading file said answer =
    (HasNoFault false file × (said ≡ []) × (answer.status ≡ status.Ok))
    ⊎ ((fault : Fault) × IsFault false file fault × (said ≡ refused_text fault) × (answer.status ≡ status.Refused))

one_end : (file s t : List ℕ) (a b : Answer) → EndsReading file s a → EndsReading file t b → (s ≡ t) × (a.status ≡ b.status)
one_end file s t a b (inl (none, said, ended)) (inl (faultless, told, stopped)) = (said ∙ sym told, ended ∙ sym stopped)
one_end file s t a b (inl (none, said, ended)) (inr (fault, faulty, told, stopped)) = absurd (fault_or_none false file fault faulty none)
one_end file s t a b (inr (fault, faulty, said, ended)) (inl (none, told, stopped)) = absurd (fault_or_none false file fault faulty none)
one_end file s t a b (inr (fault, faulty, said, ended)) (inr (other, too, told, stopped)) =
    (said ∙ ap refused_text (fault_is_one false file fault other faulty too) ∙ sym told, ended ∙ sym stopped)

-- `show` has one answer to a file
pub one_shown : (words : ShowWords) (file : List ℕ) (a b : Answer) → IsShown words file a → IsShown words file b → a ≡ b
one_shown words file a b h g =
    let end : h.place ≡ g.place = longest_is_one h.ks g.ks file h.place g.place h.longest g.longest in
    let chunks : h.ks ≡ g.ks =
    chain_is_one h.ks g.ks file g.place (subst (λ (p : ℕ). IsChainOf IsPlain h.ks file p) end h.longest.chain) g.longest.chain in
    let records : h.placed ≡ g.placed =
    ArePlaced-one g.ks h.placed g.placed (subst (λ (ks : List ChunkValue). ArePlaced ks h.placed) chunks h.records) g.records in
    let said = one_end file h.said g.said a b h.ended g.ended in
    same_answer a b
    (h.puts
    ∙ ap (λ (ps : List (ℕ × List ℕ)). puts_to Out (flat_map (record_line words.form) ps) ++ puts_to Notes h.said) records
    ∙ ap (λ (t : List ℕ). puts_to Out (flat_map (record_line words.form) g.placed) ++ puts_to Notes t) said.0
    ∙ sym g.puts)
    said.1

-- so has `verify`
pub one_verified : (file : List ℕ) (a b : Answer) → IsVerified file a → IsVerified file b → a ≡ b
one_verified file a b (inl (ks, well_formed, is)) (inl (ls, other, also)) =
    is
    ∙ ap (λ (xs : List ChunkValue). record { puts = puts_to Out (report (totals_of xs)); status = status.Ok }) (well_formed_is_one ks ls file well_formed other)
    ∙ sym also
one_verified file a b (inl (ks, well_formed, is)) (inr (fault, faulty, also)) = absurd (fault_or_none true file fault faulty (ks, well_formed))
one_verified file a b (inr (fault, faulty, is)) (inl (ks, well_formed, also)) = absurd (fault_or_none true file fault faulty (ks, well_formed))
one_verified file a b (inr (fault, faulty, is)) (inr (other, too, also)) =
    is ∙ ap (λ (f : Fault). noted status.Refused (refused_text f)) (fault_is_one true file fault other faulty too) ∙ sym also
