-- And each file of bytes has one.
use Rattle.std.proofs.Common.{◌⊎◌, ℕ, ◌≤◌, true, false, List, [], ◌∷◌, ◌++◌, length, refl, inl, inr, arith}
use Rattle.std.specs.List.{flat_map}
use Rattle.record_values.specs.Bytes.{AreBytes}
use Rattle.record_io.specs.Puts.{Out, Notes, puts_to}
use Rattle.chunk_header.specs.Chunks.{ChunkValue}
use Rattle.meta_chunk.specs.Files.{totals_of, IsPlain, IsChainOf, ArePlaced, placed_from}
use Rattle.meta_chunk.proofs.Held.{HoldEach-well_formed}
use Rattle.chunk_reader.specs.Faults.{IsLongest, BeginsWithSignature, HasNoFault, IsFault}
use Rattle.chunk_reader.specs.declared.reasons.Fault.{Fault}
use Rattle.chunk_reader.proofs.SignedFiles.{begins_signed}
use Rattle.chunk_reader.proofs.ChainSteps.{no_chunks, IsChainOf-nil, longest_where_whole}
use Rattle.chunk_reader.proofs.FaultsDecided.{file_judged}
use Rattle.chunk_reader.proofs.WellFormedFiles.{well_formed_of_plain}
use Rattle.show_command.specs.declared.show_words.ShowWords.{ShowWords}
use Rattle.command_frame.specs.Answers.{Answer, noted}
use Rattle.show_command.specs.Readings.{refused_text, record_line}
use Rattle.command_frame.specs.FileAnswers.{report}
use Rattle.show_command.specs.ShowCommand.{IsShown}
use Rattle.show_command.specs.VerifyCommand.{IsVerified}
use Rattle.command_frame.specs.declared.status.Status.TheVariants as status

-- of a file that doesn't begin as files do the longest front has no chunks
no_front : (file : List ℕ) → ¬ BeginsWithSignature file → (ks : List ChunkValue) (place : ℕ) → IsChainOf IsPlain ks file place → place ≤ 0
no_front file unsigned [] place h = omega (arith, no_chunks file place h)
no_front file unsigned (k ∷ ks) place h = absurd (unsigned (begins_signed k ks file place h))

-- each judged file has a longest front
longest_of : (file : List ℕ) → HasNoFault false file ⊎ ((fault : Fault) × IsFault false file fault)
    → (ks : List ChunkValue) × (place : ℕ) × IsLongest IsPlain ks file place
longest_of file (inl (ks, (some, chain))) = (ks, length file, longest_where_whole IsPlain ks file chain)
longest_of file (inr (fault, inl (unsigned, is))) =
    ([], 0, record { chain = IsChainOf-nil file; greatest = no_front file unsigned })
longest_of file (inr (fault, inr (signed, (ks, place, longest, below, verdict)))) = (ks, place, longest)

-- and the chunks of a front have placed records
placed_of : (ks : List ChunkValue) (file : List ℕ) (place : ℕ) → IsChainOf IsPlain ks file place → (placed : List (ℕ × List ℕ)) × ArePlaced ks placed
placed_of ks file place h =
    let held = HoldEach-well_formed ks (well_formed_of_plain ks file place h).each in
    (placed_from 0 ks held.0, (held.0, held.1, refl))

-- so `show` has an answer
pub shown_exists : (words : ShowWords) (file : List ℕ) → AreBytes file → (answer : Answer) × IsShown words file answer
shown_exists words file bytes =
    let judged = file_judged false file bytes in
    let front = longest_of file judged in
    let placed = placed_of front.0 file front.1 front.2.chain in
    let out : List ℕ = flat_map (record_line words.form) placed.0 in
    elim judged [
      | inl none ↦ (
        record { puts = puts_to Out out ++ puts_to Notes []; status = status.Ok },
        record {
          ks = front.0;
          place = front.1;
          placed = placed.0;
          longest = front.2;
          records = placed.1;
          said = [];
          puts = refl;
          ended = inl (none, refl, refl);
        },
      )
      | inr (fault, is) ↦ (
        record { puts = puts_to Out out ++ puts_to Notes (refused_text fault); status = status.Refused },
        record {
          ks = front.0;
          place = front.1;
          placed = placed.0;
          longest = front.2;
          records = placed.1;
          said = refused_text fault;
          puts = refl;
          ended = inr (fault, is, refl, refl);
        },
      )
    ]

-- and `verify`
pub verified_exists : (file : List ℕ) → AreBytes file → (answer : Answer) × IsVerified file answer
verified_exists file bytes =
    elim (file_judged true file bytes) [
      | inl (ks, well_formed) ↦
          (record { puts = puts_to Out (report (totals_of ks)); status = status.Ok }, inl (ks, well_formed, refl))
      | inr (fault, is) ↦ (noted status.Refused (refused_text fault), inr (fault, is, refl))
    ]
