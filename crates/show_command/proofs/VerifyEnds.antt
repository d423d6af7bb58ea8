-- How a run of `verify` ends, by the reader's answer.
use Rattle.std.proofs.Common.{◌≡◌, ℕ, ◌≤◌, true, Option, Some, None, IfSome, List, [], length, refl, sym, ap, subst, inl, inr, append-nil}
use Rattle.std.proofs.lemmas.Option.{MatchOption-at_some}
use Rattle.record_io.specs.Puts.{Put, Out, Notes, Taken, taken_by, puts_to}
use Rattle.record_io.proofs.Puts.{GoOut-nothing, bytes_to-other}
use Rattle.record_values.specs.declared.file_totals.Totals.{Totals}
use Rattle.chunk_header.specs.Chunks.{ChunkValue}
use Rattle.meta_chunk.specs.Files.{totals_of, IsWellFormed}
use Rattle.chunk_reader.specs.Faults.{IsFault}
use Rattle.chunk_reader.specs.declared.reasons.Fault.{Fault}
use Rattle.command_frame.specs.Answers.{Answer}
use Rattle.command_frame.specs.FileAnswers.{report, most_file_bytes}
use Rattle.show_command.specs.Readings.{refused_text}
use Rattle.show_command.specs.VerifyCommand.{IsVerified}
use Rattle.command_frame.specs.PutSoFar.{HasPut, HasPutSoFar}
use Rattle.command_frame.proofs.RunEnds.{PutsLines-none}
use Rattle.command_frame.proofs.PutSoFar.{noted-nothing, so_far-nothing}
use Rattle.command_frame.specs.declared.status.Status.TheVariants as status

-- the answer to a file that was judged
abbrev judged_answer : Totals → Answer
judged_answer totals = record { puts = puts_to Out (report totals); status = status.Ok }

-- the file is refused
pub verify-refused : (told bytes : Option (List ℕ)) (taken : Taken) (fault : Fault)
    → told ≡ bytes → IfSome bytes (λ f. length f ≤ most_file_bytes) → IfSome told (λ f. IsFault true f fault)
    → IfSome bytes (λ f. HasPut IsVerified f taken taken [] (refused_text fault) status.Refused)
verify-refused told None taken fault same short is = tt
verify-refused told (Some f) taken fault same short is =
    noted-nothing IsVerified f taken status.Refused (refused_text fault)
    (inr (short, inr (fault, MatchOption-at_some _ (λ (b : List ℕ). IsFault true b fault) f same is, refl)))

-- where standard output stayed as it was nothing was put so far
pub unprinted-so_far : (bytes : Option (List ℕ)) (made b c notes : Option (List ℕ)) → c ≡ b
    → IfSome bytes (λ _. HasPutSoFar (λ part. part ≡ []) (taken_by made b notes) (taken_by made c notes) [])
unprinted-so_far bytes made b c notes same =
    subst (λ (x : Option (List ℕ)). IfSome bytes (λ _. HasPutSoFar (λ part. part ≡ []) (taken_by made b notes) (taken_by made x notes) [])) (sym same)
    (so_far-nothing (λ _ part. part ≡ []) bytes (taken_by made b notes) (λ _. refl))

-- the report of a file that was judged is its answer
pub verified-held : (told bytes : Option (List ℕ)) (taken : Taken) (totals : Totals)
    → told ≡ bytes → IfSome bytes (λ f. length f ≤ most_file_bytes)
    → IfSome told (λ f. (ks : List ChunkValue) × IsWellFormed ks f × (totals ≡ totals_of ks))
    → IfSome bytes (λ f. HasPut IsVerified f taken taken (report totals) [] status.Ok)
verified-held told None taken totals same short whole = tt
verified-held told (Some f) taken totals same short whole =
    let h = MatchOption-at_some _ (λ (b : List ℕ). (ks : List ChunkValue) × IsWellFormed ks b × (totals ≡ totals_of ks)) f same whole in
    let puts : List Put = puts_to Out (report totals) in
    record {
      answer = judged_answer totals;
      is = inr (short, inl (h.0, h.1, ap judged_answer h.2));
      puts = puts;
      whole = sym (append-nil puts);
      lines = PutsLines-none puts puts (bytes_to-other Notes Out (report totals) refl);
      went = record { passed = []; parts = refl; went = GoOut-nothing taken };
      status = refl;
    }
