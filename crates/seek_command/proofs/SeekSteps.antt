-- What `seek` has put and taken, by what its search gave.
use Rattle.std.proofs.Common.{◌≡◌, ℕ, ◌≤◌, Option, Some, None, IfSome, List, [], length, refl, sym, subst, inl, inr, arith, append-nil}
use Rattle.std.proofs.lemmas.Option.{MatchOption-at_some}
use Rattle.record_io.specs.Puts.{Put, Out, Notes, Taken, puts_to}
use Rattle.record_io.proofs.Puts.{GoOut-nothing, bytes_to-other}
use Rattle.chunk_reader.specs.declared.reasons.Fault.{Fault}
use Rattle.record_seek.specs.Steps.{placed_of}
use Rattle.record_seek.specs.declared.chunk_records.Found.{Found}
use Rattle.command_frame.specs.FileAnswers.{most_file_bytes}
use Rattle.command_frame.specs.PutSoFar.{HasPut}
use Rattle.command_frame.proofs.PutSoFar.{noted-nothing}
use Rattle.command_frame.proofs.RunEnds.{PutsLines-none}
use Rattle.show_command.specs.Readings.{record_line, refused_text}
use Rattle.seek_command.specs.Searches.{MayGive, MayRefuse, TakesOf, TakesBySize}
use Rattle.seek_command.specs.SeekCommand.{IsSeekAnswer, found_answer, found_form, not_found_text}
use Rattle.seek_command.specs.declared.seek_words.By.{By}
use Rattle.seek_command.specs.declared.seek_words.By.TheVariants.{At, Key}
use Rattle.seek_command.specs.declared.seek_words.SeekWords.{SeekWords}
use Rattle.command_frame.specs.declared.status.Status.TheVariants as status

-- what a search gave
pub gives-is : (by : By) (bytes : Option (List ℕ)) (given found : Option Found) → given ≡ found
    → IfSome bytes (λ file. MayGive by file (placed_of given)) → IfSome bytes (λ file. MayGive by file (placed_of found))
gives-is by bytes given found is gives = subst (λ (f : Option Found). IfSome bytes (λ file. MayGive by file (placed_of f))) is gives

module _ (words : SeekWords) (told bytes : Option (List ℕ)) (taken : Taken) (same : told ≡ bytes) where
  -- the line of the record that was found is an answer
  pub found-held : (found : Found) → IfSome bytes (λ f. length f ≤ most_file_bytes) → IfSome told (λ f. MayGive words.by f (placed_of (Some found)))
      → IfSome bytes (λ f. HasPut (IsSeekAnswer words) f taken taken (record_line (found_form words.hex) (found.position, found.bytes)) [] status.Ok)
  found-held found short gives = held bytes same short where
    held : (bs : Option (List ℕ)) → told ≡ bs → IfSome bs (λ f. length f ≤ most_file_bytes)
        → IfSome bs (λ f. HasPut (IsSeekAnswer words) f taken taken (record_line (found_form words.hex) (found.position, found.bytes)) [] status.Ok)
    held None is few = tt
    held (Some f) is few =
        let line : List ℕ = record_line (found_form words.hex) (found.position, found.bytes) in
        let puts : List Put = puts_to Out line in
        record {
          answer = found_answer words.hex (placed_of (Some found));
          is = inr (few, inl (placed_of (Some found), MatchOption-at_some _ (λ (b : List ℕ). MayGive words.by b (placed_of (Some found))) f is gives, refl));
          puts = puts;
          whole = sym (append-nil puts);
          lines = PutsLines-none puts puts (bytes_to-other Notes Out line refl);
          went = record { passed = []; parts = refl; went = GoOut-nothing taken };
          status = refl;
        }

  -- there was none
  pub nothing-noted : IfSome bytes (λ f. length f ≤ most_file_bytes) → IfSome told (λ f. MayGive words.by f None)
      → IfSome bytes (λ f. HasPut (IsSeekAnswer words) f taken taken [] not_found_text status.NotFound)
  nothing-noted short gives = noted bytes same short where
    noted : (bs : Option (List ℕ)) → told ≡ bs → IfSome bs (λ f. length f ≤ most_file_bytes)
        → IfSome bs (λ f. HasPut (IsSeekAnswer words) f taken taken [] not_found_text status.NotFound)
    noted None is few = tt
    noted (Some f) is few =
        noted-nothing (IsSeekAnswer words) f taken status.NotFound not_found_text
        (inr (few, inl (None, MatchOption-at_some _ (λ (b : List ℕ). MayGive words.by b None) f is gives, refl)))

  -- the search was refused
  pub refused-noted : (fault : Fault) → IfSome bytes (λ f. length f ≤ most_file_bytes) → IfSome told (λ f. MayRefuse words.by f fault)
      → IfSome bytes (λ f. HasPut (IsSeekAnswer words) f taken taken [] (refused_text fault) status.Refused)
  refused-noted fault short refuses = noted bytes same short where
    noted : (bs : Option (List ℕ)) → told ≡ bs → IfSome bs (λ f. length f ≤ most_file_bytes)
        → IfSome bs (λ f. HasPut (IsSeekAnswer words) f taken taken [] (refused_text fault) status.Refused)
    noted None is few = tt
    noted (Some f) is few =
        noted-nothing (IsSeekAnswer words) f taken status.Refused (refused_text fault)
        (inr (few, inr (fault, MatchOption-at_some _ (λ (b : List ℕ). MayRefuse words.by b fault) f is refuses, refl)))

-- where no byte was handed out, few were
takes_none : (by : By) (file : List ℕ) (before after : ℕ) → after ≡ before → TakesOf by file before after
takes_none (At position) file before after same = λ ks h j well_formed lies answering. omega (arith, same)
takes_none (Key key) file before after same = λ ks well_formed. omega (arith, same)

pub takes-none : (by : By) (bytes : Option (List ℕ)) (before after : ℕ) → after ≡ before → IfSome bytes (λ file. TakesOf by file before after)
takes-none by None before after same = tt
takes-none by (Some file) before after same = takes_none by file before after same

-- what a search hands out of a file of which its size was asked before
takes_from : (by : By) (file : List ℕ) (before then after : ℕ) → then ≡ before → TakesOf by file then after → TakesOf by file before after
takes_from by file before then after same takes = subst (λ (n : ℕ). TakesOf by file n after) same takes

pub takes-then : (by : By) (told bytes : Option (List ℕ)) (before then after : ℕ) → told ≡ bytes → then ≡ before
    → IfSome told (λ file. TakesOf by file then after) → IfSome bytes (λ file. TakesOf by file before after)
takes-then by told None before then after same first takes = tt
takes-then by told (Some file) before then after same first takes =
    takes_from by file before then after first (MatchOption-at_some _ (λ (f : List ℕ). TakesOf by f then after) file same takes)

pub by_size-then : (by : By) (size before then after : ℕ) → then ≡ before → TakesBySize by size then after → TakesBySize by size before after
by_size-then by size before then after same takes = subst (λ (n : ℕ). TakesBySize by size n after) same takes
