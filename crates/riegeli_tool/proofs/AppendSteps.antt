-- How the work of `append` ends, by the answers of its calls.
use Rattle.std.proofs.Common.{◌≡◌, ◌∙◌, ℕ, ◌-◌, ◌<◌, ◌≤◌, ◌⊎◌, Option, Some, None, Ok, Err, List, [], ◌∷◌, length, option_map, refl, sym, ap, subst, inl, inr, arith}
use Rattle.std.specs.Option.{IfSome, IsSomeAnd}
use Rattle.std.proofs.lemmas.Option.{MatchOption-at_some}
use Rattle.chunk_reader.specs.declared.reasons.Fault.{Fault}
use Rattle.record_writer.specs.Feeds.{Rest}
use Rattle.record_append.specs.Appends.{GrowsFrom, HoldsGrownInPart}
use Rattle.record_append.specs.AppendAnswers.{AnswersGrown, HoldsCutOff, KeepsBy, Tells}
use Rattle.record_append.specs.Grown.{IsRefusedToGrow, RefusesFor, grown}
use Rattle.record_append.specs.declared.appends.Appended.{Appended}
use Rattle.record_append.specs.declared.appends.AppendEnd.{AppendEnd}
use Rattle.command_frame.specs.FileAnswers.{IsInReach, most_file_bytes}
use Rattle.command_frame.specs.FileSizes.{IsUnsized}
use Rattle.command_frame.specs.declared.ending.Ending.{Ending}
use Rattle.write_command.specs.WriteCommand.{stop_text}
use Rattle.riegeli_tool.specs.AppendCommand.{appended_text, grown_text, lines_taken}
use Rattle.riegeli_tool.specs.AppendingEnds.{HasAppended, IsSizedBy, IsTold, KeepsOldAtEnd, end_of_append}
use Rattle.riegeli_tool.specs.declared.append.Unappended.{Unappended}
use Rattle.riegeli_tool.specs.declared.append_words.AppendWords.{AppendWords}
use Rattle.record_append.specs.declared.appends.AppendEnd.TheVariants as append
use Rattle.record_writer.specs.declared.feed.Stop.TheVariants as stop
use Rattle.record_io.specs.declared.cut.Cut.TheVariants as cut
use Rattle.command_frame.specs.declared.ending.Ending.TheVariants as end
use Rattle.command_frame.specs.declared.sizes.SizeEnd.TheVariants as size

-- P holds of an old file and of what an input gives, where these are shown
abbrev pub IfBoth : AppendWords → (bytes input : Option (List ℕ)) → (List ℕ → Rest → Type 0) → Type 0
IfBoth words bytes input P = IfSome bytes (λ file. IfSome input (λ given. P file (lines_taken words given)))

if-kept : (bytes held : Option (List ℕ)) (P Q : List ℕ → List ℕ → Type 0) → ((file now : List ℕ) → P file now → Q file now)
    → IfSome bytes (λ file. IsSomeAnd held (P file)) → IfSome bytes (λ file. IsSomeAnd held (Q file))
if-kept None held P Q then keeps = tt
if-kept (Some file) None P Q then keeps = keeps
if-kept (Some file) (Some now) P Q then keeps = then file now keeps

-- what holds by what is taken of an input holds by what that gives
pub taken-given : (words : AppendWords) (bytes input : Option (List ℕ)) (rests : Option Rest) (P : List ℕ → Rest → Type 0)
    → rests ≡ option_map (lines_taken words) input → IfSome bytes (λ file. IfSome rests (λ rest. P file rest)) → IfBoth words bytes input P
taken-given words None input rests P given holds = tt
taken-given words (Some file) None rests P given holds = tt
taken-given words (Some file) (Some taken) rests P given holds = MatchOption-at_some _ (P file) (lines_taken words taken) given holds

-- a file of which the bytes stay keeps them
pub stays-kept : (bytes held : Option (List ℕ)) (P : List ℕ → List ℕ → Type 0) → held ≡ bytes → ((file now : List ℕ) → now ≡ file → P file now)
    → IfSome bytes (λ file. IsSomeAnd held (P file))
stays-kept None held P same then = tt
stays-kept (Some file) None P same then = cc same
stays-kept (Some file) (Some now) P same then = then file now (cc same)

-- a file within the limit tells its size still, or none
pub still-tells : (size : ℕ) (told : Option ℕ) → size ≤ most_file_bytes → IfSome told (λ n. n ≡ size)
    → (told ≡ Some size) ⊎ ((told ≡ None) × IsInReach (size ∷ []))
still-tells size None within still = inr (refl, within)
still-tells size (Some n) within still = inl (ap Some still)

module _ (words : AppendWords) where
  -- the file told too large a size
  pub long-appended : (told : Option ℕ) (bytes held input out : Option (List ℕ)) (m n : ℕ) → IsUnsized size.Limit told bytes m n → held ≡ bytes
      → IfBoth words bytes input (λ file rest. HasAppended {X = Unit {0}} (Err end.Limit) words rest file held out out)
  long-appended told None held input out m n is same = tt
  long-appended told (Some file) held None out m n is same = tt
  long-appended told (Some file) held (Some given) out m n is same = (is.1, same, refl)

  pub long-sized : (told : Option ℕ) (bytes : Option (List ℕ)) (m n : ℕ) → IsUnsized size.Limit told bytes m n
      → IfSome bytes (λ file. IfSome told (λ size. size ≡ length file)) → IsSizedBy {X = Unit {0}} (Err end.Limit) words bytes told
  long-sized None bytes m n is exact = absurd is.0
  long-sized (Some size) bytes m n is exact = (size, (is.0, refl), exact, inl refl)

  -- it failed before it told one
  pub failed-appended : (bytes held input out : Option (List ℕ)) → held ≡ bytes
      → IfBoth words bytes input (λ file rest. HasAppended {X = Unit {0}} (Err (end.Cut cut.Grown)) words rest file held out out)
  failed-appended None held input out same = tt
  failed-appended (Some file) held None out same = tt
  failed-appended (Some file) held (Some given) out same = (inl same, refl)

  -- records were not put to the end of their feed
  cut_by : (rest : Rest) (file : List ℕ) (held : Option (List ℕ)) → length file ≤ most_file_bytes
      → HoldsCutOff words.write.options words.cut file rest.records held
      → (held ≡ Some file) ⊎ ((length file ≤ most_file_bytes) × HoldsGrownInPart words.write.options words.cut file rest.records held)
  cut_by rest file held reach (inl same) = inl same
  cut_by rest file held reach (inr part) = inr (reach, part)

  ended_by : (e : AppendEnd) (rest : Rest) (file : List ℕ) (held out : Option (List ℕ)) → length file ≤ most_file_bytes
      → ((fault : Fault) → e ≡ append.Refused fault → IsRefusedToGrow words.cut file fault)
      → AnswersGrown (Err e) words.write.options words.cut file rest held → HasAppended {X = Unit {0}} (Err (end_of_append e)) words rest file held out out
  ended_by (append.Refused fault) rest file held out reach refused same = (refused fault refl, same, refl)
  ended_by (append.TooLong count) rest file held out reach refused (is, counted, grows) =
      ((is, ap (λ (n : ℕ). stop_text n (Some stop.TooLong)) (sym counted), grows), refl)
  ended_by append.InputTooLong rest file held out reach refused (is, grows) = ((is, refl, grows), refl)
  ended_by (append.BadLine count) rest file held out reach refused (is, counted, grows) =
      ((is, ap (λ (n : ℕ). stop_text n (Some stop.BadLine)) (sym counted), grows), refl)
  ended_by append.Input rest file held out reach refused holds = (cut_by rest file held reach holds, refl)
  ended_by append.Device rest file held out reach refused holds = (cut_by rest file held reach holds, refl)
  ended_by append.Memory rest file held out reach refused holds = (cut_by rest file held reach holds, refl)

  kept_by : (e : AppendEnd) (file now : List ℕ) → KeepsBy (Err e) words.cut file now → KeepsOldAtEnd {X = Unit {0}} (Err (end_of_append e)) words.cut file now
  kept_by (append.Refused fault) file now keeps = keeps
  kept_by (append.TooLong count) file now keeps = keeps
  kept_by append.InputTooLong file now keeps = keeps
  kept_by (append.BadLine count) file now keeps = keeps
  kept_by append.Input file now keeps = keeps
  kept_by append.Device file now keeps = keeps
  kept_by append.Memory file now keeps = keeps

  sized_by : (e : AppendEnd) (size : ℕ) (bytes : Option (List ℕ)) (told : Option ℕ) → size ≤ most_file_bytes → IfSome bytes (λ file. size ≡ length file)
      → IfSome told (λ n. n ≡ size)
      → ((fault : Fault) → e ≡ append.Refused fault → (told ≡ Some size) × (0 < size) × RefusesFor words.cut fault.why)
      → IsSizedBy {X = Unit {0}} (Err (end_of_append e)) words bytes told
  sized_by (append.Refused fault) size bytes told within exact still refused =
      let its = refused fault refl in (size, (within, its.0, its.1, its.2), exact, inl its.0)
  sized_by (append.TooLong count) size bytes told within exact still refused = (size, within, exact, still-tells size told within still)
  sized_by append.InputTooLong size bytes told within exact still refused = (size, within, exact, still-tells size told within still)
  sized_by (append.BadLine count) size bytes told within exact still refused = (size, within, exact, still-tells size told within still)
  sized_by append.Input size bytes told within exact still refused = (refl, (size, within, exact, still-tells size told within still))
  sized_by append.Device size bytes told within exact still refused = refl
  sized_by append.Memory size bytes told within exact still refused = (refl, (size, within, exact, still-tells size told within still))

  -- the same of what the device and the input showed
  pub ended-appended : (e : AppendEnd) (why : Ending Unappended) (size : ℕ) (bytes mid held input out : Option (List ℕ))
      → why ≡ end_of_append e → mid ≡ bytes → size ≤ most_file_bytes → IfSome bytes (λ file. size ≡ length file)
      → ((fault : Fault) → e ≡ append.Refused fault → IfSome mid (λ file. IsRefusedToGrow words.cut file fault))
      → IfBoth words mid input (λ file rest. AnswersGrown (Err e) words.write.options words.cut file rest held)
      → IfBoth words bytes input (λ file rest. HasAppended {X = Unit {0}} (Err why) words rest file held out out)
  ended-appended e why size None mid held input out is same within exact refused holds = tt
  ended-appended e why size (Some file) mid held None out is same within exact refused holds = tt
  ended-appended e why size (Some file) mid held (Some taken) out is same within exact refused holds =
      let rest : Rest = lines_taken words taken in
      subst (λ (w : Ending Unappended). HasAppended {X = Unit {0}} (Err w) words rest file held out out) (sym is)
      (ended_by e rest file held out (subst (λ (n : ℕ). n ≤ most_file_bytes) exact within)
      (λ fault its. MatchOption-at_some _ (λ (f : List ℕ). IsRefusedToGrow words.cut f fault) file same (refused fault its))
      (MatchOption-at_some _ (λ (f : List ℕ). AnswersGrown (Err e) words.write.options words.cut f rest held) file same holds))

  pub ended-kept : (e : AppendEnd) (why : Ending Unappended) (bytes mid held : Option (List ℕ)) → why ≡ end_of_append e → mid ≡ bytes
      → IfSome mid (λ file. IsSomeAnd held (λ now. KeepsBy (Err e) words.cut file now))
      → IfSome bytes (λ file. IsSomeAnd held (λ now. KeepsOldAtEnd {X = Unit {0}} (Err why) words.cut file now))
  ended-kept e why bytes mid held is same keeps =
      subst (λ (b : Option (List ℕ)). IfSome b (λ file. IsSomeAnd held (λ now. KeepsOldAtEnd {X = Unit {0}} (Err why) words.cut file now))) same
      (subst (λ (w : Ending Unappended). IfSome mid (λ file. IsSomeAnd held (λ now. KeepsOldAtEnd {X = Unit {0}} (Err w) words.cut file now))) (sym is)
      (if-kept mid held (KeepsBy (Err e) words.cut) (KeepsOldAtEnd {X = Unit {0}} (Err (end_of_append e)) words.cut) (kept_by e) keeps))

  pub ended-sized : (e : AppendEnd) (why : Ending Unappended) (size : ℕ) (bytes : Option (List ℕ)) (told : Option ℕ) → why ≡ end_of_append e
      → size ≤ most_file_bytes → IfSome bytes (λ file. size ≡ length file) → IfSome told (λ n. n ≡ size)
      → ((fault : Fault) → e ≡ append.Refused fault → (told ≡ Some size) × (0 < size) × RefusesFor words.cut fault.why)
      → IsSizedBy {X = Unit {0}} (Err why) words bytes told
  ended-sized e why size bytes told is within exact still refused =
      subst (λ (w : Ending Unappended). IsSizedBy {X = Unit {0}} (Err w) words bytes told) (sym is) (sized_by e size bytes told within exact still refused)

-- all that is told of a file that was grown
told_all : (words : AppendWords) (file : List ℕ) (added : List (List ℕ)) (told : Appended) → Tells words.write.options file added told
    → appended_text told ≡ grown_text words file told.kept added
told_all words file added told tells =
    let dropped : told.dropped ≡ length file - told.kept = omega (arith, tells.dropped) in
    let bytes : ℕ = length (grown words.write.options file told.kept added) in
    ap (λ (n : ℕ). appended_text (record { kept = told.kept; dropped = n; records = told.records; bytes = told.bytes })) dropped
    ∙ ap (λ (n : ℕ). appended_text (record { kept = told.kept; dropped = length file - told.kept; records = n; bytes = told.bytes })) tells.records
    ∙ ap (λ (n : ℕ). appended_text (record { kept = told.kept; dropped = length file - told.kept; records = length added; bytes = n })) tells.bytes

-- all records were put, and this was printed
pub told-appended : (words : AppendWords) (Prints : (before after : Option (List ℕ)) → List ℕ → Type 0) (told : Appended)
    (bytes mid held input out out_then : Option (List ℕ)) → mid ≡ bytes
    → IfBoth words mid input (λ file rest. AnswersGrown (Ok told) words.write.options words.cut file rest held)
    → Prints out out_then (appended_text told) → IfBoth words bytes input (λ file rest. IsTold Prints words rest file held out out_then)
told-appended words Prints told None mid held input out out_then same put printed = tt
told-appended words Prints told (Some file) mid held None out out_then same put printed = tt
told-appended words Prints told (Some file) mid held (Some taken) out out_then same put printed =
    let rest : Rest = lines_taken words taken in
    let (none, holds, tells) = MatchOption-at_some _ (λ (f : List ℕ). AnswersGrown (Ok told) words.write.options words.cut f rest held) file same put in
    (none, told.kept, holds, subst (Prints out out_then) (told_all words file rest.records told tells) printed)

pub told-kept : (words : AppendWords) (told : Appended) (P : List ℕ → List ℕ → Type 0) (bytes mid held : Option (List ℕ)) → mid ≡ bytes
    → ((file now : List ℕ) → ((place : ℕ) × GrowsFrom words.cut file place now) → P file now)
    → IfSome mid (λ file. IsSomeAnd held (λ now. KeepsBy (Ok told) words.cut file now))
    → IfSome bytes (λ file. IsSomeAnd held (λ now. P file now))
told-kept words told P bytes mid held same then keeps =
    subst (λ (b : Option (List ℕ)). IfSome b (λ file. IsSomeAnd held (λ now. P file now))) same
    (if-kept mid held (KeepsBy (Ok told) words.cut) P (λ file now grows. then file now (told.kept, grows)) keeps)
