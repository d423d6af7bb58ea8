-- How the work of `ranges` ends, step by step: its stores are asked their sizes, then the file is read, then it is printed.
use Rattle.std.proofs.Common.{◌≡◌, ◌∙◌, ℕ, false, Option, Some, Result, Ok, Err, List, [], ◌∷◌, Vec, Global, map, sym, subst, refl}
use Rattle.std.specs.List.{AllByRecursion}
use Rattle.std.specs.Result.{IfOk}
use Rattle.chunk_reader.specs.Faults.{IsFault}
use Rattle.chunk_reader.specs.declared.reasons.Fault.{Fault}
use Rattle.chunk_reader.specs.declared.reasons.ReadEnd.{ReadEnd}
use Rattle.command_frame.specs.Endings.{ArePast, HaveTold, IsAllowedEndOfMany}
use Rattle.command_frame.specs.declared.ending.Ending.{Ending}
use Rattle.record_ranges.specs.RangesCommand.{IsTextOfFile, MayBeRead, most_range_bytes, ranges_meaning}
use Rattle.record_ranges.specs.RangesEnds.{PrintsOnlyWhole, IsReadIn, PrintsFile, StopsBy, all_texts, end_of_read}
use Rattle.record_ranges.specs.declared.range_ends.RangesStop.{RangesStop}
use Rattle.record_ranges.specs.declared.stretches.Stretch.{Stretch}
use Rattle.chunk_reader.specs.declared.reasons.ReadEnd.TheVariants as read
use Rattle.record_io.specs.declared.cut.Cut.TheVariants as cut
use Rattle.command_frame.specs.declared.ending.Ending.TheVariants as end
use Rattle.command_frame.specs.FileAnswers.{AreWithin}

-- stores of which the bytes stay show the same file
pub still_one : {S : Type 0} (bytes : S → Option (List ℕ)) (before after : List S) (file : List ℕ) → map bytes after ≡ map bytes before
    → AllByRecursion (λ s. bytes s ≡ Some file) before → AllByRecursion (λ s. bytes s ≡ Some file) after
still_one bytes before [] file same one = tt
still_one bytes [] (b ∷ after) file same one = absurd (cc same)
still_one bytes (a ∷ before) (b ∷ after) file same one =
    let first : bytes b ≡ bytes a = cc same in
    let others : map bytes after ≡ map bytes before = cc same in
    (first ∙ one.0, still_one bytes before after file others one.1)

-- what is known of a file by how it was read
pub read-in : (result : Result (Vec (Stretch (List ℕ)) Global) ReadEnd) (file : List ℕ) (P : Vec (Stretch (List ℕ)) Global → Type 0) → IfOk result P
    → ((parts : Vec (Stretch (List ℕ)) Global) → P parts → IsTextOfFile file (all_texts parts.items))
    → ((fault : Fault) → result ≡ Err (read.Refused fault) → IsFault false file fault) → IsReadIn result file
read-in (Ok parts) file P holds text refused = text parts holds
read-in (Err (read.Refused fault)) file P holds text refused = refused fault refl
read-in (Err read.Store) file P holds text refused = tt
read-in (Err read.Memory) file P holds text refused = tt

-- the work ended as the file was not read
module _ (e : ReadEnd) (why : Ending RangesStop) (is : why ≡ end_of_read e) where
  pub unread-allowed : (told : List (Option ℕ)) → HaveTold told MayBeRead
      → IsAllowedEndOfMany {X = Unit {0}} ranges_meaning (ArePast (AreWithin most_range_bytes)) StopsBy (Err why) told
  unread-allowed told ready = subst (λ (w : Ending RangesStop). IsAllowedEndOfMany {X = Unit {0}} ranges_meaning (ArePast (AreWithin most_range_bytes)) StopsBy (Err w) told) (sym is) (by_end e) where
    by_end : (e : ReadEnd) → IsAllowedEndOfMany {X = Unit {0}} ranges_meaning (ArePast (AreWithin most_range_bytes)) StopsBy (Err (end_of_read e)) told
    by_end (read.Refused fault) = ready
    by_end read.Store = refl
    by_end read.Memory = (refl, ready)

  pub unread-file : (file : List ℕ) (out : Option (List ℕ)) → IsReadIn (Err e) file → PrintsFile {X = Unit {0}} (Err why) file out out
  unread-file file out h = subst (λ (w : Ending RangesStop). PrintsFile {X = Unit {0}} (Err w) file out out) (sym is) (by_end e h) where
    by_end : (e : ReadEnd) → IsReadIn (Err e) file → PrintsFile {X = Unit {0}} (Err (end_of_read e)) file out out
    by_end (read.Refused fault) h = h
    by_end read.Store h = tt
    by_end read.Memory h = tt

  pub unread-printed : (out : Option (List ℕ)) → PrintsOnlyWhole {X = Unit {0}} (Err why) out out
  unread-printed out = subst (λ (w : Ending RangesStop). PrintsOnlyWhole {X = Unit {0}} (Err w) out out) (sym is) (by_end e) where
    by_end : (e : ReadEnd) → PrintsOnlyWhole {X = Unit {0}} (Err (end_of_read e)) out out
    by_end (read.Refused fault) = refl
    by_end read.Store = refl
    by_end read.Memory = refl

  -- a store failed where that is told
  pub store_failed : ◌≡◌ {A = Result (Unit {0}) (Ending RangesStop)} (Err why) (Err (end.Cut cut.File)) → e ≡ read.Store
  store_failed failed = by_end e (let same : why ≡ end.Cut cut.File = cc failed in sym is ∙ same) where
    by_end : (e : ReadEnd) → end_of_read e ≡ end.Cut cut.File → e ≡ read.Store
    by_end (read.Refused fault) failed = absurd (cc failed)
    by_end read.Store failed = refl
    by_end read.Memory failed = absurd (cc failed)
