-- Inside. How the work of a command that reads files ends, and what it has put and says then. Own.
use Rattle.std.specs.Prelude.{◌≡◌, ◌≢◌, ℕ, ◌⊎◌, true, Option, Some, Result, Ok, Err, List, [], ◌∷◌, map, IsSomeAnd}
use Rattle.record_values.specs.Bytes.{AreBytes}
use Rattle.record_io.specs.Calls.{OnlyCounts}
use Rattle.record_io.specs.Puts.{Made, Out, Taken}
use Rattle.record_io.specs.Seen.{SeenStream, seen_stream}
use Rattle.record_io.specs.Outside.{Rose, Takes, TakesShort}
use Rattle.record_io.specs.declared.cut.Cut.{Cut}
use Rattle.command_frame.specs.declared.ending.Ending.{Ending}
use Rattle.command_frame.specs.declared.sizes.SizeEnd.{SizeEnd}
use Rattle.command_frame.specs.declared.status.Status.{Status}
use Rattle.command_frame.specs.Answers.{Answer}
use Rattle.command_frame.specs.FileAnswers.{OfFile, IsInReach, IsTooLong, limit_text}
use Rattle.command_frame.specs.Meanings.{Meaning}
use Rattle.command_frame.specs.Statuses.{fault_text}
use Rattle.command_frame.specs.RunLeaves.{IsReadingCutOff, TakesThen, FailedToSay}
use Rattle.command_frame.specs.PutSoFar.{HasBrokenOff, HasPut, HasPutFront}
use Rattle.record_io.specs.declared.cut.Cut.TheVariants as cut
use Rattle.command_frame.specs.declared.ending.Ending.TheVariants as end
use Rattle.command_frame.specs.declared.sizes.SizeEnd.TheVariants as size
use Rattle.command_frame.specs.declared.status.Status.TheVariants as status

-- the status that tells what cut the work off
abbrev pub status_of : Cut → Status
status_of cut.Input = status.Input
status_of cut.File = status.File
status_of cut.Made = status.Made
status_of cut.Grown = status.Grown
status_of cut.Out = status.Out
status_of cut.Notes = status.Notes
status_of cut.Memory = status.Memory

-- the ends by which no size was told
abbrev pub end_of_size : {W : Type 0} → SizeEnd → Ending W
end_of_size size.Limit = end.Limit
end_of_size size.File = end.Cut cut.File

-- how the work of a command ends: with a status where it was done, and at what the command doesn't go past with the text and
-- the status of that
pub record Endings (X W : Type 0) : Type 0 where
  pub done : X → Status
  pub text : W → List ℕ
  pub status : W → Status

-- what cut work off whose lines standard output then failed to take
abbrev pub cut_unprinted : {X W : Type 0} → Result X (Ending W) → Cut
cut_unprinted (Err (end.Cut cut)) = cut
cut_unprinted other = cut.Out

-- a command may be cut off so: by an object that it uses, by want of memory where it takes any, and by notes where it says
-- something before its end
abbrev pub MayBeCut : Meaning → Cut → Type 0
MayBeCut m cut.Input = m.uses.input ≡ true
MayBeCut m cut.File = m.uses.files ≡ true
MayBeCut m cut.Made = m.uses.made ≡ true
MayBeCut m cut.Grown = m.uses.grown ≡ true
MayBeCut m cut.Out = m.uses.out ≡ true
MayBeCut m cut.Notes = (text : List ℕ) × m.may_say text × (text ≢ [])
MayBeCut m cut.Memory = m.uses.memory ≡ true

-- its work may end so, by the size that its file told: past the limit, or within it, unless the file failed
abbrev pub IsAllowedEnd : {X W : Type 0} → Meaning → Result X (Ending W) → Option ℕ → Type 0
IsAllowedEnd m (Ok _) told = IsSomeAnd told (λ size. IsInReach (size ∷ []))
IsAllowedEnd m (Err end.Limit) told = IsSomeAnd told (λ size. IsTooLong (size ∷ []))
IsAllowedEnd m (Err (end.At _)) told = IsSomeAnd told (λ size. IsInReach (size ∷ []))
IsAllowedEnd m (Err (end.Cut cut.File)) told = m.uses.files ≡ true
IsAllowedEnd m (Err (end.Cut cut)) told = MayBeCut m cut × IsSomeAnd told (λ size. IsInReach (size ∷ []))

-- files told sizes of which P holds
abbrev pub HaveTold : List (Option ℕ) → (List ℕ → Type 0) → Type 0
HaveTold told P = (sizes : List ℕ) × (told ≡ map Some sizes) × P sizes

-- sizes of files past a limit, by which they would be read
abbrev pub ArePast : (within : List ℕ → Type 0) → List ℕ → Type 0
ArePast within sizes = ¬ within sizes

-- the work of a command that reads several files may end so, by the sizes that they told: at the limit by these, at what it
-- doesn't go past by those, and else by such as let it go on to its work, unless a file failed
abbrev pub IsAllowedEndOfMany : {X W : Type 0} → Meaning → (past : List ℕ → Type 0) → (stops : W → List ℕ → Type 0)
    → Result X (Ending W) → List (Option ℕ) → Type 0
IsAllowedEndOfMany m past stops (Ok _) told = HaveTold told m.may_work
IsAllowedEndOfMany m past stops (Err end.Limit) told = HaveTold told past
IsAllowedEndOfMany m past stops (Err (end.At w)) told = HaveTold told (stops w)
IsAllowedEndOfMany m past stops (Err (end.Cut cut.File)) told = m.uses.files ≡ true
IsAllowedEndOfMany m past stops (Err (end.Cut cut)) told = MayBeCut m cut × HaveTold told m.may_work

-- the ends by a fault of what is read or want of memory
abbrev pub CutsReadingOff : {W : Type 0} → Ending W → Type 0
CutsReadingOff (end.Cut cut) = IsReadingCutOff (status_of cut)
CutsReadingOff other = ⊥

-- what went out of an answer when the work was cut off so: a front, up to a byte that goes to the sink that failed
abbrev pub HasPutToCut : Cut → (before after : Taken) → List ℕ → Answer → Type 0
HasPutToCut cut.Made before after held answer = HasBrokenOff Made before after held answer
HasPutToCut cut.Out before after held answer = HasBrokenOff Out before after held answer
HasPutToCut cut.Notes before after held answer = (held ≡ []) × FailedToSay before after answer
HasPutToCut other before after held answer = HasPutFront before after held answer

-- what was put of a file, of which P are the answers, when the work ended before it was done: all of an answer but its last
-- text, or where it was cut off a front
abbrev pub HasPutEarly : {W : Type 0} → (W → List ℕ) → (W → Status) → (List ℕ → Answer → Type 0)
    → Ending W → List ℕ → (before after : Taken) → List ℕ → Type 0
HasPutEarly text ended P end.Limit file before after held = HasPut P file before after held limit_text status.Limit
HasPutEarly text ended P (end.At w) file before after held = HasPut P file before after held (text w) (ended w)
HasPutEarly text ended P (end.Cut cut) file before after held =
    AreBytes file → (answer : Answer) × OfFile P (file ∷ []) answer × HasPutToCut cut before after held answer

-- the same of any end: where the work was done all of an answer was put
abbrev pub HasPutAtEnd : {X W : Type 0} → Endings X W → (List ℕ → Answer → Type 0)
    → Result X (Ending W) → List ℕ → (before after : Taken) → List ℕ → Type 0
HasPutAtEnd ends P (Ok x) file before after held = HasPut P file before after held [] (ends.done x)
HasPutAtEnd ends P (Err why) file before after held = HasPutEarly ends.text ends.status P why file before after held

-- the work ended with a status and its text, or with that of a fault of notes, which took a front of the text and not all
abbrev pub SaysAtEnd : Status → Status → SeenStream → SeenStream → List ℕ → Type 0
SaysAtEnd ended wanted before after text =
    ((ended ≡ wanted) × Takes before.bytes after.bytes text)
    ⊎ ((ended ≡ status.Notes) × Rose before.faults after.faults × TakesShort before.bytes after.bytes text)

-- so it ended in notes, of which only that and their count of faults changed
pub record EndsWith {M L : Type 0} (taken : M → Option (List ℕ)) (lent : M → L) (faults : M → ℕ)
    (ended wanted : Status) (text : List ℕ) (before after : M) : Type 0 where
  pub said : SaysAtEnd ended wanted (seen_stream taken faults before) (seen_stream taken faults after) text
  pub counts : OnlyCounts lent faults ⊥ before after

-- of notes what they borrow stays, and their count of faults never falls; where the work was done nothing was said
pub record SpeaksIn {M L : Type 0} (lent : M → L) (faults : M → ℕ) (ended : Status) (before after : M) : Type 0 where
  pub counts : OnlyCounts lent faults ⊥ before after
  pub silent : ended ≡ status.Ok → after ≡ before

-- what is said of the end in notes, and the status
abbrev pub SaysEnd : {X W : Type 0} → Endings X W → Result X (Ending W) → Status → SeenStream → SeenStream → Type 0
SaysEnd ends (Ok x) ended before after = (ended ≡ ends.done x) × (after ≡ before)
SaysEnd ends (Err end.Limit) ended before after = SaysAtEnd ended status.Limit before after limit_text
SaysEnd ends (Err (end.At w)) ended before after = SaysAtEnd ended (ends.status w) before after (ends.text w)
SaysEnd ends (Err (end.Cut cut.Notes)) ended before after = (ended ≡ status.Notes) × (after ≡ before)
SaysEnd ends (Err (end.Cut cut)) ended before after =
    (ended ≡ status_of cut) × TakesThen before after [] (fault_text (status_of cut))

-- so it ended in notes, which it left as they were where the work was done with the status `Ok`
pub record EndsInNotes {X W M L : Type 0} (taken : M → Option (List ℕ)) (lent : M → L) (faults : M → ℕ)
    (ends : Endings X W) (result : Result X (Ending W)) (ended : Status) (before after : M) : Type 0 where
  pub said : SaysEnd ends result ended (seen_stream taken faults before) (seen_stream taken faults after)
  pub speaks : SpeaksIn lent faults ended before after
