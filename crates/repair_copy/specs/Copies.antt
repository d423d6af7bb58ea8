-- Inside. How far a damaged file is copied. Own.
use Rattle.std.specs.Prelude.{◌≡◌, ◌≢◌, ℕ, Bool, true, false, ◌+◌, ◌^◌, ◌≤◌, ◌⊎◌, ⊤, Option, Result, Ok, Err, List, [], ◌∷◌, ◌++◌, length, if◌then◌else◌, OnOk}
use Rattle.std.specs.List.{AllByRecursion}
use Rattle.std.specs.Fn.{Shared}
use denote.Ref.{Bor}
use Rattle.record_io.specs.Calls.{OnlyCounts}
use Rattle.record_io.specs.Outside.{Rose, Takes, TakesShort}
use Rattle.record_io.specs.Puts.{Made, Notes, Put, Taken, puts_to, GoOut, BreaksOff}
use Rattle.record_io.specs.Buffers.{GoOutOrAreHeld}
use Rattle.chunk_header.specs.Views.{HasRightHash, value_of_chunk}
use Rattle.chunk_header.specs.declared.Chunk.{Chunk}
use Rattle.meta_chunk.specs.Files.{is_unread, totals_of, signature, end_of_chunks}
use Rattle.meta_chunk.specs.Laid.{end_of_chunk}
use Rattle.record_writer.specs.MadeFiles.{MadeFileValue, Lays, nothing_made, totals_made}
use Rattle.damage_skip.specs.Pieces.{Piece}
use Rattle.damage_skip.specs.Policies.{IsAllowedRegion}
use Rattle.damage_skip.specs.Regions.{regions_in, skipped_text, IsWalkedTo}
use Rattle.damage_skip.specs.declared.events.Event.{Event}
use Rattle.damage_skip.specs.declared.events.Event.TheVariants as event
use Rattle.damage_skip.specs.declared.regions.Region.{Region}
use Rattle.repair_copy.specs.RepairPuts.{chunks_in, puts_from, repair_puts}
use Rattle.repair_copy.specs.declared.copying.Copied.{Copied}
use Rattle.repair_copy.specs.declared.repairs.RepairEnd.{RepairEnd}
use Rattle.repair_copy.specs.declared.repairs.RepairEnd.TheVariants as end

-- a chunk of which it is said whether it is left unread has the hash of its data, and ends within reach where it is laid at a
-- place
pub record IsFit (place : ℕ) (chunk : Chunk) (unread : Bool) : Type 0 where
  pub right : HasRightHash chunk
  pub in_reach : end_of_chunk place (value_of_chunk chunk) ≤ 2 ^ 62
  pub unread_is : unread ≡ is_unread (value_of_chunk chunk)

-- so has the chunk of an event, if it has one
abbrev pub FitsAt : ℕ → Event → Type 0
FitsAt place (event.Records begin records chunk) = IsFit place chunk false
FitsAt place (event.Kept begin chunk unread) = IsFit place chunk unread
FitsAt place (event.Skipped region) = ⊤

-- what is put broke off at the sink that failed
abbrev pub BreaksOffBy : RepairEnd → (part all : List Put) → Type 0
BreaksOffBy end.Made part all = BreaksOff Made part all
BreaksOffBy end.Notes part all = BreaksOff Notes part all
BreaksOffBy other part all = ⊥

-- where the next chunk is laid: the signature comes before the first
abbrev pub next_chunk_place : Copied → ℕ
next_chunk_place copied = if copied.begun then copied.file.place else end_of_chunks 0 (signature ∷ [])

-- the signature was put, or had been
abbrev pub Begins : (made_before made_after : Option (List ℕ)) → (old new : Copied) → Type 0
Begins made_before made_after old new =
    ((old.begun ≡ true) × (new ≡ old) × (made_after ≡ made_before))
    ⊎ ((old.begun ≡ false) × (new.begun ≡ true) × (new.regions ≡ old.regions)
    × Lays made_before made_after nothing_made new.file (signature ∷ []))

-- what is put of an event that is copied behind what is held
abbrev pub puts_behind : MadeFileValue → Piece → List Put
puts_behind file event = puts_to Made file.held ++ puts_from file.place (event ∷ [])

-- an event was copied: its chunk was laid and its line taken, in this order, and it was counted if it is a region
pub record Copies (before after : Taken) (old new : Copied) (event : Piece) : Type 0 where
  pub chunks : Lays before.made after.made old.file new.file (chunks_in (event ∷ []))
  pub puts : GoOutOrAreHeld before after Made (puts_behind old.file event) new.file.held
  pub begun : new.begun ≡ old.begun
  pub regions : new.regions ≡ old.regions + length (regions_in (event ∷ []))

-- a sink cut the copying of an event off
pub record CopiesFront (end : RepairEnd) (before after : Taken) (old : MadeFileValue) (event : Piece) : Type 0 where
  pub part : List Put
  pub went : GoOut before after part
  pub broken : BreaksOffBy end part (puts_behind old event)

-- whichever came of it
abbrev pub CopiesTo : {X : Type 0} → Result X RepairEnd → (before after : Taken) → (old new : Copied) → Piece → Type 0
CopiesTo (Ok _) before after old new event = Copies before after old new event
CopiesTo (Err end) before after old new event = CopiesFront end before after old.file event

-- what notes took of a line where a sink cut the work off: a front and not all where they failed, and else nothing
abbrev pub TakesLine : RepairEnd → Option (List ℕ) → Option (List ℕ) → List ℕ → Type 0
TakesLine end.Made before after line = Takes before after []
TakesLine end.Notes before after line = TakesShort before after line
TakesLine other before after line = ⊥

-- the line of an event went to notes, all of it, or where the work was cut off what they took of it; the made file and notes only
-- count their faults
pub record TellsLine {M N K L X : Type 0} (made_lent : M → K) (made_faults : M → ℕ) (notes_taken : N → Option (List ℕ)) (notes_lent : N → L)
    (notes_faults : N → ℕ) (result : Result X RepairEnd) (line : List ℕ) (made made_then : M) (notes notes_then : N) : Type 0 where
  pub whole : OnOk result (Takes (notes_taken notes) (notes_taken notes_then) line)
  pub front : (end : RepairEnd) → result ≡ Err end → TakesLine end (notes_taken notes) (notes_taken notes_then) line
  pub made_counts : OnlyCounts made_lent made_faults (result ≡ Err end.Made) made made_then
  pub notes_counts : OnlyCounts notes_lent notes_faults (result ≡ Err end.Notes) notes notes_then

-- an event was copied: the made file goes on behind its chunk, and it is counted if it is a region; else nothing was told
pub record IsPast {N : Type 0} (event : Piece) (old new : Copied) (notes notes_then : N) : Type 0 where
  pub begun : new.begun ≡ true
  pub going : new.file.spent ≡ false
  pub place : new.file.place ≡ end_of_chunks (next_chunk_place old) (chunks_in (event ∷ []))
  pub regions : new.regions ≡ old.regions + length (regions_in (event ∷ []))
  pub quiet : new.regions ≡ old.regions → notes_then ≡ notes

-- a file was begun, and events from the front of another were copied into it
pub record HasBegun (before after : Taken) (copied : Copied) (events : List Piece) : Type 0 where
  pub begun : copied.begun ≡ true
  pub chunks : Lays before.made after.made nothing_made copied.file (signature ∷ chunks_in events)
  pub puts : GoOutOrAreHeld before after Made (repair_puts events) copied.file.held
  pub regions : copied.regions ≡ length (regions_in events)

-- nothing was put yet
pub record IsUnbegun (before after : Taken) (copied : Copied) (events : List Piece) : Type 0 where
  pub unbegun : copied.begun ≡ false
  pub file : copied.file ≡ nothing_made
  pub regions : copied.regions ≡ 0
  pub none : events ≡ []
  pub same : after ≡ before

-- events from the front of a file were copied; before the first one nothing is put
abbrev pub HasCopied : (before after : Taken) → Copied → List Piece → Type 0
HasCopied before after copied events =
    IsUnbegun before after copied events ⊎ (HasBegun before after copied events × (events ≢ []))

-- all that is put of these events went out, and nothing is held
pub record HasPutAll (before after : Taken) (copied : Copied) (events : List Piece) : Type 0 where
  pub puts : GoOut before after (repair_puts events)
  pub totals : totals_made copied.file ≡ totals_of (signature ∷ chunks_in events)
  pub regions : copied.regions ≡ length (regions_in events)

-- what is put of these events broke off
pub record HasCopiedFront (end : RepairEnd) (before after : Taken) (events : List Piece) : Type 0 where
  pub part : List Put
  pub went : GoOut before after part
  pub broken : BreaksOffBy end part (repair_puts events)

-- these events were copied, or a sink cut that off
abbrev pub HasCopiedTo : {X : Type 0} → Result X RepairEnd → (before after : Taken) → Copied → List Piece → Type 0
HasCopiedTo (Ok _) before after copied events = HasBegun before after copied events
HasCopiedTo (Err end) before after copied events = HasCopiedFront end before after events

-- all of them went out, or the made file cut that off
abbrev pub HasPutTo : {X E : Type 0} → Result X E → (before after : Taken) → Copied → List Piece → Type 0
HasPutTo (Ok _) before after copied events = HasPutAll before after copied events
HasPutTo (Err _) before after copied events = HasCopiedFront end.Made before after events

-- of what is put of events all went out, or a front where the made file, of these counts of faults, failed; and of no events
-- nothing
abbrev pub WentOutAtFault : (faults faults_then : ℕ) → List Piece → List Put → Type 0
WentOutAtFault faults faults_then [] part = part ≡ []
WentOutAtFault faults faults_then (event ∷ events) part =
    (part ≡ repair_puts (event ∷ events))
    ⊎ (Rose faults faults_then × (rest : List ℕ) × (repair_puts (event ∷ events) ≡ part ++ puts_to Made rest))

-- what is put of these events went out at a fault
pub record HasPutAtFault (faults faults_then : ℕ) (before after : Taken) (events : List Piece) : Type 0 where
  pub part : List Put
  pub went : WentOutAtFault faults faults_then events part
  pub took : GoOut before after part

-- events of a file up to a place were copied
pub record HasWalked {F : Type 0} (test : Shared F (Bor Region × Unit {0}) Bool) (f : F) (place : ℕ) (copied : Copied)
    (before after : Taken) (file : List ℕ) : Type 0 where
  pub events : List Piece
  pub walked : IsWalkedTo true (IsAllowedRegion test f) file place events
  pub copies : HasCopied before after copied events

-- so many regions were passed over, and their lines taken
pub record HasSkipped {F : Type 0} (test : Shared F (Bor Region × Unit {0}) Bool) (f : F) (count : ℕ) (before after : Option (List ℕ)) : Type 0 where
  pub regions : List Region
  pub allowed : AllByRecursion (IsAllowedRegion test f) regions
  pub lines : Takes before after (skipped_text regions)
  pub counted : count ≡ length regions
