-- Inside. What a feed of lines still gives. Own.
use Rattle.std.specs.Prelude.{◌≡◌, ℕ, ◌+◌, ◌-◌, ◌<◌, ◌≤◌, Bool, Option, Some, IfSome, Result, OnOk, List, [], ◌∷◌, ◌++◌, length, take, drop, option_map}
use Rattle.record_io.specs.Outside.{Rose}
use Rattle.record_io.specs.Seen.{SeenStream}
use Rattle.record_writer.specs.Feeds.{Rest}
use Rattle.record_writer.specs.FeedSteps.{Origin}
use Rattle.command_frame.specs.OpenLines.{NoneEnds}
use Rattle.command_frame.specs.RunTakes.{TakesAtMost}
use Rattle.write_command.specs.Input.{most_input_taken, record_of_line, taken_before, taken_from}

-- the bytes that are held, and then those that the input has left, where it shows them
abbrev pub text_of : List ℕ → Option (List ℕ) → Option (List ℕ)
text_of held left = option_map (λ bytes. held ++ bytes) left

-- what is taken from a text of which fewer than so many bytes are read
abbrev pub rest_of : Bool → ℕ → Option (List ℕ) → Option Rest
rest_of hex bound text = option_map (λ bytes. taken_from bytes hex (bound - 1)) text

-- what a feed of lines reads: an input of this name, of which so many more bytes are asked, and all others are left
abbrev pub origin_of : (name asked : ℕ) → Option (List ℕ) → Origin
origin_of name asked left = record { name = name; spared = option_map (λ bytes. length bytes - asked) left }

-- a call asks nothing of a feed's input: that is as before, as is what is still asked of it, and in what form its lines are
pub record AsksNothing {F I : Type 0} (before after : F) (hex : F → Bool) (asked : F → ℕ) (input : F → I) (name : F → ℕ) : Type 0 where
  pub same_form : hex after ≡ hex before
  pub same_asked : asked after ≡ asked before
  pub same_input : input after ≡ input before
  pub same_name : name after ≡ name before

-- where a feed showed what was to come, the first of it was what this line stands for
abbrev pub GivesLine : Bool → Option Rest → Option Rest → List ℕ → Type 0
GivesLine hex before after line =
    IfSome before (λ r. (later : Rest) × (after ≡ Some later) × (r ≡ taken_before (record_of_line hex line) later))

-- a call reads an input: all of it where it went well, and at most so many bytes in any case; and the input's count of faults never
-- falls, and rises where the call says that the input failed
pub record ReadsLines {X E : Type 0} (result : Result X E) (Fails : Type 0) (before after : SeenStream) : Type 0 where
  pub to_end : OnOk result (IfSome before.bytes (λ _. after.bytes ≡ Some []))
  pub taken : TakesAtMost most_input_taken before.bytes after.bytes
  pub cause : Fails → Rose before.faults after.faults
  pub never_falls : before.faults ≤ after.faults

-- the first byte 10 stands behind so many others
abbrev pub LineEndsAt : List ℕ → ℕ → Type 0
LineEndsAt bytes n = (n < length bytes) × NoneEnds (take n bytes) × (bytes ≡ take n bytes ++ 10 ∷ drop (n + 1) bytes)
