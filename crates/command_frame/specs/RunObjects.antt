-- Promise. What the objects of a run show. Own.
use Rattle.std.specs.Prelude.{◌≡◌, ℕ, ◌≤◌, true, Some, List, map, slice_get}
use Rattle.record_io.specs.Seen.{SeenStream, SeenFile}
use Rattle.record_io.specs.Puts.{Taken, taken_by}
use Rattle.record_io.specs.Outside.{Rose}
use Rattle.command_frame.specs.Meanings.{Uses}

-- what the objects of a run show
pub record Seen : Type 0 where
  pub input : SeenStream
  pub files : List SeenFile
  pub made : SeenStream
  pub grown : SeenFile
  pub out : SeenStream
  pub notes : SeenStream

abbrev pub seen : (input : SeenStream) (files : List SeenFile) (made : SeenStream) (grown : SeenFile) (out notes : SeenStream) → Seen
seen input files made grown out notes =
    record { input = input; files = files; made = made; grown = grown; out = out; notes = notes }

-- how many bytes files have handed out
abbrev pub handed_by : List SeenFile → List ℕ
handed_by files = map (λ file. file.handed) files

-- what the sinks of a run have taken
abbrev pub taken_in : Seen → Taken
taken_in objects = taken_by objects.made.bytes objects.out.bytes objects.notes.bytes

-- the count of faults of one of the files rose, or stands at its greatest
abbrev pub OneRose : List SeenFile → List SeenFile → Type 0
OneRose before after =
    (place : ℕ) × (a : SeenFile) × (b : SeenFile)
    × (slice_get before place ≡ Some a) × (slice_get after place ≡ Some b) × Rose a.faults b.faults

-- neither the count of faults of the made file nor that of standard output rose or stands at its greatest, where they are used
pub record HadNoSinkFault (uses : Uses) (before after : Seen) : Type 0 where
  pub made : uses.made ≡ true → ¬ Rose before.made.faults after.made.faults
  pub out : uses.out ≡ true → ¬ Rose before.out.faults after.out.faults

-- no count of faults fell
pub record NoneFell (before after : Seen) : Type 0 where
  pub input : before.input.faults ≤ after.input.faults
  pub files : (place : ℕ) (a b : SeenFile) → slice_get before.files place ≡ Some a → slice_get after.files place ≡ Some b → a.faults ≤ b.faults
  pub made : before.made.faults ≤ after.made.faults
  pub grown : before.grown.faults ≤ after.grown.faults
  pub out : before.out.faults ≤ after.out.faults
  pub notes : before.notes.faults ≤ after.notes.faults
