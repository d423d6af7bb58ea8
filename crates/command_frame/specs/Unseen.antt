-- Inside. What stands where nothing is shown, and what is read where no file is grown. Own.
use Rattle.std.specs.Prelude.{ℕ, None, List, []}
use Rattle.record_io.specs.Seen.{SeenStream}
use Rattle.command_frame.specs.Meanings.{Read}

-- what is read where no file is grown
abbrev pub reads : List ℕ → List (List ℕ) → Read
reads input files = record { input = input; files = files; grown = [] }

-- what stands where a clause says what is shown
abbrev pub unseen : SeenStream
unseen = record { bytes = None; faults = 0 }
