-- Promise. What a run ends with. Own.
use Rattle.std.specs.Prelude.{ℕ, List, []}
use lib.Chars.{codes}
use Rattle.command_frame.specs.declared.status.Status.{Status}
use Rattle.command_frame.specs.declared.status.Status.TheVariants as status

-- the exit status of the program
abbrev pub number_of : Status → ℕ
number_of status.Ok = 0
number_of status.Refused = 1
number_of status.Usage = 2
number_of status.Input = 3
number_of status.File = 4
number_of status.Made = 5
number_of status.Out = 6
number_of status.Memory = 7
number_of status.Limit = 8
number_of status.Skipped = 9
number_of status.Stopped = 10
number_of status.NotFound = 11
number_of status.BadLine = 12
number_of status.Notes = 13
number_of status.Differ = 14
number_of status.Grown = 15

-- the line that tells a fault of an object but notes, or want of memory, and nothing for another status
abbrev pub fault_text : Status → List ℕ
fault_text status.Input = codes "input fault\n"
fault_text status.File = codes "file fault\n"
fault_text status.Made = codes "made fault\n"
fault_text status.Grown = codes "grown fault\n"
fault_text status.Out = codes "out fault\n"
fault_text status.Memory = codes "out of memory\n"
fault_text other = []
