-- Inside. What is wanted where writing goes on behind what a call wrote. Own.
use Rattle.record_group.specs.declared.pad.Pad.{Pad}
use Rattle.record_group.specs.declared.pad.Pad.TheVariants.{No, Start, End, Both}

-- the padding that is wanted once a call has laid what stands before the chunks of records
abbrev pub pad_behind : Pad → Pad
pad_behind No = No
pad_behind Start = No
pad_behind End = End
pad_behind Both = End
