-- Inside. How searches end before they are done. Own.
use Rattle.chunk_reader.specs.declared.reasons.ReadEnd.{ReadEnd}
use Rattle.chunk_reader.specs.declared.reasons.ReadEnd.TheVariants as read
use Rattle.chunk_reader.specs.declared.reasons.VerifyEnd.{VerifyEnd}
use Rattle.chunk_reader.specs.declared.reasons.VerifyEnd.TheVariants as verify
use Rattle.record_seek.specs.declared.holders.HolderEnd.{HolderEnd}
use Rattle.record_seek.specs.declared.holders.HolderEnd.TheVariants as holder

-- an end of reading headers, as one of the search for a holder
abbrev pub holder_end_of : VerifyEnd → HolderEnd
holder_end_of (verify.Refused fault) = holder.Refused fault
holder_end_of verify.Store = holder.Store

-- such an end, as one of reading that may take memory
abbrev pub read_end_of_holder : HolderEnd → ReadEnd
read_end_of_holder (holder.Refused fault) = read.Refused fault
read_end_of_holder holder.Store = read.Store
