-- Inside. Why an append ended, by how what it calls ended. Own.
use Rattle.chunk_reader.specs.declared.reasons.VerifyEnd.{VerifyEnd}
use Rattle.chunk_reader.specs.declared.reasons.VerifyEnd.TheVariants as verify
use Rattle.record_writer.specs.declared.engine.WriteEnd.{WriteEnd}
use Rattle.record_writer.specs.declared.engine.WriteEnd.TheVariants as write
use Rattle.record_append.specs.declared.appends.AppendEnd.{AppendEnd}
use Rattle.record_append.specs.declared.appends.AppendEnd.TheVariants.{Refused, TooLong, InputTooLong, BadLine, Input, Device, Memory}

-- where the old file was judged, in the device as a store
abbrev pub end_of_verify : VerifyEnd → AppendEnd
end_of_verify (verify.Refused fault) = Refused fault
end_of_verify verify.Store = Device

-- where records were written behind the old file's, to the device as a sink
abbrev pub end_of_write : WriteEnd → AppendEnd
end_of_write (write.TooLong count) = TooLong count
end_of_write write.InputTooLong = InputTooLong
end_of_write (write.BadLine count) = BadLine count
end_of_write write.Input = Input
end_of_write write.Made = Device
end_of_write write.Memory = Memory
