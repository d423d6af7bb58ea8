-- Inside. How a call that writes answers. Own.
use Rattle.std.specs.Prelude.{Option, Some, None, Result, Ok, Err}
use Rattle.record_values.specs.declared.file_totals.Totals.{Totals}
use Rattle.record_writer.specs.declared.feed.Stop.{Stop}
use Rattle.record_writer.specs.declared.feed.Stop.TheVariants.{TooLong as too_long, InputTooLong as input_too_long, BadLine as bad_line}
use Rattle.record_writer.specs.declared.cut_off.CutOff.{CutOff}
use Rattle.record_writer.specs.declared.cut_off.CutOff.TheVariants.{Input as input, Made as made, Memory as memory}
use Rattle.record_writer.specs.declared.engine.WriteEnd.{WriteEnd}
use Rattle.record_writer.specs.declared.engine.WriteEnd.TheVariants.{TooLong, InputTooLong, BadLine, Input, Made, Memory}

-- where the work was cut off
abbrev pub end_of_cut : CutOff → WriteEnd
end_of_cut input = Input
end_of_cut made = Made
end_of_cut memory = Memory

-- where the records ended with a stop or with none, and these are the totals of their file
abbrev pub answer_of : Option Stop → Totals → Result Totals WriteEnd
answer_of None totals = Ok totals
answer_of (Some too_long) totals = Err (TooLong totals.records)
answer_of (Some input_too_long) totals = Err InputTooLong
answer_of (Some bad_line) totals = Err (BadLine totals.records)
