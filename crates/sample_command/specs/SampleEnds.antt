-- Inside. What the sinks of `sample` took, by how its work ended. Own.
use Rattle.std.specs.Prelude.{◌≡◌, ℕ, Option, Result, Ok, Err, List}
use Rattle.record_io.specs.Outside.{Takes, TakesShort}
use Rattle.record_io.specs.Calls.{TakesFront}
use Rattle.record_io.specs.declared.cut.Cut.{Cut}
use Rattle.record_io.specs.declared.cut.Cut.TheVariants.{Made, Out, Memory}
use Rattle.sample_command.specs.declared.sample_words.SampleWords.{SampleWords}
use Rattle.sample_command.specs.SampleCommand.{sample_file, sample_summary}

-- the made file and standard output took the file and its summary, or where the work was cut off a front of these, and not all
-- of what goes to the one that failed; nothing else cuts it off than these two and want of memory
abbrev pub TakeSample : {X : Type 0} → Result X Cut → SampleWords → (made made_then out out_then : Option (List ℕ)) → Type 0
TakeSample (Ok x) words made made_then out out_then = Takes made made_then (sample_file words) × Takes out out_then (sample_summary words)
TakeSample (Err Made) words made made_then out out_then = TakesShort made made_then (sample_file words) × (out_then ≡ out)
TakeSample (Err Out) words made made_then out out_then = Takes made made_then (sample_file words) × TakesShort out out_then (sample_summary words)
TakeSample (Err Memory) words made made_then out out_then = TakesFront made made_then (sample_file words) × (out_then ≡ out)
TakeSample (Err other) words made made_then out out_then = ⊥
