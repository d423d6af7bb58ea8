-- Lists of numbers, one for each pass.
use Rattle.std.proofs.Common.{◌≡◌, ◌∙◌, List, length, map}
use Rattle.std.proofs.lemmas.List.{length-map}
use Rattle.std.proofs.lemmas.Slice.Zip.{AllZip-long}
use Rattle.record_collect.specs.Gatherings.{GatheredValue, StandAt}
use Rattle.record_collect.specs.Passes.{AreGathered, PassValue, pass_records}

-- each pass has one
pub one_each : (passes : List PassValue) (made : GatheredValue) → AreGathered passes made → length made.numbers ≡ length passes
one_each passes made gathered =
    AllZip-long (StandAt made.records) (map pass_records passes) made.numbers gathered.woven.each ∙ length-map passes pass_records
