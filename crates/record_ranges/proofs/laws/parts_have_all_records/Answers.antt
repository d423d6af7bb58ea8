use Rattle.record_ranges.proofs.AllParts.{all_records, count_parts, one_parting}
use Rattle.record_ranges.proofs.laws.parts_have_all_records.Goals as goal

pub returns : goal.returns
returns c = record {
  joined = all_records;
  count = λ size cuts placed. count_parts size 0 cuts placed;
  one = one_parting;
}
