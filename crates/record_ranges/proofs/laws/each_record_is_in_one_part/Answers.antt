use Rattle.std.proofs.Common.{arith}
use Rattle.record_ranges.proofs.AllParts.{some_part, one_part, in_its_part}
use Rattle.record_ranges.proofs.laws.each_record_is_in_one_part.Goals as goal

pub returns : goal.returns
returns c = record {
  some = λ size position cuts rise below. some_part size 0 position cuts (omega arith) below;
  one = λ size position a b cuts rise h g. one_part size 0 position a b cuts rise h g;
  there = λ size number i position bytes cuts placed at h. in_its_part size 0 number i position bytes cuts placed at h;
}
