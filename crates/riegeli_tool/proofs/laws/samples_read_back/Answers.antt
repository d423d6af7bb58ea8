use Rattle.sample_command.specs.SampleCommand.{sampled}
use Rattle.sample_command.proofs.Drawings.{sample_of-records}
use Rattle.riegeli_tool.proofs.ReadBack.{written-faultless, written-records}
use Rattle.riegeli_tool.proofs.laws.samples_read_back.Goals as goal

pub returns : goal.returns
returns c = record {
  faultless = λ words within.
      written-faultless (sampled words) words.options.size words.options.every words.options.pad (sample_of-records words.seed words.count) within.size;
  records = λ words ks within is.
      written-records (sampled words) words.options.size words.options.every words.options.pad (sample_of-records words.seed words.count) within.size ks is.1;
}
