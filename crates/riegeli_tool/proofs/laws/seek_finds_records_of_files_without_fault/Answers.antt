use Rattle.seek_command.proofs.FoundInFiles.{position-prints, key-prints}
use Rattle.riegeli_tool.proofs.laws.seek_finds_records_of_files_without_fault.Goals as goal

pub returns : goal.returns
returns c = record {
  position = λ words position ks file placed answer is whole reach are answered.
      position-prints ks file whole reach words position placed answer is are answered;
  key = λ words key ks file placed count answer is whole reach are front answered.
      key-prints ks file whole reach words key placed count answer is are front answered;
}
