use Rattle.std.proofs.Common.{inl}
use Rattle.record_join.proofs.JoinedFiles.{chunks_of_each, joined-IsFileOf, joined-at_most, joined-no_fault, joined-records}
use Rattle.record_join.proofs.laws.joined_files_are_one_file.Goals as goal

pub returns : goal.returns
returns c = record {
  well_formed = λ lists files some h. joined-IsFileOf (λ k plain. inl plain) lists files some h;
  file = λ lists files some h. joined-IsFileOf (λ k plain. plain) lists files some h;
  records = joined-records;
  chunks = chunks_of_each;
  no_fault = joined-no_fault;
  size = joined-at_most;
}
