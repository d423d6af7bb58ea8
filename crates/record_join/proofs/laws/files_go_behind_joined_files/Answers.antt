use Rattle.record_join.proofs.JoinedFiles.{boundaries, joined-front, joined-more}
use Rattle.record_join.proofs.laws.files_go_behind_joined_files.Goals as goal

pub returns : goal.returns
returns c = record {
  more = λ files file h. joined-more files file (boundaries files h);
  front = joined-front;
}
