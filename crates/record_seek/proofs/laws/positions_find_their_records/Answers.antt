use Rattle.chunk_reader.proofs.HeadersTell.{lies_of}
use Rattle.record_seek.proofs.AnsweringChunks.{read_answers}
use Rattle.record_seek.proofs.FirstRecords.{first_record, none_answers, nothing_is_given, answering_there}
use Rattle.record_seek.proofs.Searching.{answering_of}
use Rattle.record_seek.proofs.laws.positions_find_their_records.Goals as goal

pub returns : goal.returns
returns c = record {
  answers = λ ks file position place well_formed reach below answers.
      let holder = lies_of ks file well_formed position below in
      answering_of ks file well_formed reach position holder.0 holder.1 place answers;
  answering = λ ks file position j k well_formed reach answers. answering_there ks file well_formed reach position j k answers;
  nothing = λ ks file position well_formed reach. (none_answers ks file well_formed reach position, nothing_is_given ks file well_formed reach position);
  first = λ ks file position placed found well_formed reach all sought.
      first_record ks file well_formed reach position placed found sought.answers.searched.holds.on_way.below all sought;
  read = λ ks file position j k placed well_formed reach all answers plain. read_answers ks file well_formed reach position j k placed all answers plain;
}
