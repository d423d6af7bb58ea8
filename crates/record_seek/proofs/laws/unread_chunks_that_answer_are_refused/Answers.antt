use Rattle.record_seek.proofs.AnsweringChunks.{compressed_answers, transposed_answers, only_unread}
use Rattle.record_seek.proofs.laws.unread_chunks_that_answer_are_refused.Goals as goal

pub returns : goal.returns
returns c = record {
  compressed = λ ks file position j k well_formed reach answers unread compressed.
      compressed_answers ks file well_formed reach position j k answers unread compressed;
  transposed = λ ks file position j k well_formed reach answers unread transposed.
      transposed_answers ks file well_formed reach position j k answers unread transposed;
  no_other = λ ks file position fault well_formed reach refused. only_unread ks file well_formed reach position fault refused;
}
