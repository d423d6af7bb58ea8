use Rattle.std.proofs.Common.{◌∙◌, length, sym, arith}
use Rattle.meta_chunk.proofs.Begins.{begin_of-past, begin_of-place}
use Rattle.meta_chunk.proofs.Totals.{is_unread-iff, AreRecordsOf-counted}
use Rattle.meta_chunk.proofs.laws.totals_are_counted.Goals as goal

pub returns : goal.returns
returns c = record {
  unread = is_unread-iff;
  records = AreRecordsOf-counted;
  bytes = λ ks file place within h.
      sym (begin_of-past ks (length ks) (omega arith)) ∙ begin_of-place ks file place within h;
}
