use Rattle.simple_chunk.proofs.Parts.{length-parts_from}
use Rattle.riegeli_c.proofs.RecordCuts.{given-cut}
use Rattle.riegeli_c.proofs.laws.records_are_cut.Goals as goal

pub returns : goal.returns
returns c = record {
  given = λ values ends cuts. given-cut values ends cuts;
  count = λ values ends. length-parts_from 0 ends values;
}
