use Rattle.chunk_reader.proofs.FileFaults.{fault_is_one, verdict_is_one, fault_or_none, fault_place, no_signature-iff}
use Rattle.chunk_reader.proofs.FaultsDecided.{file_judged, faultless-iff}
use Rattle.chunk_reader.proofs.laws.a_file_has_one_fault_or_none.Goals as goal

pub returns : goal.returns
returns c = record {
  one = fault_is_one;
  verdict = verdict_is_one;
  apart = fault_or_none;
  judged = file_judged;
  none = faultless-iff;
  place = fault_place;
  reason = no_signature-iff;
}
