use Rattle.chunk_reader.proofs.WellFormedFiles.{readable_of_well_formed}
use Rattle.record_seek.proofs.MetPlaces.{met_boundary, met_within, met_begin, no_met_fault}
use Rattle.record_seek.proofs.laws.met_places_are_boundaries.Goals as goal

pub returns : goal.returns
returns c = record {
  boundary = λ file place here. (met_boundary here, met_within here);
  begins = λ ks file place well_formed reach here. met_begin ks well_formed reach here;
  no_fault = λ ks file fault plain reach. no_met_fault ks file fault ((readable_of_well_formed ks file).1 plain).0 plain reach;
}
