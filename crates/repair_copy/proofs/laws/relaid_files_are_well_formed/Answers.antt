use Rattle.std.proofs.Common.{◌∷◌, false}
use Rattle.meta_chunk.specs.Files.{signature}
use Rattle.repair_copy.specs.RepairPuts.{chunks_in}
use Rattle.repair_copy.proofs.RelaidFiles.{relaid_file, relaid_well_formed, relaid_records, relaid_walk}
use Rattle.repair_copy.proofs.RelaidBytes.{AreBytes-relaid}
use Rattle.repair_copy.proofs.laws.relaid_files_are_well_formed.Goals as goal

pub returns : goal.returns
returns c = record {
  file = λ unread_ok file place pieces bytes h. relaid_file unread_ok file 0 place pieces bytes h;
  well_formed = λ unread_ok file place pieces bytes h. relaid_well_formed unread_ok file 0 place pieces bytes h;
  plain = λ file place pieces bytes h. relaid_file false file 0 place pieces bytes h;
  bytes = AreBytes-relaid;
  no_fault = λ unread_ok file place pieces bytes h. (signature ∷ chunks_in pieces, relaid_well_formed unread_ok file 0 place pieces bytes h);
  records = λ unread_ok file place pieces h. relaid_records unread_ok file 0 place pieces h;
  events = relaid_walk;
}
