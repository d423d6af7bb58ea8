use Rattle.repair_copy.proofs.RelaidFiles.{relaid_stays}
use Rattle.repair_copy.proofs.laws.repaired_files_stay.Goals as goal

pub returns : goal.returns
returns c = λ unread_ok file place pieces others bytes h again. relaid_stays unread_ok file 0 place pieces others bytes h again
