use Rattle.record_collect.proofs.PlaceSteps.{are_placed, records_placed}
use Rattle.record_collect.proofs.laws.positions_are_those_of_the_file.Goals as goal

pub returns-clause-placed : goal.returns-clause-placed
returns-clause-placed c = are_placed

pub returns-clause-records : goal.returns-clause-records
returns-clause-records c = records_placed
