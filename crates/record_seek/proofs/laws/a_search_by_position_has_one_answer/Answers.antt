use Rattle.record_seek.proofs.JudgedSearch.{given_or_not}
use Rattle.record_seek.proofs.OneSearch.{given_is_one, given_or_fault, search_fault_is_one}
use Rattle.record_seek.proofs.laws.a_search_by_position_has_one_answer.Goals as goal

pub returns : goal.returns
returns c = record { one = given_is_one; one_fault = search_fault_is_one; apart = given_or_fault; judged = given_or_not }
