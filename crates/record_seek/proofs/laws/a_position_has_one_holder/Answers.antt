use Rattle.record_seek.proofs.JudgedSearch.{held_or_not}
use Rattle.record_seek.proofs.OneHolder.{holder_is_one, holder_or_fault, holder_fault_is_one}
use Rattle.record_seek.proofs.laws.a_position_has_one_holder.Goals as goal

pub returns : goal.returns
returns c = record { one = holder_is_one; one_fault = holder_fault_is_one; apart = holder_or_fault; judged = held_or_not }
