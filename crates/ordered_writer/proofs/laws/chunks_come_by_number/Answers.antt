use Rattle.chunk_header.specs.Views.{HasRightHash, value_of_chunk}
use Rattle.ordered_writer.proofs.ByNumber.{can_hold_window, come-all, come-contained, come-values, each_from_zero, with_each-room, with_each-wanted}
use Rattle.ordered_writer.proofs.laws.chunks_come_by_number.Goals as goal

pub returns-clause-can_hold : goal.returns-clause-can_hold
returns-clause-can_hold c = λ r count chunks none room numbers. can_hold_window r count chunks (none, room, numbers)

pub returns-clause-wanted : goal.returns-clause-wanted
returns-clause-wanted c = with_each-wanted

pub returns-clause-room : goal.returns-clause-room
returns-clause-room c = with_each-room

pub returns-clause-count : goal.returns-clause-count
returns-clause-count c = λ r count chunks none room numbers. (come-contained r count chunks (none, room, numbers)).0

pub returns-clause-each : goal.returns-clause-each
returns-clause-each c = λ r count chunks none room numbers. (come-contained r count chunks (none, room, numbers)).1

pub returns-clause-values : goal.returns-clause-values
returns-clause-values c = λ r count chunks value none room numbers known. come-values value_of_chunk r count chunks value (none, room, numbers) known

pub returns-clause-right : goal.returns-clause-right
returns-clause-right c = λ r count chunks none room numbers known. come-all HasRightHash r count chunks (none, room, numbers) known

pub returns-clause-from_zero : goal.returns-clause-from_zero
returns-clause-from_zero c = each_from_zero
