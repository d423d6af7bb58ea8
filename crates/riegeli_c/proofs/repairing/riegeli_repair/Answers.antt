use Rattle.std.proofs.Common.{rules, length, inr, arith}
use Rattle.riegeli_c.specs.Repairs.{ExceedsRoom}
use Rattle.riegeli_c.proofs.EnoughRoom.{enough_room}
use Rattle.riegeli_c.proofs.repairing.riegeli_repair.Goals as goal

pub returns-in-Some-clause-enough : goal.returns-in-Some-clause-enough
returns-in-Some-clause-enough c = λ told measures bytes room _.
    let exceeds : ExceedsRoom c.args.file.now c.args.most (length c.args.room.now) (length c.args.lines.now) = search rules in
    enough_room c.args.file.now c.args.most (length c.args.room.now) (length c.args.lines.now) told (omega arith) (omega arith) measures
    bytes room exceeds

pub returns-in-None-clause-memory : goal.returns-in-None-clause-memory
returns-in-None-clause-memory c = λ _.
    let exceeds : ExceedsRoom c.args.file.now c.args.most (length c.args.room.now) (length c.args.lines.now) = search rules in
    inr (search rules, exceeds)
