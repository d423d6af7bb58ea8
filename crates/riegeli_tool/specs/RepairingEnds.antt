-- Inside. How the work of `repair` ends. Own.
use Rattle.damage_skip.specs.declared.regions.Region.{Region}
use Rattle.repair_copy.specs.declared.repairs.RepairEnd.{RepairEnd}
use Rattle.command_frame.specs.declared.ending.Ending.{Ending}
use Rattle.repair_copy.specs.declared.repairs.RepairEnd.TheVariants as repair
use Rattle.record_io.specs.declared.cut.Cut.TheVariants as cut
use Rattle.command_frame.specs.declared.ending.Ending.TheVariants as end

-- the end by which the repair of a file ended
abbrev pub end_of_repair : RepairEnd → Ending Region
end_of_repair (repair.Stopped region) = end.At region
end_of_repair repair.Store = end.Cut cut.File
end_of_repair repair.Made = end.Cut cut.Made
end_of_repair repair.Notes = end.Cut cut.Notes
end_of_repair repair.Memory = end.Cut cut.Memory
