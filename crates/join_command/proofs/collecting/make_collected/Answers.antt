use Rattle.command_frame.specs.Endings.{ArePast}
use Rattle.std.proofs.Common.{◌∙◌, Some, sym, refl}
use Rattle.record_io.proofs.ManyStores.{same_bytes}
use Rattle.command_frame.proofs.AskedFiles.{asks-alone, asks-work, none_past, one_past}
use Rattle.command_frame.specs.FileAnswers.{most_file_bytes}
use Rattle.join_command.specs.CollectCommand.{collect_meaning}
use Rattle.join_command.specs.CollectingEnds.{AreEachInReach}
use Rattle.join_command.proofs.collecting.make_collected.Goals as goal

pub returns-in_default-clause-files : goal.returns-in_default-clause-files
returns-in_default-clause-files g c =
    asks-alone g.S.Store.bytes g.S.Store.told g.S.Store.handed g.S.Store.name g.S.Store.faults collect_meaning (ArePast AreEachInReach) (λ _. AreEachInReach) _
    c.args.files.now c.ask_sizes.new.files refl c.in_default.ensures.in_order (λ failed. refl) c.in_default.ensures.files

pub returns-then-is_one_past-clause-files : goal.returns-then-is_one_past-clause-files
returns-then-is_one_past-clause-files g c =
    asks-alone g.S.Store.bytes g.S.Store.told g.S.Store.handed g.S.Store.name g.S.Store.faults collect_meaning (ArePast AreEachInReach) (λ _. AreEachInReach) _
    c.args.files.now c.ask_sizes.new.files
    (c.ask_sizes.new.sizes, c.in-Ok.ensures.told, one_past most_file_bytes c.ask_sizes.new.sizes (sym c.is_one_past.ensures ∙ c.if-is_one_past.true))
    c.in-Ok.ensures.in_order (λ failed. absurd (cc failed)) c.in-Ok.ensures.files

pub collect_sized-requires-clause-sized : goal.collect_sized-requires-clause-sized
collect_sized-requires-clause-sized g c κs within = record {
  are_told = c.in-Ok.ensures.told;
  in_reach = none_past most_file_bytes c.ask_sizes.new.sizes (sym c.is_one_past.ensures ∙ c.if-is_one_past.false);
}

pub returns-clause-collected : goal.returns-clause-collected
returns-clause-collected g c = λ all told.
    c.collect_sized.ensures.collected all
    (same_bytes g.S.Store.bytes (λ file. Some (g.S.Store.handed file)) g.S.Store.name g.S.Store.faults c.args.files.now c.ask_sizes.new.files c.in-Ok.ensures.files.each
    ∙ told)

pub returns-clause-files : goal.returns-clause-files
returns-clause-files g c =
    asks-work g.S.Store.bytes g.S.Store.told g.S.Store.handed g.S.Store.name g.S.Store.faults collect_meaning (ArePast AreEachInReach) (λ _. AreEachInReach) c.collect_sized.result
    c.args.files.now c.collect_sized.new.files c.ask_sizes.new.files c.ask_sizes.new.sizes c.collect_sized.ensures.allowed c.in-Ok.ensures.told
    (none_past most_file_bytes c.ask_sizes.new.sizes (sym c.is_one_past.ensures ∙ c.if-is_one_past.false)) tt c.in-Ok.ensures.files c.collect_sized.ensures.files
