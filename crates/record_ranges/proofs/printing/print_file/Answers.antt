use Rattle.command_frame.specs.Endings.{ArePast}
use Rattle.std.proofs.Common.{◌∙◌, Some, map, sym, refl, rules}
use Rattle.record_io.proofs.ManyStores.{same_bytes}
use Rattle.command_frame.proofs.AskedSizes.{exact_sizes}
use Rattle.command_frame.proofs.AskedFiles.{asks-alone, asks-work}
use Rattle.record_ranges.specs.RangesCommand.{most_range_bytes, ranges_meaning}
use Rattle.record_ranges.specs.RangesEnds.{StopsBy}
use Rattle.record_ranges.proofs.RangesSteps.{still_one}
use Rattle.record_ranges.proofs.RangesStores.{size_of_one, told_alike}
use Rattle.record_ranges.proofs.printing.print_file.Goals as goal
use Rattle.command_frame.specs.FileAnswers.{AreWithin}

pub returns-in_default-clause-files : goal.returns-in_default-clause-files
returns-in_default-clause-files g c =
    asks-alone g.S.Store.bytes g.S.Store.told g.S.Store.handed g.S.Store.name g.S.Store.faults ranges_meaning (ArePast (AreWithin most_range_bytes)) StopsBy _
    c.args.files.now c.ask_sizes.new.files refl c.in_default.ensures.in_order (λ failed. refl) c.in_default.ensures.files

pub returns-in-Err-Limit-clause-files : goal.returns-in-Err-Limit-clause-files
returns-in-Err-Limit-clause-files g c =
    asks-alone g.S.Store.bytes g.S.Store.told g.S.Store.handed g.S.Store.name g.S.Store.faults ranges_meaning (ArePast (AreWithin most_range_bytes)) StopsBy _
    c.args.files.now c.ask_sizes.new.files (c.ask_sizes.new.sizes, c.in-Ok.ensures.told, (rw c.in-Err-Limit.field-0-is at c.in-Err-Limit.ensures)) c.in-Ok.ensures.in_order
    (λ failed. absurd (cc failed)) c.in-Ok.ensures.files

pub returns-in-Err-Differ-clause-files : goal.returns-in-Err-Differ-clause-files
returns-in-Err-Differ-clause-files g c =
    asks-alone g.S.Store.bytes g.S.Store.told g.S.Store.handed g.S.Store.name g.S.Store.faults ranges_meaning (ArePast (AreWithin most_range_bytes)) StopsBy _
    c.args.files.now c.ask_sizes.new.files (c.ask_sizes.new.sizes, c.in-Ok.ensures.told, search rules) c.in-Ok.ensures.in_order
    (λ failed. absurd (cc failed)) c.in-Ok.ensures.files

pub print_sized-requires-clause-one : goal.print_sized-requires-clause-one
print_sized-requires-clause-one g c κs within = record {
  alike = (c.ask_sizes.new.sizes, c.in-Ok.ensures.told, c.in-Ok-size_by.ensures);
  exact = λ file one.
      let asked = same_bytes g.S.Store.bytes (λ file. Some (g.S.Store.handed file)) g.S.Store.name g.S.Store.faults c.args.files.now c.ask_sizes.new.files c.in-Ok.ensures.files.each in
      let before = still_one g.S.Store.bytes c.ask_sizes.new.files c.args.files.now file (sym asked) one in
      -- what is known of a store in whatever thread, in this one
      let here = g.met.S.Store g.world.𝓛 g.world.𝓜 g.world.𝓡 ((λ s x. x), (λ x. x), (λ x. x), λ x. x) in
      size_of_one c.args.files.now c.ask_sizes.new.sizes c.in-Ok-size_by.size file c.in-Ok-size_by.ensures
      (exact_sizes g.S.Store.bytes g.S.Store.told (λ s. here.sized s) c.ask_sizes.new.files (map (λ s. file) c.args.files.now) c.ask_sizes.new.sizes
      (asked ∙ told_alike g.S.Store.bytes c.args.files.now file before) c.in-Ok.ensures.told);
}

pub returns-in-Ok-size_by-clause-prints : goal.returns-in-Ok-size_by-clause-prints
returns-in-Ok-size_by-clause-prints g c = record {
  of_file = λ file one.
      c.print_sized.ensures.prints.of_file file
      (still_one g.S.Store.bytes c.args.files.now c.ask_sizes.new.files file
      (same_bytes g.S.Store.bytes (λ file. Some (g.S.Store.handed file)) g.S.Store.name g.S.Store.faults c.args.files.now c.ask_sizes.new.files c.in-Ok.ensures.files.each) one);
  only_whole = c.print_sized.ensures.prints.only_whole;
}

pub returns-in-Ok-size_by-clause-files : goal.returns-in-Ok-size_by-clause-files
returns-in-Ok-size_by-clause-files g c =
    asks-work g.S.Store.bytes g.S.Store.told g.S.Store.handed g.S.Store.name g.S.Store.faults ranges_meaning (ArePast (AreWithin most_range_bytes)) StopsBy c.print_sized.result
    c.args.files.now c.print_sized.new.files c.ask_sizes.new.files c.ask_sizes.new.sizes c.print_sized.ensures.allowed c.in-Ok.ensures.told
    (c.in-Ok-size_by.size, c.in-Ok-size_by.ensures) tt c.in-Ok.ensures.files c.print_sized.ensures.files
