use Rattle.std.proofs.Common.{◌∙◌, sym}
use Rattle.std.proofs.lemmas.Option.{slice_get-get_or}
use Rattle.command_frame.proofs.AskedFiles.{none_past, one_past}
use Rattle.record_ranges.specs.RangesCommand.{most_range_bytes}
use Rattle.record_ranges.proofs.RangesSizes.{all_same, within_first}
use Rattle.record_ranges.proofs.file_sizes.size_by.Goals as goal

pub returns-then-is_one_past : goal.returns-then-is_one_past
returns-then-is_one_past c = one_past most_range_bytes c.args.sizes.now (sym c.is_one_past.ensures ∙ c.if-is_one_past.true)

pub returns-in-Some : goal.returns-in-Some
returns-in-Some c = (
  none_past most_range_bytes c.args.sizes.now (sym c.is_one_past.ensures ∙ c.if-is_one_past.false),
  (slice_get-get_or c.args.sizes.now 0 _ c.requires.some, sym c.in-Some.ensures),
)

pub returns-in-None : goal.returns-in-None
returns-in-None c = record {
  some = c.requires.some;
  same = all_same _ c.args.sizes.now (sym c.in-None.ensures);
  within = within_first c.args.sizes.now _ c.requires.some (none_past most_range_bytes c.args.sizes.now (sym c.is_one_past.ensures ∙ c.if-is_one_past.false));
}
