use Rattle.std.proofs.Common.{◌∙◌, Err, ap, refl}
use Rattle.record_io.proofs.ManyStores.{same_told}
use Rattle.record_ranges.proofs.RangesSteps.{store_failed, unread-allowed, unread-file, unread-printed}
use Rattle.record_ranges.proofs.printing.print_sized.Goals as goal

pub returns-in-Err-clause-prints : goal.returns-in-Err-clause-prints
returns-in-Err-clause-prints g c = record {
  of_file = λ file one. unread-file c.in-Err.end c.end_of_read.result c.end_of_read.ensures file _ (c.in-Err.ensures.read file one);
  only_whole = unread-printed c.in-Err.end c.end_of_read.result c.end_of_read.ensures _;
}

pub returns-in-Err-clause-allowed : goal.returns-in-Err-clause-allowed
returns-in-Err-clause-allowed g c =
    unread-allowed c.in-Err.end c.end_of_read.result c.end_of_read.ensures _ (
      c.requires.one.alike.0,
      same_told g.S.Store.bytes g.S.Store.told g.S.Store.name g.S.Store.faults c.args.files.now c.read_parts.new.files c.in-Err.ensures.files.each ∙ c.requires.one.alike.1,
      (c.args.size, c.requires.one.alike.2),
    )

pub returns-in-Err-clause-files : goal.returns-in-Err-clause-files
returns-in-Err-clause-files g c = record {
  each = c.in-Err.ensures.files.each;
  cause = λ failed. c.in-Err.ensures.files.cause (ap Err (store_failed c.in-Err.end c.end_of_read.result c.end_of_read.ensures failed));
}

pub returns-in-Ok-put_parts-clause-allowed : goal.returns-in-Ok-put_parts-clause-allowed
returns-in-Ok-put_parts-clause-allowed g c = (
  c.requires.one.alike.0,
  same_told g.S.Store.bytes g.S.Store.told g.S.Store.name g.S.Store.faults c.args.files.now c.read_parts.new.files c.in-Ok.ensures.files.each ∙ c.requires.one.alike.1,
  (c.args.size, c.requires.one.alike.2),
)

pub returns-clause-allowed : goal.returns-clause-allowed
returns-clause-allowed g c = (
  refl,
  (
    c.requires.one.alike.0,
    same_told g.S.Store.bytes g.S.Store.told g.S.Store.name g.S.Store.faults c.args.files.now c.read_parts.new.files c.in-Ok.ensures.files.each ∙ c.requires.one.alike.1,
    (c.args.size, c.requires.one.alike.2),
  ),
)
