use Rattle.record_append.proofs.GrownFiles.{empty_taken, kept_once, kept_somewhere, kept_whole, nothing_kept, taken_whole}
use Rattle.record_append.proofs.laws.old_files_are_kept_up_to_one_place.Goals as goal

pub returns : goal.returns
returns c = record {
  one = kept_once;
  some = kept_somewhere;
  whole = kept_whole;
  taken = taken_whole;
  empty = empty_taken;
  nothing = nothing_kept;
}
