use Rattle.std.proofs.Common.{◌+◌, arith}
use Rattle.meta_chunk.specs.Files.{begin_of}
use Rattle.meta_chunk.proofs.Begins.{begin_of_rises, begin_of_rises_by}
use Rattle.damage_skip.proofs.DamagedFronts.{front_damaged, front_tiles_left, each_left_settled}
use Rattle.damage_skip.proofs.laws.fronts_of_damaged_files_are_damaged.Goals as goal

pub returns : goal.returns
returns c = record {
  front = λ ks file damaged intact n d some few. front_damaged ks file damaged intact d n few some;
  pieces = λ unread_ok ks file damaged other intact n i pieces reach d inside few same left settled.
      front_tiles_left ks file damaged intact d n few unread_ok other i pieces reach inside same left settled;
  settled = λ unread_ok ks intact n i pieces inside few left.
      each_left_settled unread_ok ks intact (begin_of ks n) 0 i pieces
      (omega (arith, begin_of_rises_by ks i (omega arith), begin_of_rises ks (i + 1) n (omega arith))) left;
}
