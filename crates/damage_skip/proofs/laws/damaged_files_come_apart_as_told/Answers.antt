use Rattle.damage_skip.proofs.Damaged.{pieces_left, left_pieces, front_left, left_front}
use Rattle.damage_skip.proofs.DamagedWalks.{met_reached}
use Rattle.damage_skip.proofs.Untouched.{events_left}
use Rattle.damage_skip.proofs.laws.damaged_files_come_apart_as_told.Goals as goal

pub returns : goal.returns
returns c = record {
  pieces = λ unread_ok ks file damaged intact pieces reach d. (
    pieces_left unread_ok ks file damaged intact d reach pieces,
    left_pieces unread_ok ks file damaged intact d reach pieces,
  );
  front = λ unread_ok ks file damaged intact n pieces reach d inside. (
    front_left unread_ok ks file damaged intact d reach n pieces inside,
    left_front unread_ok ks file damaged intact d reach n pieces,
  );
  places = λ unread_ok ks file damaged intact place reach d. met_reached unread_ok ks file damaged intact d reach place;
  records = events_left;
}
