use Rattle.damage_skip.proofs.Prefixes.{front_tiles, cut_between, cut_within}
use Rattle.damage_skip.proofs.laws.fronts_of_files_lose_one_chunk.Goals as goal

pub returns : goal.returns
returns c = record {
  front = λ unread_ok ks file n well_formed. front_tiles unread_ok ks file well_formed n;
  between = λ unread_ok ks file n front well_formed h. cut_between unread_ok ks file well_formed n front h;
  within = λ unread_ok ks file n m front well_formed inside after before h. cut_within unread_ok ks file well_formed n m front inside after before h;
}
