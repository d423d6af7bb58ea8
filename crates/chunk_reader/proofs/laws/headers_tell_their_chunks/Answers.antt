use Rattle.std.proofs.Common.{sym, subst}
use Rattle.chunk_reader.specs.Holders.{IsHolder}
use Rattle.chunk_reader.proofs.HeadersTell.{block_tells, told_is, places_are, holder_is, holder_there}
use Rattle.chunk_reader.proofs.laws.headers_tell_their_chunks.Goals as goal

pub returns : goal.returns
returns c = record {
  blocks = λ ks file block i unread_ok reach is_block lies. block_tells ks file unread_ok block i reach is_block lies;
  told = λ ks file block begin i unread_ok reach is_block lies told. told_is ks file unread_ok block begin i reach is_block lies told;
  places = λ ks file places i to unread_ok inside between. places_are ks file unread_ok places i to inside between;
  holder = λ ks file position place i unread_ok reach lies. (
    holder_is ks file unread_ok position place i reach lies,
    λ is. subst (IsHolder file position) (sym is) (holder_there ks file unread_ok position i reach lies),
  );
}
