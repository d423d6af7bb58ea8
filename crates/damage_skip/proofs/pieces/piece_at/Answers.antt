use Rattle.std.proofs.Common.{Some, subst}
use Rattle.chunk_reader.proofs.Rooms.{IsSized}
use Rattle.damage_skip.proofs.PieceSteps.{short_piece, bad_hash_piece}
use Rattle.damage_skip.proofs.Takings.{takes_head, takes_resync, takes_headed, takes_failed, taken_for, unread_short, unread_hash, stops_unread}
use Rattle.damage_skip.proofs.pieces.piece_at.Goals as goal

pub returns-in_ok-resync-in-Short-clause-sound : goal.returns-in_ok-resync-in-Short-clause-sound
returns-in_ok-resync-in-Short-clause-sound g c =
    short_piece _ _ c.args.walk.unread_ok c.args.walk.place c.in_ok-resync-in-Short.field-0 c.in_ok-head_at.field-0 c.skipped.result
    c.in_ok-head_at.ensures.store.asks.same_bytes c.in-Short.is c.skipped.ensures c.in_ok-head_at.ensures.head c.in_ok-resync-in-Short.ensures.resync

pub returns-in_ok-resync-in-BadHash-clause-sound : goal.returns-in_ok-resync-in-BadHash-clause-sound
returns-in_ok-resync-in-BadHash-clause-sound g c =
    bad_hash_piece _ _ c.args.walk.unread_ok c.args.walk.place c.in_ok-resync-in-BadHash.field-0 c.in_ok-head_at.field-0 c.skipped-in-BadHash.result
    c.in_ok-head_at.ensures.store.asks.same_bytes c.in-BadHash.is c.skipped-in-BadHash.ensures c.in_ok-head_at.ensures.head c.in_ok-resync-in-BadHash.ensures.resync

pub returns-in_err-head_at-clause-takes : goal.returns-in_err-head_at-clause-takes
returns-in_err-head_at-clause-takes g c =
    let sized : IsSized (g.S.Store.bytes c.args.store.now) (Some c.args.walk.size) =
    subst (IsSized (g.S.Store.bytes c.args.store.now)) c.requires.place.sized.is_told (g.met.S.Store.sized c.args.store.now) in
    takes_failed c.from_residual.result _ c.args.walk.place _ c.from_residual.ensures.0
    (takes_head _ c.args.walk.size c.args.walk.place _ _ sized c.requires.place.below c.in_err-head_at.ensures.store.handed c.in_err-head_at.ensures.handed_at_most)

pub returns-in_err-resync-in-Short-clause-takes : goal.returns-in_err-resync-in-Short-clause-takes
returns-in_err-resync-in-Short-clause-takes g c =
    let sized : IsSized (g.S.Store.bytes c.args.store.now) (Some c.args.walk.size) =
    subst (IsSized (g.S.Store.bytes c.args.store.now)) c.requires.place.sized.is_told (g.met.S.Store.sized c.args.store.now) in
    takes_failed c.from_residual-in_err-resync-in-Short.result _ c.args.walk.place _ c.from_residual-in_err-resync-in-Short.ensures.0
    (takes_resync _ _ c.args.walk.size c.args.walk.place _ _ _ c.in_ok-head_at.ensures.store.asks.same_bytes sized
    (unread_short _ c.args.walk.place c.in_ok-head_at.field-0 c.in-Short.is c.in_ok-head_at.ensures.head) c.in_ok-head_at.ensures.store.handed
    c.in_ok-head_at.ensures.handed_at_most c.in_err-resync-in-Short.ensures.looks)

pub returns-in_ok-resync-in-Short-clause-takes : goal.returns-in_ok-resync-in-Short-clause-takes
returns-in_ok-resync-in-Short-clause-takes g c =
    let sized : IsSized (g.S.Store.bytes c.args.store.now) (Some c.args.walk.size) =
    subst (IsSized (g.S.Store.bytes c.args.store.now)) c.requires.place.sized.is_told (g.met.S.Store.sized c.args.store.now) in
    taken_for _ c.args.walk.place _
    (takes_resync _ _ c.args.walk.size c.args.walk.place _ _ _ c.in_ok-head_at.ensures.store.asks.same_bytes sized
    (unread_short _ c.args.walk.place c.in_ok-head_at.field-0 c.in-Short.is c.in_ok-head_at.ensures.head) c.in_ok-head_at.ensures.store.handed
    c.in_ok-head_at.ensures.handed_at_most c.in_ok-resync-in-Short.ensures.looks)
    (stops_unread _ c.args.walk.place _ (unread_short _ c.args.walk.place c.in_ok-head_at.field-0 c.in-Short.is c.in_ok-head_at.ensures.head))

pub returns-in_err-resync-in-BadHash-clause-takes : goal.returns-in_err-resync-in-BadHash-clause-takes
returns-in_err-resync-in-BadHash-clause-takes g c =
    let sized : IsSized (g.S.Store.bytes c.args.store.now) (Some c.args.walk.size) =
    subst (IsSized (g.S.Store.bytes c.args.store.now)) c.requires.place.sized.is_told (g.met.S.Store.sized c.args.store.now) in
    takes_failed c.from_residual-in_err-resync-in-BadHash.result _ c.args.walk.place _ c.from_residual-in_err-resync-in-BadHash.ensures.0
    (takes_resync _ _ c.args.walk.size c.args.walk.place _ _ _ c.in_ok-head_at.ensures.store.asks.same_bytes sized
    (unread_hash _ c.args.walk.place c.in_ok-head_at.field-0 c.in-BadHash.is c.in_ok-head_at.ensures.head) c.in_ok-head_at.ensures.store.handed
    c.in_ok-head_at.ensures.handed_at_most c.in_err-resync-in-BadHash.ensures.looks)

pub returns-in_ok-resync-in-BadHash-clause-takes : goal.returns-in_ok-resync-in-BadHash-clause-takes
returns-in_ok-resync-in-BadHash-clause-takes g c =
    let sized : IsSized (g.S.Store.bytes c.args.store.now) (Some c.args.walk.size) =
    subst (IsSized (g.S.Store.bytes c.args.store.now)) c.requires.place.sized.is_told (g.met.S.Store.sized c.args.store.now) in
    taken_for _ c.args.walk.place _
    (takes_resync _ _ c.args.walk.size c.args.walk.place _ _ _ c.in_ok-head_at.ensures.store.asks.same_bytes sized
    (unread_hash _ c.args.walk.place c.in_ok-head_at.field-0 c.in-BadHash.is c.in_ok-head_at.ensures.head) c.in_ok-head_at.ensures.store.handed
    c.in_ok-head_at.ensures.handed_at_most c.in_ok-resync-in-BadHash.ensures.looks)
    (stops_unread _ c.args.walk.place _ (unread_hash _ c.args.walk.place c.in_ok-head_at.field-0 c.in-BadHash.is c.in_ok-head_at.ensures.head))

pub returns-in-Right-clause-takes : goal.returns-in-Right-clause-takes
returns-in-Right-clause-takes g c =
    takes_headed c.headed_piece.result _ _ c.args.walk.place _ _ _ c.in_ok-head_at.ensures.store.asks.same_bytes c.in_ok-head_at.ensures.store.handed
    c.headed_piece.ensures.takes
