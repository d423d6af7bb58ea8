use Rattle.std.proofs.Common.{Some, IfSome, inr, refl, subst, arith}
use Rattle.chunk_reader.proofs.Rooms.{IsSized}
use Rattle.damage_skip.proofs.PieceSteps.{too_large_piece, contradicted_piece, read_piece, read_from, onward_end}
use Rattle.damage_skip.specs.Steps.{IsLoadOf, IsLoadIn}
use Rattle.damage_skip.specs.declared.chunk_loads.Loaded.{Loaded}
use Rattle.damage_skip.proofs.Takings.{taken_for, takes_failed, takes_unloaded, takes_loaded, stops_unloaded, stops_loaded}
use Rattle.damage_skip.proofs.pieces.chunk_piece.Goals as goal

pub unloaded_piece-requires-clause-onward : goal.unloaded_piece-requires-clause-onward
unloaded_piece-requires-clause-onward g c =
    onward_end c.args.walk.size c.args.walk.place c.args.header c.args.end c.requires.within.is_end c.requires.within.within

pub returns-then-header-gt-MAX_DATA_SIZE-clause-sound : goal.returns-then-header-gt-MAX_DATA_SIZE-clause-sound
returns-then-header-gt-MAX_DATA_SIZE-clause-sound g c =
    let sized : IsSized (g.S.Store.bytes c.args.store.now) (Some c.args.walk.size) =
    subst (IsSized (g.S.Store.bytes c.args.store.now)) c.requires.within.sized.is_told (g.met.S.Store.sized c.args.store.now) in
    too_large_piece _ c.args.walk.unread_ok c.args.walk.size c.args.walk.place c.args.end c.args.header c.in_ok-unloaded_piece.field-0 sized
    c.requires.fits c.requires.head c.requires.within.is_end c.requires.within.within c.if-header-gt-MAX_DATA_SIZE.true
    (c.in_ok-unloaded_piece.ensures.unloaded c.args.end refl)

pub returns-in_ok-what-in-Whole-clause-piece : goal.returns-in_ok-what-in-Whole-clause-piece
returns-in_ok-what-in-Whole-clause-piece g c =
    let whole = subst (IsLoadOf c.args.walk.size c.args.walk.place c.args.header) c.in-Whole.is c.in_ok-chunk.ensures.loaded in
    read_from c.args.walk c.args.end c.args.header c.in-Whole.chunk (record { end = c.args.end; what = c.in_ok-what-in-Whole.what })
    c.requires.within.is_end c.requires.within.within c.if-header-gt-MAX_DATA_SIZE.false whole.0 whole.1 refl c.in_ok-what-in-Whole.ensures

pub returns-in_ok-what-in-Whole-clause-sound : goal.returns-in_ok-what-in-Whole-clause-sound
returns-in_ok-what-in-Whole-clause-sound g c =
    let sized : IsSized (g.S.Store.bytes c.args.store.now) (Some c.args.walk.size) =
    subst (IsSized (g.S.Store.bytes c.args.store.now)) c.requires.within.sized.is_told (g.met.S.Store.sized c.args.store.now) in
    let begin = c.args.walk.place in
    let whole = subst (IsLoadOf c.args.walk.size begin c.args.header) c.in-Whole.is c.in_ok-chunk.ensures.loaded in
    let there =
    subst (λ (l : Loaded). IfSome (g.S.Store.bytes c.args.store.now) (λ file. IsLoadIn file begin c.args.end c.args.header l)) c.in-Whole.is
    c.in_ok-chunk.ensures.sound in
    read_piece _ c.args.walk c.args.walk.size begin c.args.end c.args.header c.in-Whole.chunk (record { end = c.args.end; what = c.in_ok-what-in-Whole.what })
    sized c.requires.fits c.requires.head c.requires.within.is_end c.requires.within.within c.if-header-gt-MAX_DATA_SIZE.false whole.0 there
    refl c.in_ok-what-in-Whole.ensures

pub returns-in-Contradicted-clause-sound : goal.returns-in-Contradicted-clause-sound
returns-in-Contradicted-clause-sound g c =
    let begin = c.args.walk.place in
    let leads =
    subst (λ (l : Loaded). IfSome (g.S.Store.bytes c.args.store.now) (λ file. IsLoadIn file begin c.args.end c.args.header l)) c.in-Contradicted.is
    c.in_ok-chunk.ensures.sound in
    contradicted_piece _ c.args.walk.unread_ok begin c.args.end c.in-Contradicted.landing c.args.header c.skipped.result c.requires.fits c.requires.head
    c.requires.within.is_end c.skipped.ensures leads

pub returns-in_err-unloaded_piece-clause-takes : goal.returns-in_err-unloaded_piece-clause-takes
returns-in_err-unloaded_piece-clause-takes g c =
    let sized : IsSized (g.S.Store.bytes c.args.store.now) (Some c.args.walk.size) =
    subst (IsSized (g.S.Store.bytes c.args.store.now)) c.requires.within.sized.is_told (g.met.S.Store.sized c.args.store.now) in
    takes_failed c.from_residual.result _ c.args.walk.place _ c.from_residual.ensures.0
    (takes_unloaded _ c.args.walk.size c.args.walk.place c.args.end c.args.end c.args.header _ _ sized c.requires.fits c.requires.head
    (inr c.if-header-gt-MAX_DATA_SIZE.true) c.requires.within.is_end (omega arith) c.requires.within.within
    (c.in_err-unloaded_piece.ensures.looks c.args.end refl))

pub returns-then-header-gt-MAX_DATA_SIZE-clause-takes : goal.returns-then-header-gt-MAX_DATA_SIZE-clause-takes
returns-then-header-gt-MAX_DATA_SIZE-clause-takes g c =
    let sized : IsSized (g.S.Store.bytes c.args.store.now) (Some c.args.walk.size) =
    subst (IsSized (g.S.Store.bytes c.args.store.now)) c.requires.within.sized.is_told (g.met.S.Store.sized c.args.store.now) in
    taken_for _ c.args.walk.place _
    (takes_unloaded _ c.args.walk.size c.args.walk.place c.args.end c.args.end c.args.header _ _ sized c.requires.fits c.requires.head
    (inr c.if-header-gt-MAX_DATA_SIZE.true) c.requires.within.is_end (omega arith) c.requires.within.within
    (c.in_ok-unloaded_piece.ensures.looks c.args.end refl))
    (stops_unloaded _ c.args.walk.size c.args.walk.place _ c.args.header sized c.requires.fits c.requires.head
    (inr c.if-header-gt-MAX_DATA_SIZE.true))

pub returns-in_err-chunk-clause-takes : goal.returns-in_err-chunk-clause-takes
returns-in_err-chunk-clause-takes g c =
    let sized : IsSized (g.S.Store.bytes c.args.store.now) (Some c.args.walk.size) =
    subst (IsSized (g.S.Store.bytes c.args.store.now)) c.requires.within.sized.is_told (g.met.S.Store.sized c.args.store.now) in
    takes_failed c.from_residual-in_err-chunk.result _ c.args.walk.place _ c.from_residual-in_err-chunk.ensures.0
    (takes_loaded _ c.args.walk.size c.args.walk.place c.args.end c.args.header _ _ sized c.requires.fits c.requires.head
    c.requires.within.is_end c.requires.within.within c.if-header-gt-MAX_DATA_SIZE.false c.in_err-chunk.ensures.store.handed)

pub returns-in_err-what-in-Whole-clause-takes : goal.returns-in_err-what-in-Whole-clause-takes
returns-in_err-what-in-Whole-clause-takes g c =
    let sized : IsSized (g.S.Store.bytes c.args.store.now) (Some c.args.walk.size) =
    subst (IsSized (g.S.Store.bytes c.args.store.now)) c.requires.within.sized.is_told (g.met.S.Store.sized c.args.store.now) in
    takes_failed c.from_residual-in_err-what-in-Whole.result _ c.args.walk.place _ c.from_residual-in_err-what-in-Whole.ensures.0
    (takes_loaded _ c.args.walk.size c.args.walk.place c.args.end c.args.header _ _ sized c.requires.fits c.requires.head
    c.requires.within.is_end c.requires.within.within c.if-header-gt-MAX_DATA_SIZE.false c.in_ok-chunk.ensures.store.handed)

pub returns-in_ok-what-in-Whole-clause-takes : goal.returns-in_ok-what-in-Whole-clause-takes
returns-in_ok-what-in-Whole-clause-takes g c =
    let sized : IsSized (g.S.Store.bytes c.args.store.now) (Some c.args.walk.size) =
    subst (IsSized (g.S.Store.bytes c.args.store.now)) c.requires.within.sized.is_told (g.met.S.Store.sized c.args.store.now) in
    taken_for _ c.args.walk.place _
    (takes_loaded _ c.args.walk.size c.args.walk.place c.args.end c.args.header _ _ sized c.requires.fits c.requires.head
    c.requires.within.is_end c.requires.within.within c.if-header-gt-MAX_DATA_SIZE.false c.in_ok-chunk.ensures.store.handed)
    (stops_loaded _ c.args.walk.place c.args.end c.args.header _ _ c.requires.fits c.requires.head c.requires.within.is_end c.in_ok-chunk.ensures.stops)

pub returns-in-Contradicted-clause-takes : goal.returns-in-Contradicted-clause-takes
returns-in-Contradicted-clause-takes g c =
    let sized : IsSized (g.S.Store.bytes c.args.store.now) (Some c.args.walk.size) =
    subst (IsSized (g.S.Store.bytes c.args.store.now)) c.requires.within.sized.is_told (g.met.S.Store.sized c.args.store.now) in
    taken_for _ c.args.walk.place _
    (takes_loaded _ c.args.walk.size c.args.walk.place c.args.end c.args.header _ _ sized c.requires.fits c.requires.head
    c.requires.within.is_end c.requires.within.within c.if-header-gt-MAX_DATA_SIZE.false c.in_ok-chunk.ensures.store.handed)
    (stops_loaded _ c.args.walk.place c.args.end c.args.header _ _ c.requires.fits c.requires.head c.requires.within.is_end c.in_ok-chunk.ensures.stops)
