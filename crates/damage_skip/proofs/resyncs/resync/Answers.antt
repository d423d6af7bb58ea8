use Rattle.std.proofs.Common.{Some, subst, arith, rules}
use Rattle.chunk_reader.proofs.Rooms.{IsSized}
use Rattle.damage_skip.proofs.DamagedWalks.{resync_told}
use Rattle.damage_skip.proofs.Resyncing.{stand-more, resync-found, resync-none}
use Rattle.damage_skip.proofs.Takings.{stand-looks, stand-looked}
use Rattle.damage_skip.proofs.resyncs.resync.Goals as goal
use Rattle.damage_skip.proofs.resyncs.resync.Goals.{After-next_block-block}

-- the told size is that of the file
sized : (g : _) (c : After-next_block-block g) → IsSized (g.S.Store.bytes c.args.store.now) (Some c.args.size)
sized g c = subst (IsSized (g.S.Store.bytes c.args.store.now)) c.requires.place.sized.is_told (g.met.S.Store.sized c.args.store.now)

pub returns-in-Some-clause-resync : goal.returns-in-Some-clause-resync
returns-in-Some-clause-resync g c =
    let kept = c.loop-block.invariant in
    rw c.landing.ensures
    (resync-found _ _ c.args.size c.args.from c.loop-block.block _ c.in-Some.header kept.asks.same_bytes
    (sized g (goal.at.returns-in-Some-clause-resync g c).After-next_block-block) kept.from_place c.in-Some.is kept.none c.in_ok-header.ensures.found)

pub loop-block-preserved : goal.loop-block-preserved
loop-block-preserved g c =
    let kept = c.loop-block.invariant in
    let given = c.in_ok-header.ensures in
    record {
      at_block = omega (arith, kept.at_block);
      from_place = omega (arith, kept.from_place);
      near = omega (arith, c.loop-block-test.true);
      none = stand-more _ _ c.args.from c.loop-block.block c.in_ok-header.field-0 kept.asks.same_bytes kept.at_block (cc) kept.none given.found;
      handed = omega (arith, kept.handed, given.store.handed, kept.from_place, kept.at_block);
      asks = search rules;
    }

pub returns-clause-resync : goal.returns-clause-resync
returns-clause-resync g c =
    resync-none _ c.args.size c.args.from c.loop-block.block (sized g (goal.at.returns-clause-resync g c).After-next_block-block)
    c.loop-block-test.false c.loop-block.invariant.none

pub returns-in-Some-clause-damaged : goal.returns-in-Some-clause-damaged
returns-in-Some-clause-damaged g c = resync_told _ c.args.from _ (returns-in-Some-clause-resync g c)

pub returns-clause-damaged : goal.returns-clause-damaged
returns-clause-damaged g c = resync_told _ c.args.from _ (returns-clause-resync g c)

pub returns-in_err-header-clause-looks : goal.returns-in_err-header-clause-looks
returns-in_err-header-clause-looks g c =
    let kept = c.loop-block.invariant in
    stand-looks _ c.args.size c.args.from c.loop-block.block _ _ _ kept.at_block kept.from_place c.loop-block-test.true kept.none kept.handed
    c.sane_header_at.ensures.store.handed

pub returns-in-Some-clause-looks : goal.returns-in-Some-clause-looks
returns-in-Some-clause-looks g c =
    let kept = c.loop-block.invariant in
    stand-looks _ c.args.size c.args.from c.loop-block.block _ _ _ kept.at_block kept.from_place c.loop-block-test.true kept.none kept.handed
    c.sane_header_at.ensures.store.handed

pub returns-clause-looks : goal.returns-clause-looks
returns-clause-looks g c =
    let kept = c.loop-block.invariant in
    stand-looked _ c.args.size c.args.from c.loop-block.block _ _ kept.at_block c.loop-block-test.false kept.near kept.none kept.handed
