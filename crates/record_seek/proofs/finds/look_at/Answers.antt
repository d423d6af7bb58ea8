use Rattle.std.proofs.Common.{Some, Err, false, refl, sym, ap, subst}
use Rattle.chunk_reader.proofs.Loads as loads
use Rattle.chunk_reader.proofs.Rooms.{IsSized}
use Rattle.record_seek.specs.KeyTests.{StandsBefore}
use Rattle.record_seek.specs.Steps.{AreRecordsFrom, IsLook}
use Rattle.record_seek.proofs.Finding.{block-met, told-met, loads-told}
use Rattle.record_seek.proofs.LookCosts.{block-takes, told-takes}
use Rattle.record_seek.proofs.ReadingOn.{some_at, look-first, look-none}
use Rattle.record_seek.proofs.Ways.{same_told}
use Rattle.record_seek.proofs.finds.look_at.Goals as goal
use Rattle.record_seek.proofs.finds.look_at.Goals.{Start}

-- the told size is that of the file
sized : (g : _) (c : Start g) → IsSized (g.S.Store.bytes c.args.store.now) (Some c.args.size)
sized g c = subst (IsSized (g.S.Store.bytes c.args.store.now)) c.requires.block.sized.is_told (g.met.S.Store.sized c.args.store.now)

pub returns-in_err-begin-clause-refused : goal.returns-in_err-begin-clause-refused
returns-in_err-begin-clause-refused g c =
    λ fault e.
    block-met _ _ c.args.block fault refl
    (c.in_err-begin.ensures.refused fault (ap Err (loads.refused_before c.in_err-begin.field-0.0 fault (rw e at c.from_residual.ensures.1))))

pub returns-in_err-begin-clause-handed : goal.returns-in_err-begin-clause-handed
returns-in_err-begin-clause-handed g c = block-takes _ _ _ c.in_err-begin.ensures.store.handed

pub returns-in_err-chunk-clause-refused : goal.returns-in_err-chunk-clause-refused
returns-in_err-chunk-clause-refused g c =
    λ fault e.
    told-met _ _ c.args.block c.in_ok-begin.begin fault c.in_ok-begin.ensures.store.asks.same_bytes c.in_ok-begin.ensures.told
    (c.in_err-chunk.ensures.refused fault (ap Err (sym (rw e at c.from_residual-in_err-chunk.ensures.1))))

pub returns-in_err-chunk-clause-handed : goal.returns-in_err-chunk-clause-handed
returns-in_err-chunk-clause-handed g c =
    let given = c.in_ok-begin.ensures in
    told-takes _ _ c.args.size c.args.block c.in_ok-begin.begin _ _ _ given.store.asks.same_bytes
    (sized g (goal.at.returns-in_err-chunk-clause-handed g c).Start) c.requires.block.sized.in_reach given.told given.store.handed
    c.next_records.ensures.handed

pub returns-in_err-chunk-clause-memory : goal.returns-in_err-chunk-clause-memory
returns-in_err-chunk-clause-memory g c =
    λ e.
    loads-told _ _ c.args.block c.in_ok-begin.begin c.in_ok-begin.ensures.store.asks.same_bytes c.in_ok-begin.ensures.told
    (c.in_err-chunk.ensures.memory (ap Err (sym (rw e at c.from_residual-in_err-chunk.ensures.1))))

pub returns-in_default-2-clause-look : goal.returns-in_default-2-clause-look
returns-in_default-2-clause-look g c =
    let given = c.in_ok-begin.ensures in
    same_told (IsLook (StandsBefore g.F.Fn c.args.test.now.test) (record { begin = c.in_ok-begin.begin; before = false })) _ _ given.store.asks.same_bytes
    (look-none (StandsBefore g.F.Fn c.args.test.now.test) _ c.in_ok-begin.begin _ _ _ c.in_default-2.is c.in_ok-chunk.ensures.next)

pub returns-in_default-2-clause-handed : goal.returns-in_default-2-clause-handed
returns-in_default-2-clause-handed g c =
    let given = c.in_ok-begin.ensures in
    told-takes _ _ c.args.size c.args.block c.in_ok-begin.begin _ _ _ given.store.asks.same_bytes
    (sized g (goal.at.returns-in_default-2-clause-handed g c).Start) c.requires.block.sized.in_reach given.told given.store.handed
    c.next_records.ensures.handed

pub first_before-before-requires-clause-chunk : goal.first_before-before-requires-clause-chunk
first_before-before-requires-clause-chunk g c =
    (some_at (AreRecordsFrom c.in_ok-begin.begin c.args.size) _ c.in-Some-2.chunk c.in_ok-chunk.ensures.chunk c.in-Some-2.is).of_chunk

pub returns-clause-look : goal.returns-clause-look
returns-clause-look g c =
    let given = c.in_ok-begin.ensures in
    same_told (IsLook (StandsBefore g.F.Fn c.args.test.now.test) (record { begin = c.in_ok-begin.begin; before = c.first_before-before.result })) _ _
    given.store.asks.same_bytes
    (look-first (StandsBefore g.F.Fn c.args.test.now.test) _ c.in_ok-begin.begin _ _ _ c.in-Some-2.chunk _ c.in-Some-2.is
    c.in_ok-chunk.ensures.next c.first_before-before.ensures)

pub returns-clause-handed : goal.returns-clause-handed
returns-clause-handed g c =
    let given = c.in_ok-begin.ensures in
    told-takes _ _ c.args.size c.args.block c.in_ok-begin.begin _ _ _ given.store.asks.same_bytes (sized g (goal.at.returns-clause-handed g c).Start)
    c.requires.block.sized.in_reach given.told given.store.handed c.next_records.ensures.handed
