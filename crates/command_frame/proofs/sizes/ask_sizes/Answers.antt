use Rattle.std.proofs.Common.{◌≡◌, ◌<◌, Some, ℕ, ap, get_or, length, refl, arith}
use Rattle.std.proofs.lemmas.List.{length-set}
use Rattle.std.proofs.lemmas.Option.{slice_get_within}
use Rattle.record_io.proofs.ManyStores.{none_asked, one_asked, same_length}
use Rattle.command_frame.proofs.AskedSizes.{AreAsked-more, AreAsked-none, asks, behind_untold, told_all}
use Rattle.command_frame.proofs.sizes.ask_sizes.Goals as goal
use Rattle.command_frame.proofs.sizes.ask_sizes.Goals.{After-index-files-index}

-- the file that is asked next stands at its place
there : (g : _) (c : After-index-files-index g)
    → get_or c.loop-index.files c.loop-index.index c.index-files-index.result
    ≡ get_or c.loop-index.files c.loop-index.index (get_or c.loop-index.files c.loop-index.index c.index-files-index.result)
there g c = ap (get_or c.loop-index.files c.loop-index.index) c.index-files-index.is

below : (g : _) (c : After-index-files-index g) → c.loop-index.index < length c.loop-index.files
below g c = omega (arith, c.loop-index-test.true, c.loop-index.auto.index-end)

pub loop-index-init : goal.loop-index-init
loop-index-init g c = record {
  asked = none_asked g.S.Store.bytes (λ file. Some (g.S.Store.handed file)) g.S.Store.name g.S.Store.faults c.args.files.now (λ never. never);
  sized = AreAsked-none g.S.Store.told c.args.sizes.now c.args.files.now;
  many = refl;
}

pub returns-in_err-size-clause-in_order : goal.returns-in_err-size-clause-in_order
returns-in_err-size-clause-in_order g c =
    behind_untold g.S.Store.told c.loop-index.index c.loop-index.sizes c.args.files.now c.loop-index.files c.size.new.self c.loop-index.invariant.sized

pub returns-in_err-size-clause-files : goal.returns-in_err-size-clause-files
returns-in_err-size-clause-files g c =
    let at = (goal.at.returns-in_err-size-clause-files g c).After-index-files-index in
    let i : ℕ = c.loop-index.index in
    let told = c.in_err-size.ensures.tells in
    one_asked g.S.Store.bytes (λ file. Some (g.S.Store.handed file)) g.S.Store.name g.S.Store.faults c.args.files.now c.loop-index.files i
    (get_or c.loop-index.files i c.index-files-index.result) c.size.new.self (below g at) (there g at) c.loop-index.invariant.asked
    (asks g.S.Store.bytes g.S.Store.handed g.S.Store.name g.S.Store.faults (Unit {0}) (get_or c.loop-index.files i c.index-files-index.result) c.size.new.self
    told.same_bytes told.same_handed c.in_err-size.ensures.same_name (λ _. told.counts.cause) told.counts.never_falls told.counts.small)
    (λ _. tt)

pub loop-index-preserved : goal.loop-index-preserved
loop-index-preserved g c =
    let at = (goal.at.loop-index-preserved g c).After-index-files-index in
    let i : ℕ = c.loop-index.index in
    let kept = c.loop-index.invariant in
    let told = c.in_ok-size.ensures.tells in
    record {
      asked = one_asked g.S.Store.bytes (λ file. Some (g.S.Store.handed file)) g.S.Store.name g.S.Store.faults c.args.files.now c.loop-index.files i
          (get_or c.loop-index.files i c.index-files-index.result) c.size.new.self (below g at) (there g at) kept.asked
          (asks g.S.Store.bytes g.S.Store.handed g.S.Store.name g.S.Store.faults ⊥ (get_or c.loop-index.files i c.index-files-index.result) c.size.new.self
          told.same_bytes told.same_handed c.in_ok-size.ensures.same_name (λ never. absurd never) told.counts.never_falls told.counts.small)
          (λ never. never);
      sized = AreAsked-more g.S.Store.told i c.in_ok-size.size c.loop-index.sizes c.args.files.now c.loop-index.files c.size.new.self (below g at)
          (omega (arith, below g at, kept.many, c.requires.as_many, same_length g.S.Store.bytes (λ file. Some (g.S.Store.handed file)) g.S.Store.name g.S.Store.faults c.args.files.now c.loop-index.files kept.asked.each)) told.tells kept.sized;
      many = omega (arith, kept.many, length-set c.loop-index.sizes i c.in_ok-size.size);
    }

pub returns-clause-told : goal.returns-clause-told
returns-clause-told g c =
    told_all g.S.Store.told c.loop-index.files c.loop-index.sizes
    (omega (arith, c.loop-index.invariant.many, c.requires.as_many, same_length g.S.Store.bytes (λ file. Some (g.S.Store.handed file)) g.S.Store.name g.S.Store.faults c.args.files.now c.loop-index.files c.loop-index.invariant.asked.each))
    (λ place file is. c.loop-index.invariant.sized.sized place file (omega (arith, slice_get_within c.loop-index.files place file is, c.loop-index-test.false, c.loop-index.auto.index-end)) is)
