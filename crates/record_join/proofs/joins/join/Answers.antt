use Rattle.std.proofs.Common.{◌≡◌, ◌∙◌, ◌<◌, Option, Result, Err, IfSome, List, ℕ, ◌++◌, get_or, length, ap, sym, subst, arith, rules}
use Rattle.std.specs.Prelude.{Some, slice_get}
use Rattle.std.proofs.lemmas.Grind.{common_steps}
use Rattle.std.proofs.lemmas.Option.{get_or_from_slice_get, slice_get-get_or}
use Rattle.std.proofs.lemmas.Result.{err_from_is_err_and}
use Rattle.record_values.specs.declared.file_totals.Totals.{Totals}
use Rattle.record_io.specs.Outside.{Takes}
use Rattle.record_io.specs.ManyStores.{AreTold}
use Rattle.ordered_writer.specs.Padding.{padding_bytes}
use Rattle.record_join.specs.Joins.{AnswersFirst, AreJoined, AreTotalsWith, TakesJoined, TakesNext}
use Rattle.record_join.specs.declared.joins.JoinEnd.{JoinEnd}
use Rattle.record_io.proofs.ManyStores.{as_many, none_asked, one_asked, same_bytes, same_told, tells_at}
use Rattle.record_join.proofs.HandedOut.{HandOut-more}
use Rattle.record_join.proofs.Behind.{on_boundary}
use Rattle.record_join.proofs.Steps.{AreJoined-all, JoinedSoFar-more, first_failed, first_none, fits_more, joined_failed}
use Rattle.record_join.proofs.joins.join.Goals as goal
use Rattle.record_join.proofs.joins.join.Goals.{After-index-stores-index, After-loop-index}

pub loop-index-init : goal.loop-index-init
loop-index-init g c = record {
  bounds = search rules;
  fits = search rules;
  joined = search rules;
  asked = none_asked g.S.Store.bytes g.S.Store.told g.S.Store.name g.S.Store.faults c.args.stores.now (λ never. never);
  hand_out = search rules;
  counts = search rules;
}

-- the store that is asked next stands at its place
there : (g : _) (c : After-index-stores-index g)
    → get_or c.loop-index.stores c.loop-index.index c.index-stores-index.result
    ≡ get_or c.loop-index.stores c.loop-index.index (get_or c.loop-index.stores c.loop-index.index c.index-stores-index.result)
there g c = ap (get_or c.loop-index.stores c.loop-index.index) c.index-stores-index.is

below : (g : _) (c : After-index-stores-index g) → c.loop-index.index < length c.loop-index.stores
below g c = omega (arith, c.loop-index-test.true, c.loop-index.auto.index-end)

-- stores that were only asked still tell what they told before
told_as : (g : _) (c : After-index-stores-index g) → AreTold g.S.Store.told c.loop-index.stores c.args.sizes.now
told_as g c =
    same_told g.S.Store.bytes g.S.Store.told g.S.Store.name g.S.Store.faults c.args.stores.now c.loop-index.stores c.loop-index.invariant.asked.each
    ∙ c.requires.sized.are_told

-- its size
below_sizes : (g : _) (c : After-index-stores-index g) → c.loop-index.index < length c.args.sizes.now
below_sizes g c =
    omega (arith, below g c, as_many g.S.Store.told c.loop-index.stores c.args.sizes.now (told_as g c))

sized : (g : _) (c : After-index-stores-index g) → slice_get c.args.sizes.now c.loop-index.index ≡ Some (get_or c.args.sizes.now c.loop-index.index 0)
sized g c = slice_get-get_or c.args.sizes.now c.loop-index.index 0 (below_sizes g c)

pub join_file-requires-clause-sized : goal.join_file-requires-clause-sized
join_file-requires-clause-sized g c =
    let at = (goal.at.join_file-requires-clause-sized g c).After-index-stores-index in
    let i : ℕ = c.loop-index.index in
    let told = tells_at g.S.Store.told c.loop-index.stores c.args.sizes.now i
    (get_or c.loop-index.stores i c.index-stores-index.result) (told_as g at) (below g at) (there g at) in
    record {
      is_told = told.2 ∙ ap Some (sym (get_or_from_slice_get c.args.sizes.now i told.0 0 told.1));
      in_reach = grind (arith, common_steps);
    }

-- its bytes
file : (g : _) (c : After-index-stores-index g) (files : List (List ℕ)) → AreTold g.S.Store.bytes c.args.stores.now files
    → (bytes : List ℕ) × (slice_get files c.loop-index.index ≡ Some bytes)
    × (g.S.Store.bytes (get_or c.loop-index.stores c.loop-index.index c.index-stores-index.result) ≡ Some bytes)
file g c files told =
    tells_at g.S.Store.bytes c.loop-index.stores files c.loop-index.index (get_or c.loop-index.stores c.loop-index.index c.index-stores-index.result)
    (same_bytes g.S.Store.bytes g.S.Store.told g.S.Store.name g.S.Store.faults c.args.stores.now c.loop-index.stores c.loop-index.invariant.asked.each ∙ told)
    (below g c) (there g c)

-- a file that wasn't put whole ends it
pub returns-in_err-totals-clause-joined : goal.returns-in_err-totals-clause-joined
returns-in_err-totals-clause-joined g c = λ files told.
    let at = (goal.at.returns-in_err-totals-clause-joined g c).After-index-stores-index in
    let p = err_from_is_err_and c.from_residual.result c.from_residual.ensures.1 in
    let its = file g at files told in
    let between : Option (List ℕ) = g.M.Sink.taken c.loop-index.made in
    let after : Option (List ℕ) = g.M.Sink.taken c.join_file.new.made in
    let P : Option (List ℕ) → Type 0 = λ o. IfSome o (λ f.
    TakesNext (Err c.in_err-totals.field-0.0) c.loop-index.index c.loop-index.totals f between after) in
    let Q : Result Totals JoinEnd → Type 0 = λ r. TakesJoined r files (g.M.Sink.taken c.args.made.now) after in
    subst Q (sym (p.1 ∙ ap Err p.2))
    (joined_failed files c.loop-index.index its.0 c.loop-index.totals (g.M.Sink.taken c.args.made.now) between after its.1
    (c.loop-index.invariant.joined files told) c.in_err-totals.field-0.0 (subst P its.2 c.in_err-totals.ensures.joined))

pub returns-in_err-totals-clause-first : goal.returns-in_err-totals-clause-first
returns-in_err-totals-clause-first g c = λ files told.
    let at = (goal.at.returns-in_err-totals-clause-first g c).After-index-stores-index in
    let p = err_from_is_err_and c.from_residual.result c.from_residual.ensures.1 in
    let its = file g at files told in
    let between : Option (List ℕ) = g.M.Sink.taken c.loop-index.made in
    let after : Option (List ℕ) = g.M.Sink.taken c.join_file.new.made in
    let P : Option (List ℕ) → Type 0 = λ o. IfSome o (λ f.
    TakesNext (Err c.in_err-totals.field-0.0) c.loop-index.index c.loop-index.totals f between after) in
    let Q : Result Totals JoinEnd → Type 0 = λ r. AnswersFirst r files in
    subst Q (sym (p.1 ∙ ap Err p.2))
    (first_failed files c.loop-index.index its.0 c.loop-index.totals (g.M.Sink.taken c.args.made.now) between after its.1
    (c.loop-index.invariant.joined files told) c.in_err-totals.field-0.0 (subst P its.2 c.in_err-totals.ensures.joined))

pub returns-in_err-totals-clause-handed : goal.returns-in_err-totals-clause-handed
returns-in_err-totals-clause-handed g c =
    let at = (goal.at.returns-in_err-totals-clause-handed g c).After-index-stores-index in
    let i : ℕ = c.loop-index.index in
    (HandOut-more g.S.Store.handed c.args.sizes.now c.args.stores.now c.loop-index.stores i (get_or c.loop-index.stores i c.index-stores-index.result)
    c.join_file.new.store (get_or c.args.sizes.now i 0) (below g at) (there g at) (sized g at) (omega (arith, c.in_err-totals.ensures.store.handed)) c.loop-index.invariant.hand_out).most

pub returns-in_err-totals-clause-stores : goal.returns-in_err-totals-clause-stores
returns-in_err-totals-clause-stores g c =
    let at = (goal.at.returns-in_err-totals-clause-stores g c).After-index-stores-index in
    let p = err_from_is_err_and c.from_residual.result c.from_residual.ensures.1 in
    let i : ℕ = c.loop-index.index in
    one_asked g.S.Store.bytes g.S.Store.told g.S.Store.name g.S.Store.faults c.args.stores.now c.loop-index.stores i
    (get_or c.loop-index.stores i c.index-stores-index.result) c.join_file.new.store (below g at) (there g at) c.loop-index.invariant.asked
    c.in_err-totals.ensures.store.asks (λ e. sym (p.1 ∙ ap Err p.2) ∙ e)

pub loop-index-preserved : goal.loop-index-preserved
loop-index-preserved g c =
    let at = (goal.at.loop-index-preserved g c).After-index-stores-index in
    let kept = c.loop-index.invariant in
    let given = c.in_ok-totals.ensures in
    let i : ℕ = c.loop-index.index in
    let store = get_or c.loop-index.stores i c.index-stores-index.result in
    record {
      bounds = given.counted.0;
      fits = fits_more c.args.sizes.now i c.loop-index.totals.bytes c.in_ok-totals.totals.bytes (below_sizes g at) (on_boundary c.loop-index.totals.bytes kept.bounds.boundary)
          kept.fits given.counted.1;
      joined = λ files told.
          let its = file g at files told in
          let P : Option (List ℕ) → Type 0 = λ o. IfSome o (λ f. AreTotalsWith c.loop-index.totals f c.in_ok-totals.totals
          × Takes (g.M.Sink.taken c.loop-index.made) (g.M.Sink.taken c.join_file.new.made) (padding_bytes c.loop-index.totals.bytes ++ f)) in
          let whole = subst P its.2 given.joined in
          JoinedSoFar-more files i its.0 c.loop-index.totals c.in_ok-totals.totals (g.M.Sink.taken c.args.made.now) (g.M.Sink.taken c.loop-index.made)
          (g.M.Sink.taken c.join_file.new.made) its.1 whole.0 whole.1 (kept.joined files told);
      asked = one_asked g.S.Store.bytes g.S.Store.told g.S.Store.name g.S.Store.faults c.args.stores.now c.loop-index.stores i store
          c.join_file.new.store (below g at) (there g at) kept.asked given.store.asks (λ never. absurd never);
      hand_out = HandOut-more g.S.Store.handed c.args.sizes.now c.args.stores.now c.loop-index.stores i store c.join_file.new.store
          (get_or c.args.sizes.now i 0) (below g at) (there g at) (sized g at) (omega (arith, given.store.handed)) kept.hand_out;
      counts = search rules;
    }

-- all files were joined
all_joined : (g : _) (c : After-loop-index g) (files : List (List ℕ)) → AreTold g.S.Store.bytes c.args.stores.now files
    → AreJoined files c.loop-index.totals (g.M.Sink.taken c.args.made.now) (g.M.Sink.taken c.loop-index.made)
all_joined g c files told =
    let many : length c.args.stores.now ≡ length files = as_many g.S.Store.bytes c.args.stores.now files told in
    AreJoined-all files c.loop-index.index c.loop-index.totals (g.M.Sink.taken c.args.made.now) (g.M.Sink.taken c.loop-index.made)
    (omega (arith, many, c.requires.sized.some)) (omega (arith, many, c.loop-index-test.false, c.loop-index.auto.index-end))
    (c.loop-index.invariant.joined files told)

pub returns-clause-joined : goal.returns-clause-joined
returns-clause-joined g c = λ files told. all_joined g (goal.at.returns-clause-joined g c).After-loop-index files told

pub returns-clause-first : goal.returns-clause-first
returns-clause-first g c = λ files told.
    first_none files c.loop-index.totals (g.M.Sink.taken c.args.made.now) (g.M.Sink.taken c.loop-index.made)
    (all_joined g (goal.at.returns-clause-first g c).After-loop-index files told)
