use Rattle.std.proofs.Common.{◌≡◌, ◌∙◌, ℕ, false, List, Some, length, sym, ap, arith}
use Rattle.std.specs.Prelude.{slice_index_or}
use Rattle.std.specs.List.{AllByRecursion}
use Rattle.chunk_reader.specs.Faults.{IsFault}
use Rattle.record_ranges.proofs.Answering.{spans-length, spans-within, ranges-answered, of-told}
use Rattle.record_io.proofs.ManyStores.{none_asked}
use Rattle.record_ranges.proofs.Threads.{all_in, asked_again, first-told, first-bytes}
use Rattle.record_ranges.proofs.reading.read_stretches.Goals as goal
use Rattle.record_ranges.proofs.reading.read_stretches.Goals.{After-judged_parts}

pub returns-in_default-clause-stores : goal.returns-in_default-clause-stores
returns-in_default-clause-stores g c =
    none_asked g.S.Store.bytes g.S.Store.told g.S.Store.name g.S.Store.faults c.args.stores.now (λ failed. cc)

pub returns-in_default-unanswered-clause-stores : goal.returns-in_default-unanswered-clause-stores
returns-in_default-unanswered-clause-stores g c =
    none_asked g.S.Store.bytes g.S.Store.told g.S.Store.name g.S.Store.faults c.args.stores.now (λ failed. cc)

pub read_into-requires-clause-spans : goal.read_into-requires-clause-spans
read_into-requires-clause-spans g c κs within =
    ap length (c.deref.ensures.value ∙ c.in-Ok.ensures) ∙ spans-length c.args.size 0 c.args.cuts.now ∙ sym c.requires.many.0

pub read_into-requires-clause-within : goal.read_into-requires-clause-within
read_into-requires-clause-within g c κs within =
    spans-within c.args.size 0 c.args.cuts.now c.deref.result.now (c.deref.ensures.value ∙ c.in-Ok.ensures) c.requires.rise

pub judged_parts-requires-clause-sized : goal.judged_parts-requires-clause-sized
judged_parts-requires-clause-sized g c = record {
  is_told = first-told g.K.Keeper.kept_as g.S.Store.bytes g.S.Store.told g.S.Store.name g.S.Store.faults c.args.size c.deref.result.now c.args.stores.now c.read_into.new.stores
      c.read_into.new.answers.items c.index-stores-0.result c.read_into.ensures c.requires.sized.0 (omega (arith, c.requires.many.0));
  in_reach = omega (arith, c.requires.sized.1);
}

-- where all stores show the same bytes, the first shows them after the threads too
tells : (g : _) (c : After-judged_parts g) (file : List ℕ) → AllByRecursion (λ s. g.S.Store.bytes s ≡ Some file) c.args.stores.now
    → g.S.Store.bytes (slice_index_or c.read_into.new.stores 0 c.index-stores-0.result) ≡ Some file
tells g c file same =
    first-bytes g.K.Keeper.kept_as g.S.Store.bytes g.S.Store.told g.S.Store.name g.S.Store.faults file c.deref.result.now c.args.stores.now c.read_into.new.stores
    c.read_into.new.answers.items c.index-stores-0.result c.read_into.ensures same (omega (arith, c.requires.many.0))

pub returns-clause-ranges : goal.returns-clause-ranges
returns-clause-ranges g c =
    let spans = c.deref-2.ensures.value ∙ sym c.deref.ensures.value in
    ranges-answered g.K.Keeper.kept_as g.S.Store.bytes c.args.stores.now c.args.cuts.now c.args.size c.deref-2.result.now c.read_into.new.answers.items
    _ c.judged_parts.result (c.deref-2.ensures.value ∙ c.in-Ok.ensures) (tells g (goal.at.returns-clause-ranges g c).After-judged_parts)
    (λ file same. rw spans (all_in g.K.Keeper.kept_as g.S.Store.bytes g.S.Store.told g.S.Store.name g.S.Store.faults file c.deref.result.now c.args.stores.now
    c.read_into.new.stores c.read_into.new.answers.items same c.read_into.ensures))
    c.judged_parts.ensures.parts

pub returns-clause-refused : goal.returns-clause-refused
returns-clause-refused g c = λ fault is file same.
    of-told _ file (λ f. IsFault false f fault) (tells g (goal.at.returns-clause-refused g c).After-judged_parts file same)
    (c.judged_parts.ensures.refused fault is)

pub returns-clause-stores : goal.returns-clause-stores
returns-clause-stores g c =
    asked_again g.K.Keeper.kept_as g.S.Store.bytes g.S.Store.told g.S.Store.name g.S.Store.faults c.deref.result.now c.args.stores.now c.read_into.new.stores
    c.read_into.new.answers.items c.index-stores-0.result c.judged_parts.new.store (omega (arith, c.requires.many.0)) c.read_into.ensures
    c.judged_parts.ensures.store c.judged_parts.ensures.cause
