use Rattle.std.proofs.Common.{◌≡◌, ℕ, length, sym, subst, ap, arith}
use Rattle.std.proofs.lemmas.List.Elements.{All-from_recursion}
use Rattle.record_io.proofs.ManyStores.{none_asked}
use Rattle.record_ranges.specs.Ranges.{RiseUpTo}
use Rattle.record_ranges.proofs.EvenCuts.{even-rise}
use Rattle.record_ranges.proofs.RangesLines.{length-even_cuts, parts_text}
use Rattle.record_ranges.proofs.RangesSteps.{read-in}
use Rattle.record_ranges.proofs.RangesStores.{all_told}
use Rattle.record_ranges.proofs.printing.read_parts.Goals as goal

pub read_stretches-requires-clause-many : goal.read_stretches-requires-clause-many
read_stretches-requires-clause-many g c κs within = (
  omega (arith, ap length c.in-Ok.ensures, length-even_cuts c.args.size c.args.parts, c.requires.parts.0, c.requires.parts.1),
  omega (arith, c.requires.parts.0, c.requires.parts.2),
)

pub read_stretches-requires-clause-sized : goal.read_stretches-requires-clause-sized
read_stretches-requires-clause-sized g c κs within = (
  All-from_recursion _ c.args.files.now
      (all_told g.S.Store.told c.args.files.now c.requires.one.alike.0 c.args.size c.requires.one.alike.1 c.requires.one.alike.2.same),
  c.requires.one.alike.2.within,
)

pub read_stretches-requires-clause-rise : goal.read_stretches-requires-clause-rise
read_stretches-requires-clause-rise g c κs within =
    subst (RiseUpTo c.args.size 0) (sym c.in-Ok.ensures) (even-rise c.args.size c.args.parts c.requires.parts.1)

pub returns-in_default-clause-files : goal.returns-in_default-clause-files
returns-in_default-clause-files g c = none_asked g.S.Store.bytes g.S.Store.told g.S.Store.name g.S.Store.faults c.args.files.now (λ e. cc e)

pub returns-clause-read : goal.returns-clause-read
returns-clause-read g c = λ file one.
    let size : c.args.size ≡ length file = c.requires.one.exact file one in
    read-in c.read_stretches.result file _ c.read_stretches.ensures.ranges
    (λ parts are. parts_text file c.in-Ok.cuts parts.items (are file one)
    (subst (λ (n : ℕ). RiseUpTo n 0 c.in-Ok.cuts) size
    (subst (RiseUpTo c.args.size 0) (sym c.in-Ok.ensures) (even-rise c.args.size c.args.parts c.requires.parts.1))))
    (λ fault is. c.read_stretches.ensures.refused fault is file one)

pub returns-clause-even : goal.returns-clause-even
returns-clause-even g c = rw c.in-Ok.ensures at c.read_stretches.ensures.ranges
