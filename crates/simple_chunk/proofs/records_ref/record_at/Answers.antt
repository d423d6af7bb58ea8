use Rattle.std.proofs.Common.{◌≤◌, length, get_or, arith, rules}
use Rattle.simple_chunk.proofs.Parts.{AreEnds-at, slice_get-parts_from}
use Rattle.simple_chunk.proofs.records_ref.record_at.Goals as goal

pub slice_bounds-result-count : goal.slice_bounds-result-count
slice_bounds-result-count c =
    omega (arith, AreEnds-at c.args.begin c.args.ends.now (length c.args.values.now) c.args.i c.requires.held c.requires.within, c.place_before-from.ensures)

pub slice_bounds-result-start : goal.slice_bounds-result-start
slice_bounds-result-start c =
    let at = AreEnds-at c.args.begin c.args.ends.now (length c.args.values.now) c.args.i c.requires.held c.requires.within in
    let order : c.place_before-from.result ≤ get_or c.args.ends.now c.args.i 0 = omega (arith, at.0, c.place_before-from.ensures) in
    search rules

pub slice_bounds-result-end : goal.slice_bounds-result-end
slice_bounds-result-end c =
    let at = AreEnds-at c.args.begin c.args.ends.now (length c.args.values.now) c.args.i c.requires.held c.requires.within in
    let order : c.place_before-from.result ≤ get_or c.args.ends.now c.args.i 0 = omega (arith, at.0, c.place_before-from.ensures) in
    let within : get_or c.args.ends.now c.args.i 0 ≤ length c.args.values.now = at.1 in
    search rules

pub returns : goal.returns
returns c = rw c.place_before-from.ensures (slice_get-parts_from c.args.begin c.args.ends.now c.args.values.now c.args.i c.requires.within)
