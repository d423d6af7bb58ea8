use Rattle.std.proofs.Common.{◌≡◌, ◌∙◌, ◌&&◌, ◌++◌, Err, length, refl, sym, ap, subst, arith}
use Rattle.std.specs.Prelude.{◌==◌}
use Rattle.std.proofs.lemmas.Result.{err_from_is_err_and}
use Rattle.record_io.specs.Outside.{Takes}
use Rattle.block_layout.specs.Layout.{IsBoundary}
use Rattle.meta_chunk.specs.Files.{end_of_chunks, laid_each}
use Rattle.simple_chunk.specs.Costs.{cost_of}
use Rattle.ordered_writer.specs.Writers.{Writer}
use Rattle.record_group.specs.declared.pad.Pad.{Pad}
use Rattle.record_group.specs.Groups.{padding_if, pads_start, pads_end}
use Rattle.record_group.specs.Groupings.{Grouping}
use Rattle.riegeli_c.specs.Writes.{chunks_told, pad_told, records_cut, signature_at}
use Rattle.riegeli_c.specs.declared.laying.LayEnd.TheVariants.{Made}
use Rattle.riegeli_c.proofs.LaidBy.{position}
use Rattle.riegeli_c.proofs.WrittenChunks.{first-near}
use Rattle.riegeli_c.proofs.WriteSteps.{IsReady, count-told, may_limit, short-first, short-groups, short-end, whole-written}
use Rattle.riegeli_c.proofs.writing.write.Goals as goal
use Rattle.riegeli_c.proofs.writing.write.Goals.{After-lay_first, After-pads_behind, In_ok-pad_if}

-- what is made of the arguments
ready : (g : _) (c : After-lay_first g)
    → IsReady c.args.at c.args.options.now c.resume-writer.result c.pads_start.result c.new-grouper.result
ready g c = record {
  there = ap (λ (w : Writer). w.position) c.resume-writer.ensures;
  starts_is = c.pads_start.ensures ∙ ap pads_start c.pad_told-pad.ensures;
  size_is = ap (λ (n : Grouping). n.size) c.new-grouper.ensures.value;
  every_is = ap (λ (n : Grouping). n.every) c.new-grouper.ensures.value ∙ c.every_told.ensures;
}

ends_is : (g : _) (c : After-pads_behind g) → c.pads_behind.result ≡ ((c.args.last == 1) && pads_end (pad_told c.args.options.now.pad))
ends_is g c = c.pads_behind.ensures ∙ ap (λ (p : Pad). (c.args.last == 1) && pads_end p) c.pad_told-pad.ensures

-- all that is laid
written : (g : _) (c : In_ok-pad_if g)
    → IsReady c.args.at c.args.options.now c.resume-writer.result c.pads_start.result c.new-grouper.result
    → c.pads_behind.result ≡ ((c.args.last == 1) && pads_end (pad_told c.args.options.now.pad))
    → let ks = chunks_told c.args.at (records_cut c.args.values.now c.args.ends.now) c.args.options.now c.args.last in
    Takes (g.M.Sink.taken c.args.made.now) (g.M.Sink.taken c.pad_if.new.made) (laid_each c.args.at ks)
    × (c.pad_if.new.writer.position ≡ end_of_chunks c.args.at ks)
written g c is_ready ends =
    whole-written (g.M.Sink.taken c.args.made.now) (g.M.Sink.taken c.lay_first.new.made) c.resume-writer.result c.lay_first.new.writer
    c.args.at (records_cut c.args.values.now c.args.ends.now) c.args.options.now c.args.last c.pads_start.result c.new-grouper.result is_ready
    (g.M.Sink.taken c.lay_groups.new.made) c.lay_groups.new.writer c.pads_behind.result ends c.in_ok-lay_first.ensures.whole
    c.in_ok-held.ensures.laid.whole (g.M.Sink.taken c.pad_if.new.made) c.pad_if.new.writer c.in_ok-pad_if.ensures.whole

pub new-grouper-requires : goal.new-grouper-requires
new-grouper-requires g c = may_limit c.args.options.now c.every_told.result c.requires.good_options c.every_told.ensures

pub returns-in_err-lay_first-clause-short : goal.returns-in_err-lay_first-clause-short
returns-in_err-lay_first-clause-short g c = λ _.
    let is_ready = ready g (goal.at.returns-in_err-lay_first-clause-short g c).After-lay_first in
    short-first (g.M.Sink.taken c.args.made.now) (g.M.Sink.taken c.lay_first.new.made) c.resume-writer.result c.lay_first.new.writer
    c.args.at (records_cut c.args.values.now c.args.ends.now) c.args.options.now c.args.last c.pads_start.result c.new-grouper.result is_ready
    (c.in_err-lay_first.ensures.short refl)

pub lay_groups-requires-clause-in_reach : goal.lay_groups-requires-clause-in_reach
lay_groups-requires-clause-in_reach g c =
    let u = c.resume-writer.result in
    let there : u.position ≡ c.args.at = ap (λ (w : Writer). w.position) c.resume-writer.ensures in
    omega (
      arith,
      position _ _ u c.lay_first.new.writer (signature_at u.position ++ padding_if c.pads_start.result (end_of_chunks u.position (signature_at u.position))) c.in_ok-lay_first.ensures.whole,
      first-near u.position c.pads_start.result (subst IsBoundary (sym there) c.requires.good_place.boundary),
      there,
      c.requires.good_place.near,
      c.requires.few_values,
      c.requires.few_records,
      ap (λ (n : Grouping). cost_of n.group) c.new-grouper.ensures.value,
    )

pub returns-in_err-held-clause-short : goal.returns-in_err-held-clause-short
returns-in_err-held-clause-short g c = λ is.
    let is_ready = ready g (goal.at.returns-in_err-held-clause-short g c).After-lay_first in
    let p = err_from_is_err_and c.from_residual-in_err-held.result c.from_residual-in_err-held.ensures.1 in
    let failed : c.in_err-held.field-0.0 ≡ Made = cc (p.1, p.2, is) in
    short-groups (g.M.Sink.taken c.args.made.now) (g.M.Sink.taken c.lay_first.new.made) c.resume-writer.result c.lay_first.new.writer
    c.args.at (records_cut c.args.values.now c.args.ends.now) c.args.options.now c.args.last c.pads_start.result c.new-grouper.result is_ready
    (g.M.Sink.taken c.lay_groups.new.made) c.in_ok-lay_first.ensures.whole (c.in_err-held.ensures.laid.short (ap Err failed))

pub returns-in_err-pad_if-clause-short : goal.returns-in_err-pad_if-clause-short
returns-in_err-pad_if-clause-short g c = λ _.
    let s = goal.at.returns-in_err-pad_if-clause-short g c in
    let is_ready = ready g s.After-lay_first in
    short-end (g.M.Sink.taken c.args.made.now) (g.M.Sink.taken c.lay_first.new.made) c.resume-writer.result c.lay_first.new.writer
    c.args.at (records_cut c.args.values.now c.args.ends.now) c.args.options.now c.args.last c.pads_start.result c.new-grouper.result is_ready
    (g.M.Sink.taken c.lay_groups.new.made) c.lay_groups.new.writer c.pads_behind.result (ends_is g s.After-pads_behind)
    c.in_ok-lay_first.ensures.whole c.in_ok-held.ensures.laid.whole (g.M.Sink.taken c.pad_if.new.made) (c.in_err-pad_if.ensures.short refl)

pub returns-clause-laid : goal.returns-clause-laid
returns-clause-laid g c =
    let s = goal.at.returns-clause-laid g c in
    (written g s.In_ok-pad_if (ready g s.After-lay_first) (ends_is g s.After-pads_behind)).0

pub returns-clause-told : goal.returns-clause-told
returns-clause-told g c =
    let s = goal.at.returns-clause-told g c in
    let is_ready = ready g s.After-lay_first in
    record {
      end = c.position.ensures.value ∙ (written g s.In_ok-pad_if is_ready (ends_is g s.After-pads_behind)).1;
      count = omega (
        arith,
        count-told is_ready (records_cut c.args.values.now c.args.ends.now) c.args.last c.in_ok-held.held (length c.args.ends.now)
            c.in_ok-held.ensures.held,
      );
    }
