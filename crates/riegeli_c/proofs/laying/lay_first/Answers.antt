use Rattle.std.proofs.Common.{ℕ, refl, subst, arith}
use Rattle.std.specs.Prelude.{IsErr}
use Rattle.std.proofs.lemmas.Result.{err_from_is_err_and}
use Rattle.record_group.specs.Groups.{padding_if}
use Rattle.riegeli_c.specs.Laying.{LaysBy}
use Rattle.riegeli_c.specs.Writes.{signature_at}
use Rattle.riegeli_c.proofs.LaidBy.{lays-behind, lays-short, position, unspent}
use Rattle.riegeli_c.proofs.WrittenChunks.{signed-near}
use Rattle.riegeli_c.proofs.laying.lay_first.Goals as goal

pub returns-in_err-lay_signature : goal.returns-in_err-lay_signature
returns-in_err-lay_signature g c =
    let p = err_from_is_err_and c.from_residual.result c.from_residual.ensures.1 in
    lays-short g.M.Sink.taken g.M.Sink.lent g.M.Sink.faults c.from_residual.result p.0 c.args.writer.now c.lay_signature.new.writer
    (signature_at c.args.writer.now.position) _ c.args.made.now c.lay_signature.new.made p.1 refl
    (c.in_err-lay_signature.ensures.short refl) c.in_err-lay_signature.ensures.counts

pub pad_if-requires : goal.pad_if-requires
pad_if-requires g c =
    let at = position _ _ c.args.writer.now c.lay_signature.new.writer (signature_at c.args.writer.now.position) c.in_ok-lay_signature.ensures.whole in
    record {
      may_reach = record {
        unspent = unspent _ _ c.args.writer.now c.lay_signature.new.writer (signature_at c.args.writer.now.position) c.in_ok-lay_signature.ensures.whole;
        in_reach = omega (arith, at, signed-near c.args.writer.now.position, c.requires.near);
      };
    }

pub returns : goal.returns
returns g c =
    let at = position _ _ c.args.writer.now c.lay_signature.new.writer (signature_at c.args.writer.now.position) c.in_ok-lay_signature.ensures.whole in
    lays-behind g.M.Sink.taken g.M.Sink.lent g.M.Sink.faults c.pad_if.result c.args.writer.now c.lay_signature.new.writer c.pad_if.new.writer
    (signature_at c.args.writer.now.position) _ c.args.made.now c.lay_signature.new.made c.pad_if.new.made
    c.in_ok-lay_signature.ensures.whole c.in_ok-lay_signature.ensures.counts
    (subst
    (λ (place : ℕ). LaysBy g.M.Sink.taken g.M.Sink.lent g.M.Sink.faults (IsErr c.pad_if.result) c.pad_if.result c.lay_signature.new.writer c.pad_if.new.writer
    (padding_if c.args.wanted place) c.lay_signature.new.made c.pad_if.new.made)
    at c.pad_if.ensures)
