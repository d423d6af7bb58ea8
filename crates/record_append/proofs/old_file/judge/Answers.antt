use Rattle.std.proofs.Common.{◌≡◌, ◌<◌, IfSome, refl, subst}
use Rattle.chunk_reader.specs.declared.reasons.Fault.{Fault}
use Rattle.record_append.specs.Grown.{IsRefusedToGrow, RefusesFor}
use Rattle.record_append.proofs.KeptFiles.{IsSized, kept_front, kept_signed, refused_front, sized_told}
use Rattle.record_append.proofs.old_file.judge.Goals as goal

pub returns-in-Some-clause-refused : goal.returns-in-Some-clause-refused
returns-in-Some-clause-refused g c =
    λ fault is.
    let same : c.in-Some.fault ≡ fault = cc in
    let bytes = g.G.Store.bytes c.args.device.now in
    let sized : IsSized bytes c.args.size = sized_told bytes (g.G.Store.told c.args.device.now) c.args.size (g.met.G.Store.sized c.args.device.now) c.requires.sized.is_told in
    subst (λ (f : Fault). (0 < c.args.size) × RefusesFor c.args.cut f.why × IfSome bytes (λ file. IsRefusedToGrow c.args.cut file f)) same (
      c.in-Some.ensures.refused.1,
      c.in-Some.ensures.refused.2,
      refused_front c.args.cut bytes c.args.size c.in_ok-front.front c.in-Some.fault sized c.in_ok-front.ensures.front c.in-Some.ensures.refused,
    )

pub returns-in-None-clause-kept : goal.returns-in-None-clause-kept
returns-in-None-clause-kept g c =
    let bytes = g.G.Store.bytes c.args.device.now in
    let sized : IsSized bytes c.args.size = sized_told bytes (g.G.Store.told c.args.device.now) c.args.size (g.met.G.Store.sized c.args.device.now) c.requires.sized.is_told in
    kept_front c.args.cut bytes c.args.size c.in_ok-front.front sized c.in_ok-front.ensures.front (c.in-None.ensures.taken refl)

pub returns-in-None-clause-place : goal.returns-in-None-clause-place
returns-in-None-clause-place g c =
    let bounds = c.in_ok-front.ensures.totals in
    record {
      within = bounds.within;
      boundary = bounds.boundary;
      signed = kept_signed c.args.cut c.args.size c.in_ok-front.front c.in_ok-front.ensures.whole c.in_ok-front.ensures.signed
          (c.in-None.ensures.taken refl);
    }
