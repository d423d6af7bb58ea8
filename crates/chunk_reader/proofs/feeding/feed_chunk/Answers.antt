use Rattle.std.proofs.Common.{◌≡◌, IfSome, refl, subst, arith}
use Rattle.block_layout.proofs.Ends.{end_of_after}
use Rattle.chunk_reader.specs.PlaceChecks.{IsFirstWrong}
use Rattle.chunk_reader.specs.declared.reasons.Fault.{Fault}
use Rattle.chunk_reader.specs.declared.reasons.Why.TheVariants.{BlockHeader}
use Rattle.chunk_reader.proofs.Loads.{chunk_end-on_boundary, header_within}
use Rattle.chunk_reader.proofs.Scans.{wrong-first}
use Rattle.chunk_reader.proofs.feeding.feed_chunk.Goals as goal

pub read_data-requires-clause-judges : goal.read_data-requires-clause-judges
read_data-requires-clause-judges g c =
    let header = c.args.header.now in
    let span = c.requires.span in
    record {
      fits = (span.within, rw span.is_end (chunk_end-on_boundary c.args.at header.data_size header.num_records));
      begun = omega arith;
      ordered = omega (arith, span.is_end, header_within c.args.at header.data_size header.num_records, end_of_after c.args.at 40);
      within = omega arith;
    }

pub returns-in-Ok-clause-right : goal.returns-in-Ok-clause-right
returns-in-Ok-clause-right g c = c.in-Ok.ensures.accepted

pub returns-in-Err-Refused-clause-wrong : goal.returns-in-Err-Refused-clause-wrong
returns-in-Err-Refused-clause-wrong g c =
    λ fault e.
    let block = c.in-Err-Refused.block in
    let end = c.args.end in
    let here : Fault = record { at = block; why = BlockHeader } in
    let same : here ≡ fault = cc (c.refused.ensures) in
    subst (λ (f : Fault). (f.why ≡ BlockHeader) × IfSome (g.S.Store.bytes c.args.store.now) (λ file. IsFirstWrong file c.args.at end c.args.at end f.at)) same
    (refl, wrong-first _ c.args.at end block _ (c.in-Err-Refused.ensures.refused block (cc)).1)
