use Rattle.std.proofs.Common.{◌≡◌, ◌∙◌, ◌+◌, Err, length, refl, sym, ap, subst, arith}
use Rattle.block_layout.proofs.ChunkEnds.{chunk_end_of_boundary, chunk_end_of_above}
use Rattle.chunk_header.specs.Views.{value_of_chunk}
use Rattle.meta_chunk.specs.Laid.{end_of_chunk}
use Rattle.chunk_reader.specs.Reasons.{loading_reasons}
use Rattle.chunk_reader.specs.Ends.{IsOneOf}
use Rattle.chunk_reader.specs.declared.reasons.Fault.{Fault}
use Rattle.chunk_reader.proofs.StrictSteps.{IsLoaded, refused_block, refused_content, right_hash, judged_in, late_block, late_content}
use Rattle.chunk_reader.proofs.judging.strict_under.Goals as goal
use Rattle.chunk_reader.proofs.judging.strict_under.Goals.{In_ok-chunk}

-- the chunk that was loaded
loaded : (g : _) (c : In_ok-chunk g) → IsLoaded (g.S.Store.bytes c.args.store.now) c.args.at c.args.end c.in_ok-chunk.chunk
loaded g c =
    let h = c.in_ok-chunk.ensures.header in
    record {
      found = rw h c.requires.found;
      sound = c.in_ok-chunk.ensures.sound;
      given = rw h c.in_ok-chunk.ensures.given;
      right = c.in_ok-chunk.ensures.right;
    }

pub returns-in_err-chunk-clause-refused : goal.returns-in_err-chunk-clause-refused
returns-in_err-chunk-clause-refused g c =
    λ fault e.
    let wrong = c.in_err-chunk.ensures.wrong fault (ap Err (sym (rw e at c.from_residual.ensures.1))) in
    refused_block _ _ c.args.unread_ok c.args.at c.args.end c.args.header fault refl c.requires.found wrong.0 wrong.1

pub returns-in_err-chunk-clause-late : goal.returns-in_err-chunk-clause-late
returns-in_err-chunk-clause-late g c =
    λ fault e.
    let wrong = c.in_err-chunk.ensures.wrong fault (ap Err (sym (rw e at c.from_residual.ensures.1))) in
    late_block fault.why wrong.0

pub returns-in-Ok-clause-judged : goal.returns-in-Ok-clause-judged
returns-in-Ok-clause-judged g c =
    let k = value_of_chunk c.in_ok-chunk.chunk in
    let h = c.args.header in
    let size : length c.in_ok-chunk.chunk.bytes ≡ h.data_size =
    c.in_ok-chunk.chunk.sized ∙ ap (λ x. x.data_size) c.in_ok-chunk.ensures.header in
    let records : k.num_records ≡ h.num_records = ap (λ x. x.num_records) c.in_ok-chunk.ensures.header in
    let end : c.args.end ≡ end_of_chunk c.args.at k =
    rw (size, records) c.requires.found.ends in
    record {
      begin = refl;
      end = end;
      to_boundary = rw end (chunk_end_of_boundary c.args.at (40 + length c.in_ok-chunk.chunk.bytes) k.num_records);
      after = omega (arith, end, chunk_end_of_above c.args.at (40 + length c.in_ok-chunk.chunk.bytes) k.num_records (omega arith));
      within = omega arith;
      small = omega (arith, size, c.requires.small);
      right = right_hash c.args.unread_ok c.in_ok-chunk.chunk c.in-Ok.ensures.judged.sound;
      sound = c.in_ok-chunk.ensures.sound;
      what = c.in-Ok.ensures.what;
    }

pub returns-in-Ok-clause-sound : goal.returns-in-Ok-clause-sound
returns-in-Ok-clause-sound g c =
    judged_in _ _ c.args.unread_ok c.args.at c.args.end c.in_ok-chunk.chunk _ (g.met.S.Store.sized c.args.store.now) c.requires.span.within
    (loaded g (goal.at.returns-in-Ok-clause-sound g c).In_ok-chunk) refl refl c.in-Ok.ensures.judged.sound

pub returns-in-Err-Fault-clause-refused : goal.returns-in-Err-Fault-clause-refused
returns-in-Err-Fault-clause-refused g c =
    λ fault e.
    refused_content _ c.args.unread_ok c.args.at c.args.end c.in_ok-chunk.chunk c.in-Err-Fault.why fault
    (loaded g (goal.at.returns-in-Err-Fault-clause-refused g c).In_ok-chunk) (cc)
    (c.in-Err-Fault.ensures.judged.refused c.in-Err-Fault.why (cc))

pub returns-in-Err-Fault-clause-late : goal.returns-in-Err-Fault-clause-late
returns-in-Err-Fault-clause-late g c =
    λ fault e one.
    let here : Fault = record { at = c.args.at; why = c.in-Err-Fault.why } in
    let same : here ≡ fault = cc in
    late_content _ c.args.unread_ok c.in-Err-Fault.why (c.in-Err-Fault.ensures.judged.refused c.in-Err-Fault.why (cc))
    (subst (IsOneOf loading_reasons) (ap (λ (f : Fault). f.why) (sym same)) one)
