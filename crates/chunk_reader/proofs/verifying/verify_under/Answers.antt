use Rattle.std.proofs.Common.{◌≡◌, ◌∙◌, true, Result, Bool, Err, IfSome, ap, sym, refl, subst}
use Rattle.chunk_reader.specs.Faults.{IsVerdict}
use Rattle.chunk_reader.specs.declared.reasons.Fault.{Fault}
use Rattle.chunk_reader.specs.declared.reasons.Why.{Why}
use Rattle.chunk_reader.specs.declared.verifying.Verified.{Verified}
use Rattle.chunk_reader.proofs.VerifySteps.{IsFound, IsThrough, whole_in, refused_block, refused_content, passed}
use Rattle.chunk_reader.proofs.verifying.verify_under.Goals as goal
use Rattle.chunk_reader.proofs.verifying.verify_under.Goals.{Start, After-finish}

-- the header that was found
found : (g : _) (c : Start g) → IsFound (g.S.Store.bytes c.args.store.now) c.args.at c.args.end c.args.header.now
found g c = record {
  head = c.requires.found;
  whole = whole_in _ _ c.args.end (g.met.S.Store.sized c.args.store.now) c.requires.span.within;
}

-- the data behind it, which was judged
through : (g : _) (c : After-finish g)
    → IsThrough (g.S.Store.bytes c.args.store.now) c.args.at c.args.end c.args.header.now c.feed_chunk.new.taker c.finish.result
through g c = record {
  header = c.in_ok-feed_chunk.ensures.same_header ∙ c.new-judge.ensures.header;
  taken = c.in_ok-feed_chunk.ensures.taken;
  right = c.in_ok-feed_chunk.ensures.right;
  tells = c.finish.ensures;
}

pub returns-in_err-feed_chunk-clause-refused : goal.returns-in_err-feed_chunk-clause-refused
returns-in_err-feed_chunk-clause-refused g c =
    λ fault e.
    let start = (goal.at.returns-in_err-feed_chunk-clause-refused g c).Start in
    let wrong = c.in_err-feed_chunk.ensures.wrong fault (ap Err (sym (rw e at c.from_residual.ensures.1))) in
    refused_block _ _ c.args.at c.args.end c.args.header.now fault (found g start) refl wrong.0 wrong.1

pub returns-in-Ok-clause-passed : goal.returns-in-Ok-clause-passed
returns-in-Ok-clause-passed g c =
    let at = goal.at.returns-in-Ok-clause-passed g c in
    let v : Verified = record {
      end = c.args.end;
      header = c.args.header.now;
      unread = c.in-Ok.unread;
    } in
    let P : Result Bool Why → Type 0 = IsThrough (g.S.Store.bytes c.args.store.now) c.args.at c.args.end c.args.header.now c.feed_chunk.new.taker in
    passed (g.S.Store.bytes c.args.store.now) c.args.at c.feed_chunk.new.taker v (found g at.Start) (subst P c.in-Ok.is (through g at.After-finish))

pub returns-in-Err-clause-refused : goal.returns-in-Err-clause-refused
returns-in-Err-clause-refused g c =
    λ fault e.
    let at = goal.at.returns-in-Err-clause-refused g c in
    let here : Fault = record { at = c.args.at; why = c.in-Err.why } in
    let is : here ≡ fault = cc (c.refused.ensures) in
    let P : Result Bool Why → Type 0 = IsThrough (g.S.Store.bytes c.args.store.now) c.args.at c.args.end c.args.header.now c.feed_chunk.new.taker in
    subst (λ (f : Fault). IfSome (g.S.Store.bytes c.args.store.now) (λ file. IsVerdict true file c.args.at f)) is
    (refused_content (g.S.Store.bytes c.args.store.now) c.args.at c.args.end c.args.header.now c.feed_chunk.new.taker here
    (found g at.Start) (subst P c.in-Err.is (through g at.After-finish)) refl)
