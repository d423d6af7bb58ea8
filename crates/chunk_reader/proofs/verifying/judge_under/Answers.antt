use Rattle.std.proofs.Common.{◌≡◌, Err, IfSome, refl, ap, subst, sym}
use Rattle.std.proofs.lemmas.Bool.{both_ways}
use Rattle.chunk_reader.specs.Faults.{IsVerdict}
use Rattle.chunk_reader.specs.declared.reasons.Fault.{Fault}
use Rattle.chunk_reader.specs.declared.verifying.Verified.{Verified}
use Rattle.chunk_reader.proofs.StrictlyJudged.{refused_unread, verdict_for, verified_for}
use Rattle.chunk_reader.proofs.verifying.judge_under.Goals as goal
use Rattle.chunk_reader.proofs.verifying.judge_under.Goals.{In_ok-unread, then-unread_ok-via-then-unread_ok, then-unread_ok-via-else-unread_ok+then-not-unread}

-- the chunk that was judged
abbrev verified : (g : _) (c : In_ok-unread g) → Verified
verified g c = record {
  end = c.args.end;
  header = c.args.header.now;
  unread = c.in_ok-unread.unread;
}

pub returns-in_err-unread-clause-refused : goal.returns-in_err-unread-clause-refused
returns-in_err-unread-clause-refused g c =
    λ fault e.
    verdict_for c.args.unread_ok (g.S.Store.bytes c.args.store.now) c.args.at fault
    (c.in_err-unread.ensures.refused fault (ap Err (sym (rw e at c.from_residual.ensures.1))))

pub returns-then-unread_ok-clause-passed : goal.returns-then-unread_ok-clause-passed
returns-then-unread_ok-clause-passed g c =
    verified_for c.args.unread_ok (g.S.Store.bytes c.args.store.now) c.args.at
    (verified g (goal.at.returns-then-unread_ok-clause-passed g c).In_ok-unread)
    (λ strict. elim c.then-unread_ok.branch [
      | then-unread_ok-via-then-unread_ok w ↦ absurd (both_ways c.args.unread_ok strict w.if-unread_ok.true)
      | then-unread_ok-via-else-unread_ok+then-not-unread w ↦ w.if-not-unread.true
    ])
    c.in_ok-unread.ensures.passed

pub returns-clause-refused : goal.returns-clause-refused
returns-clause-refused g c =
    λ fault e.
    let here : Fault = record { at = c.args.at; why = c.why_unread.result } in
    let is : here ≡ fault = cc (c.refused.ensures) in
    subst (λ (f : Fault). IfSome (g.S.Store.bytes c.args.store.now) (λ file. IsVerdict c.args.unread_ok file c.args.at f)) is
    (refused_unread c.args.unread_ok (g.S.Store.bytes c.args.store.now) c.args.at
    (verified g (goal.at.returns-clause-refused g c).In_ok-unread) here c.if-unread_ok.false c.if-not-unread.false
    c.in_ok-unread.ensures.passed refl c.why_unread.ensures.transposed c.why_unread.ensures.other)
