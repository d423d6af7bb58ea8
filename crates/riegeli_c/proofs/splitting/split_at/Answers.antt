use Rattle.std.proofs.Common.{◌∙◌, Ok, Err, ap, arith}
use Rattle.chunk_reader.proofs.ChainReads.{refused_end}
use Rattle.riegeli_c.proofs.SplitSteps.{answered, split-there, split-behind, split-read}
use Rattle.riegeli_c.proofs.splitting.split_at.Goals as goal

pub returns-then-begin-at-clause-split : goal.returns-then-begin-at-clause-split
returns-then-begin-at-clause-split g c = λ place is.
    let e = ap Ok c.in-Some.is in
    split-there (g.S.Store.bytes c.args.store.now) c.args.size c.args.at c.in-Some.begin place (c.in_ok-begin.ensures.begin c.in-Some.begin e).2
    c.if-begin-at.true (answered c.args.at place is) (c.in_ok-begin.ensures.holder c.in-Some.begin e)

pub passed_head_at-requires : goal.passed_head_at-requires
passed_head_at-requires g c =
    let e = c.in_ok-begin.ensures.begin c.in-Some.begin (ap Ok c.in-Some.is) in
    record {
      place = record {
        sized = record { is_told = c.holder.ensures.store.same_told ∙ c.requires.sized.is_told; in_reach = c.requires.sized.in_reach };
        from_boundary = e.0;
        below = omega (arith, e.1, e.2);
      };
    }

pub returns-in_err-end-clause-refused : goal.returns-in_err-end-clause-refused
returns-in_err-end-clause-refused g c = λ fault e.
    let met = c.in_err-end.ensures.refused fault (ap Err (refused_end c.in_err-end.field-0.0 fault (rw e at c.from_residual-in_err-end.ensures.1))) in
    split-read (g.S.Store.bytes c.args.store.now) (g.S.Store.bytes c.holder.new.store) c.args.at c.in-Some.begin fault c.holder.ensures.store.same_bytes
    (c.in_ok-begin.ensures.holder c.in-Some.begin (ap Ok c.in-Some.is)) met.1

pub returns-clause-split : goal.returns-clause-split
returns-clause-split g c = λ place is.
    let e = c.in_ok-begin.ensures.begin c.in-Some.begin (ap Ok c.in-Some.is) in
    split-behind (g.S.Store.bytes c.args.store.now) (g.S.Store.bytes c.holder.new.store) c.args.size c.args.at c.in-Some.begin c.in_ok-end.end place
    c.in_ok-end.field-0-0 c.holder.ensures.store.same_bytes (omega (arith, e.1, c.if-begin-at.false)) e.2 c.in_ok-end.ensures.within (answered c.in_ok-end.end place is)
    c.in_ok-end.ensures.found.fits c.in_ok-end.ensures.found.ends (c.in_ok-begin.ensures.holder c.in-Some.begin (ap Ok c.in-Some.is)) c.in_ok-end.ensures.found.header
