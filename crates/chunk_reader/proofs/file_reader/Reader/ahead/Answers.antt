use Rattle.std.proofs.Common.{◌≡◌, ◌<◌, Err, refl, sym, ap, arith}
use Rattle.chunk_reader.specs.Progress.{ReaderValue}
use Rattle.chunk_reader.proofs.ChainReads.{signed_where_read, fault_read, no_further_refused, verdict_shown}
use Rattle.chunk_reader.proofs.StrictSteps.{refused_early}
use Rattle.chunk_reader.proofs.file_reader.Reader.ahead.Goals as goal

pub returns-in_err-header-clause-refused : goal.returns-in_err-header-clause-refused
returns-in_err-header-clause-refused g c =
    let now = c.args.self.now in
    let size : now.size ≡ c.self.inside.size = sym (ap (λ (r : ReaderValue). r.size) c.self.view_is) in
    let below : now.totals.bytes < now.size = omega (arith, c.if-at-self.false, c.at.ensures, size) in
    let signed = signed_where_read now.unread_ok _ now.totals c.requires.reads.read (λ front. absurd (omega (arith, front, c.requires.behind))) in
    λ fault e.
    let first = c.in_err-header.ensures.refused fault (ap Err (sym (rw e at c.from_residual.ensures.1))) in
    let refused = verdict_shown now.unread_ok now.unread_ok _ _ c.at-2.result now.totals.bytes fault refl refl (sym c.at-2.ensures)
    (refused_early _ now.unread_ok c.at-2.result fault first.0 first.1) in
    record {
      is_fault = fault_read now.unread_ok _ _ now.totals now.size fault (g.met.S.Store.sized c.args.store.now) c.requires.reads.size below
          c.requires.reads.read signed refused;
      all_given = no_further_refused now.unread_ok _ now.totals fault c.requires.reads.read refused;
    }
