use Rattle.std.proofs.Common.{◌≡◌, ◌∙◌, ℕ, ◌+◌, ◌≤◌, Bool, Option, Err, IfSome, List, refl, sym, ap, subst, arith}
use Rattle.record_values.specs.declared.file_totals.Totals.{Totals}
use Rattle.block_layout.specs.Layout.{IsBoundary, end_of}
use Rattle.block_layout.proofs.Ends.{end_of_room}
use Rattle.chunk_reader.specs.Faults.{BeginsWithSignature}
use Rattle.chunk_reader.specs.Pieces.{IsVerifiedIn}
use Rattle.chunk_reader.specs.Progress.{ReaderValue, totals_with_chunk, AreInBounds, AreReadFrom}
use Rattle.chunk_reader.specs.Readers.{IsAhead}
use Rattle.chunk_reader.specs.declared.file_reader.ChunkAhead.{ChunkAhead}
use Rattle.chunk_reader.specs.declared.verifying.Verified.{Verified}
use Rattle.chunk_reader.proofs.ChainReads.{signed_where_read, fault_read, no_further_refused, verdict_shown}
use Rattle.chunk_reader.proofs.VerifySteps.{verified_end, verified_next, verified_read, verified_totals}
use Rattle.chunk_reader.proofs.file_reader.Reader.pass.Goals as goal
use Rattle.chunk_reader.proofs.file_reader.Reader.pass.Goals.{In_ok-unread, After-totals_with_chunk-self-inside}

pub returns-in_err-unread-clause-refused : goal.returns-in_err-unread-clause-refused
returns-in_err-unread-clause-refused g c =
    let now = c.args.self.now in
    let unread_ok : now.unread_ok ≡ c.self.inside.unread_ok = sym (ap (λ (r : ReaderValue). r.unread_ok) c.self.view_is) in
    let signed = signed_where_read now.unread_ok _ now.totals c.requires.reads.read (λ front. absurd (omega (arith, front, c.requires.ahead.behind))) in
    λ fault e.
    let refused = verdict_shown c.self.inside.unread_ok now.unread_ok _ _ c.at.result now.totals.bytes fault unread_ok refl (sym c.at.ensures)
    (c.in_err-unread.ensures.refused fault (ap Err (sym (rw e at c.from_residual.ensures.1)))) in
    record {
      is_fault = fault_read now.unread_ok _ _ now.totals now.size fault (g.met.S.Store.sized c.args.store.now) c.requires.reads.size
          c.requires.ahead.below c.requires.reads.read signed refused;
      all_given = no_further_refused now.unread_ok _ now.totals fault c.requires.reads.read refused;
    }

-- the file begins as files do
begins : (g : _) (c : In_ok-unread g) → IfSome (g.S.Store.bytes c.args.store.now) BeginsWithSignature
begins g c =
    signed_where_read c.args.self.now.unread_ok _ c.args.self.now.totals c.requires.reads.read
    (λ front. absurd (omega (arith, front, c.requires.ahead.behind)))

-- the chunk that was passed
abbrev passed : (g : _) (c : In_ok-unread g) → Verified
passed g c = record {
  end = c.args.ahead.now.end;
  header = c.args.ahead.now.header;
  unread = c.in_ok-unread.unread;
}

-- it was judged where the reader stands
here : (g : _) (c : In_ok-unread g)
    → IfSome (g.S.Store.bytes c.args.store.now) (λ file. IsVerifiedIn c.args.self.now.unread_ok file c.args.self.now.totals.bytes (passed g c))
here g c =
    let now = c.args.self.now in
    let unread_ok : c.self.inside.unread_ok ≡ now.unread_ok = ap (λ (r : ReaderValue). r.unread_ok) c.self.view_is in
    subst (λ (b : Bool). IfSome (g.S.Store.bytes c.args.store.now) (λ file. IsVerifiedIn b file now.totals.bytes (passed g c))) unread_ok
    (subst (λ (n : ℕ). IfSome (g.S.Store.bytes c.args.store.now) (λ file. IsVerifiedIn c.self.inside.unread_ok file n (passed g c)))
    c.at.ensures c.in_ok-unread.ensures.passed)

-- and ends behind its header
ends : (file : Option (List ℕ)) (at : ReaderValue) (ahead : ChunkAhead) → IsAhead file at ahead
    → IsBoundary ahead.end × (end_of at.totals.bytes 40 ≤ ahead.end) × (ahead.end ≤ at.size)
    × (at.totals.bytes + ahead.header.num_records ≤ ahead.end)
ends file at ahead h =
    verified_end at.size at.totals.bytes ahead.end ahead.header.data_size ahead.header.num_records h.found.ends h.within

pub totals_with_chunk-self-inside-requires-clause-room : goal.totals_with_chunk-self-inside-requires-clause-room
totals_with_chunk-self-inside-requires-clause-room g c =
    omega (arith, (ends _ c.args.self.now c.args.ahead.now c.requires.ahead).3, ap (λ (r : ReaderValue). r.totals.bytes) c.self.view_is)

pub totals_with_chunk-self-inside-requires-clause-bounds : goal.totals_with_chunk-self-inside-requires-clause-bounds
totals_with_chunk-self-inside-requires-clause-bounds g c =
    let now = c.args.self.now in
    let kept = c.self.invariant in
    record {
      within = omega (
        arith,
        (ends _ now c.args.ahead.now c.requires.ahead).1,
        end_of_room now.totals.bytes 40,
        ap (λ (r : ReaderValue). r.totals.bytes) c.self.view_is,
      );
      boundary = kept.boundary;
      signed = kept.signed;
      chunks = kept.chunks;
      records = kept.records;
      unread = kept.unread;
    }

-- the totals with it
counts : (g : _) (c : After-totals_with_chunk-self-inside g) → c.totals_with_chunk-self-inside.result
    ≡ totals_with_chunk c.args.self.now.totals c.args.ahead.now.end c.args.ahead.now.header.num_records c.in_ok-unread.unread
counts g c =
    let ahead = c.args.ahead.now in
    let shown : c.self.inside.totals ≡ c.args.self.now.totals = ap (λ (r : ReaderValue). r.totals) c.self.view_is in
    c.totals_with_chunk-self-inside.ensures ∙ ap (λ (t : Totals). totals_with_chunk t ahead.end ahead.header.num_records c.in_ok-unread.unread) shown

bounds : (g : _) (c : After-totals_with_chunk-self-inside g) → AreInBounds c.self.inside.size c.totals_with_chunk-self-inside.result
bounds g c =
    let now = c.args.self.now in
    let ahead = c.args.ahead.now in
    let v : Verified = record {
      end = ahead.end;
      header = ahead.header;
      unread = c.in_ok-unread.unread;
    } in
    let size : now.size ≡ c.self.inside.size = sym (ap (λ (r : ReaderValue). r.size) c.self.view_is) in
    let kept : AreInBounds now.size now.totals = subst (λ (r : ReaderValue). AreInBounds r.size r.totals) c.self.view_is c.self.invariant in
    subst (λ (n : ℕ). AreInBounds n c.totals_with_chunk-self-inside.result) size
    (subst (AreInBounds now.size) (sym (counts g c)) (verified_totals now.size now.totals v kept (ends _ now ahead c.requires.ahead)))

pub invariant_of-self : goal.invariant_of-self
invariant_of-self g c =
    let at = goal.at.invariant_of-self g c in bounds g at.After-totals_with_chunk-self-inside

pub returns-clause-goes_on : goal.returns-clause-goes_on
returns-clause-goes_on g c =
    let at = goal.at.returns-clause-goes_on g c in
    let before = at.In_ok-unread in
    let now = c.args.self.now in
    let v = passed g before in
    let unread_ok : now.unread_ok ≡ c.self.inside.unread_ok = sym (ap (λ (r : ReaderValue). r.unread_ok) c.self.view_is) in
    let P : Totals → Type 0 = λ t. IfSome (g.S.Store.bytes c.args.store.now) (λ file. AreReadFrom c.self.inside.unread_ok file t) in
    let Q : Bool → Type 0 = λ b. IfSome (g.S.Store.bytes c.args.store.now)
    (λ file. AreReadFrom b file (totals_with_chunk now.totals v.end v.header.num_records v.unread)) in
    record {
      same_size = ap (λ (r : ReaderValue). r.size) c.self.view_is;
      same_unread_ok = sym unread_ok;
      totals = bounds g at.After-totals_with_chunk-self-inside;
      read = subst P (sym (counts g at.After-totals_with_chunk-self-inside))
          (subst Q unread_ok
          (verified_read now.unread_ok _ now.totals v (begins g before) (here g before) c.requires.reads.read));
    }

pub returns-clause-chunk : goal.returns-clause-chunk
returns-clause-chunk g c =
    let at = goal.at.returns-clause-chunk g c in
    let before = at.In_ok-unread in
    let now = c.args.self.now in
    verified_next (g.S.Store.bytes c.args.store.now) now _ (passed g before) (begins g before) (here g before)
    (ends _ now c.args.ahead.now c.requires.ahead).1 (counts g at.After-totals_with_chunk-self-inside)
