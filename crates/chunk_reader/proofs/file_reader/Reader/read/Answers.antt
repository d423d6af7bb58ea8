use Rattle.std.proofs.Common.{◌≡◌, ◌∙◌, ℕ, IfSome, Bool, Err, refl, sym, ap, subst, arith}
use Rattle.record_values.specs.declared.file_totals.Totals.{Totals}
use Rattle.chunk_header.specs.Views.{value_of_chunk}
use Rattle.chunk_reader.specs.Contents.{IsJudged, IsJudgedIn}
use Rattle.chunk_reader.specs.Faults.{BeginsWithSignature}
use Rattle.chunk_reader.specs.Progress.{ReaderValue, totals_with_chunk, AreInBounds, AreReadFrom}
use Rattle.chunk_reader.specs.Readers.{GoesOn}
use Rattle.chunk_reader.specs.declared.judging.Judged.{Judged}
use Rattle.chunk_reader.proofs.ChainReads.{signed_where_read, fault_read, is_left, is_left_other, judged_within, judged_shown, judged_in_shown, verdict_shown, room_given, AreInBounds-totals_with_chunk, goes_on_given, read_on, no_further_refused}
use Rattle.chunk_reader.proofs.file_reader.Reader.read.Goals as goal
use Rattle.chunk_reader.proofs.file_reader.Reader.read.Goals.{In_ok-judged, After-totals_with_chunk-self-inside, in-Unread, in_default}

pub returns-in_err-judged-clause-refused : goal.returns-in_err-judged-clause-refused
returns-in_err-judged-clause-refused g c =
    let now = c.args.self.now in
    let unread_ok : now.unread_ok ≡ c.self.inside.unread_ok = sym (ap (λ (r : ReaderValue). r.unread_ok) c.self.view_is) in
    let signed = signed_where_read now.unread_ok _ now.totals c.requires.reads.read (λ front. absurd (omega (arith, front, c.requires.ahead.behind))) in
    λ fault e.
    let refused = verdict_shown c.self.inside.unread_ok now.unread_ok _ _ c.at.result now.totals.bytes fault unread_ok refl (sym c.at.ensures)
    (c.in_err-judged.ensures.refused fault (ap Err (sym (rw e at c.from_residual.ensures.1)))) in
    record {
      is_fault = fault_read now.unread_ok _ _ now.totals now.size fault (g.met.S.Store.sized c.args.store.now) c.requires.reads.size
          c.requires.ahead.below c.requires.reads.read signed refused;
      all_given = no_further_refused now.unread_ok _ now.totals fault c.requires.reads.read refused;
    }

-- the chunk is well formed where the reader stands
judged : (g : _) (c : In_ok-judged g)
    → IsJudged c.args.self.now.unread_ok c.args.self.now.size c.args.self.now.totals.bytes c.in_ok-judged.judged
judged g c =
    let now = c.args.self.now in
    let unread_ok : now.unread_ok ≡ c.self.inside.unread_ok = sym (ap (λ (r : ReaderValue). r.unread_ok) c.self.view_is) in
    judged_shown c.self.inside.unread_ok now.unread_ok now.size now.size c.at.result now.totals.bytes _ unread_ok refl (sym c.at.ensures)
    (judged_within c.self.inside.unread_ok c.args.ahead.now.end now.size c.at.result _ c.requires.ahead.within c.in_ok-judged.ensures.judged)

-- it is the chunk there of the file
there : (g : _) (c : In_ok-judged g)
    → IfSome (g.S.Store.bytes c.args.store.now) (λ file. IsJudgedIn c.args.self.now.unread_ok file c.args.self.now.totals.bytes c.in_ok-judged.judged)
there g c =
    let now = c.args.self.now in
    let unread_ok : now.unread_ok ≡ c.self.inside.unread_ok = sym (ap (λ (r : ReaderValue). r.unread_ok) c.self.view_is) in
    judged_in_shown c.self.inside.unread_ok now.unread_ok _ _ c.at.result now.totals.bytes _ unread_ok refl (sym c.at.ensures)
    c.in_ok-judged.ensures.sound

-- which begins as files do
begins : (g : _) (c : In_ok-judged g) → IfSome (g.S.Store.bytes c.args.store.now) BeginsWithSignature
begins g c =
    signed_where_read c.args.self.now.unread_ok _ c.args.self.now.totals c.requires.reads.read
    (λ front. absurd (omega (arith, front, c.requires.ahead.behind)))

pub totals_with_chunk-self-inside-requires-clause-room : goal.totals_with_chunk-self-inside-requires-clause-room
totals_with_chunk-self-inside-requires-clause-room g c =
    let now = c.args.self.now in
    let before = (goal.at.totals_with_chunk-self-inside-requires-clause-room g c).In_ok-judged in
    omega (
      arith,
      room_given now.unread_ok now.size now.totals.bytes c.in_ok-judged.judged (judged g before),
      ap (λ (r : ReaderValue). r.totals.bytes) c.self.view_is,
    )

-- the totals with the chunk
counts : (g : _) (c : After-totals_with_chunk-self-inside g) → c.totals_with_chunk-self-inside.result
    ≡ totals_with_chunk c.args.self.now.totals c.in_ok-judged.judged.end c.in_ok-judged.judged.chunk.header.num_records c.match-matches.matches
counts g c =
    let j : Judged = c.in_ok-judged.judged in
    let shown : c.self.inside.totals ≡ c.args.self.now.totals = ap (λ (r : ReaderValue). r.totals) c.self.view_is in
    c.totals_with_chunk-self-inside.ensures ∙ ap (λ (t : Totals). totals_with_chunk t j.end j.chunk.header.num_records c.match-matches.matches) shown

totals : (g : _) (c : After-totals_with_chunk-self-inside g)
    → IsJudged c.args.self.now.unread_ok c.args.self.now.size c.args.self.now.totals.bytes c.in_ok-judged.judged
    → AreInBounds c.self.inside.size c.totals_with_chunk-self-inside.result
totals g c h =
    let now = c.args.self.now in
    let kept : AreInBounds now.size now.totals = subst (λ (r : ReaderValue). AreInBounds r.size r.totals) c.self.view_is c.self.invariant in
    let size : now.size ≡ c.self.inside.size = sym (ap (λ (r : ReaderValue). r.size) c.self.view_is) in
    subst (λ (n : ℕ). AreInBounds n c.totals_with_chunk-self-inside.result) size
    (subst (λ (t : Totals). AreInBounds now.size t) (sym (counts g c))
    (AreInBounds-totals_with_chunk now.unread_ok now.size now.totals c.in_ok-judged.judged c.match-matches.matches kept h))

left : (g : _) (c : After-totals_with_chunk-self-inside g) → c.match-matches.matches ≡ is_left c.in_ok-judged.judged.what
left g c =
    elim c.match-matches.branch [
      | in-Unread w ↦ w.matches-is ∙ sym (ap is_left w.in-Unread.is)
      | in_default w ↦ w.matches-is ∙ sym (is_left_other c.in_ok-judged.judged.what w.in_default.not-Unread)
    ]

goes_on : (g : _) (c : After-totals_with_chunk-self-inside g) → IfSome (g.S.Store.bytes c.args.store.now) BeginsWithSignature
    → IsJudged c.args.self.now.unread_ok c.args.self.now.size c.args.self.now.totals.bytes c.in_ok-judged.judged
    → IfSome (g.S.Store.bytes c.args.store.now) (λ file. IsJudgedIn c.args.self.now.unread_ok file c.args.self.now.totals.bytes c.in_ok-judged.judged)
    → IfSome (g.S.Store.bytes c.args.store.now)
    (λ file. GoesOn c.args.self.now.unread_ok file c.args.self.now.totals c.totals_with_chunk-self-inside.result (value_of_chunk c.in_ok-judged.judged.chunk))
goes_on g c signed h at =
    let now = c.args.self.now in
    subst (λ (t : Totals). IfSome (g.S.Store.bytes c.args.store.now) (λ file. GoesOn now.unread_ok file now.totals t (value_of_chunk c.in_ok-judged.judged.chunk)))
    (sym (counts g c))
    (goes_on_given now.unread_ok now.size _ now.totals c.in_ok-judged.judged c.match-matches.matches signed h at (left g c))

pub invariant_of-self : goal.invariant_of-self
invariant_of-self g c =
    let at = goal.at.invariant_of-self g c in totals g at.After-totals_with_chunk-self-inside (judged g at.In_ok-judged)

pub returns-clause-chunk : goal.returns-clause-chunk
returns-clause-chunk g c =
    let at = goal.at.returns-clause-chunk g c in
    let before = at.In_ok-judged in
    record {
      judged = judged g before;
      moved = ap (λ (t : Totals). t.bytes) (counts g at.After-totals_with_chunk-self-inside);
      given = goes_on g at.After-totals_with_chunk-self-inside (begins g before) (judged g before) (there g before);
    }

pub returns-clause-goes_on : goal.returns-clause-goes_on
returns-clause-goes_on g c =
    let at = goal.at.returns-clause-goes_on g c in
    let before = at.In_ok-judged in
    let now = c.args.self.now in
    let unread_ok : now.unread_ok ≡ c.self.inside.unread_ok = sym (ap (λ (r : ReaderValue). r.unread_ok) c.self.view_is) in
    let on = goes_on g at.After-totals_with_chunk-self-inside (begins g before) (judged g before) (there g before) in
    record {
      same_size = ap (λ (r : ReaderValue). r.size) c.self.view_is;
      same_unread_ok = sym unread_ok;
      totals = totals g at.After-totals_with_chunk-self-inside (judged g before);
      read = subst (λ (b : Bool). IfSome (g.S.Store.bytes c.args.store.now) (λ file. AreReadFrom b file c.totals_with_chunk-self-inside.result)) unread_ok
          (read_on now.unread_ok _ now.totals c.totals_with_chunk-self-inside.result c.in_ok-judged.judged c.requires.reads.read on);
    }
