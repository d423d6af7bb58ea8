use Rattle.std.proofs.Common.{◌≡◌, ◌∙◌, ℕ, ◌<◌, IfSome, Bool, Err, refl, sym, ap, subst, arith, rules}
use Rattle.record_values.specs.declared.file_totals.Totals.{Totals}
use Rattle.chunk_header.specs.Views.{value_of_chunk}
use Rattle.chunk_reader.specs.Contents.{IsJudged, IsJudgedIn}
use Rattle.chunk_reader.specs.Faults.{BeginsWithSignature}
use Rattle.chunk_reader.specs.Progress.{totals_with_chunk, AreInBounds, AreReadFrom}
use Rattle.chunk_reader.specs.Readers.{GoesOn}
use Rattle.chunk_reader.specs.declared.judging.Judged.{Judged}
use Rattle.chunk_reader.proofs.ChainReads.{signed_where_read, fault_read, is_left, is_left_other, judged_shown, judged_in_shown, verdict_shown, loading_shown, room_given, AreInBounds-totals_with_chunk, goes_on_given, read_on, no_further_refused, no_further_unsigned, refused_end, read_to-header, read_to-chunk}
use Rattle.chunk_reader.proofs.file_reader.Reader.next.Goals as goal
use Rattle.chunk_reader.proofs.file_reader.Reader.next.Goals.{Joined-matches, After-totals_with_chunk-self-inside, then-at-eq0+in_ok-judged, else-at-eq0+then-at-self+in_ok-judged-2, in-Unread, in_default}

-- the chunk is well formed where the reader stands
judged : (g : _) (c : Joined-matches g)
    → IsJudged c.args.self.now.unread_ok c.args.self.now.size c.args.self.now.totals.bytes c.if-at-eq0.judged
judged g c =
    let now = c.args.self.now in
    let size : now.size ≡ c.self.inside.size = cc in
    let P : Judged → Type 0 = IsJudged now.unread_ok now.size now.totals.bytes in
    elim c.if-at-eq0.branch [
      | then-at-eq0+in_ok-judged w ↦
          subst P (sym w.judged-is)
          (judged_shown now.unread_ok now.unread_ok c.self.inside.size now.size 0 now.totals.bytes _ refl size (sym c.at.ensures ∙ w.if-at-eq0.true)
          (w.in_ok-judged.ensures.judged now.unread_ok))
      | else-at-eq0+then-at-self+in_ok-judged-2 w ↦
          let unread_ok : now.unread_ok ≡ c.self.inside.unread_ok = cc in
          subst P (sym w.judged-is)
          (judged_shown c.self.inside.unread_ok now.unread_ok c.self.inside.size now.size w.at-then-at-self.result now.totals.bytes _ unread_ok size
          (sym w.at-then-at-self.ensures) w.in_ok-judged-2.ensures.judged)
    ]

-- it is the chunk there of the file
there : (g : _) (c : Joined-matches g)
    → IfSome (g.S.Store.bytes c.args.store.now) (λ file. IsJudgedIn c.args.self.now.unread_ok file c.args.self.now.totals.bytes c.if-at-eq0.judged)
there g c =
    let now = c.args.self.now in
    let P : Judged → Type 0 = λ j. IfSome (g.S.Store.bytes c.args.store.now) (λ file. IsJudgedIn now.unread_ok file now.totals.bytes j) in
    elim c.if-at-eq0.branch [
      | then-at-eq0+in_ok-judged w ↦
          subst P (sym w.judged-is)
          (judged_in_shown now.unread_ok now.unread_ok _ _ 0 now.totals.bytes _ refl refl (sym c.at.ensures ∙ w.if-at-eq0.true)
          (w.in_ok-judged.ensures.sound now.unread_ok))
      | else-at-eq0+then-at-self+in_ok-judged-2 w ↦
          let unread_ok : now.unread_ok ≡ c.self.inside.unread_ok = cc in
          subst P (sym w.judged-is)
          (judged_in_shown c.self.inside.unread_ok now.unread_ok _ _ w.at-then-at-self.result now.totals.bytes _ unread_ok refl
          (sym w.at-then-at-self.ensures) w.in_ok-judged-2.ensures.sound)
    ]

-- which begins as files do
begins : (g : _) (c : Joined-matches g) → IfSome (g.S.Store.bytes c.args.store.now) BeginsWithSignature
begins g c =
    elim c.if-at-eq0.branch [
      | then-at-eq0+in_ok-judged w ↦ w.in_ok-judged.ensures.signed
      | else-at-eq0+then-at-self+in_ok-judged-2 w ↦
          signed_where_read c.args.self.now.unread_ok _ c.args.self.now.totals c.requires.reads.read
          (λ front. absurd (w.if-at-eq0.false (c.at.ensures ∙ front)))
    ]

pub returns-in_err-judged-clause-refused : goal.returns-in_err-judged-clause-refused
returns-in_err-judged-clause-refused g c =
    λ fault e.
    let end = refused_end _ fault (rw e at c.from_residual.ensures.1) in
    record {
      is_fault = search rules;
      all_given = no_further_unsigned c.args.self.now.unread_ok _ c.args.self.now.totals.bytes (c.in_err-judged.ensures.refused fault (ap Err end)).2;
    }

pub returns-in_err-judged-2-clause-refused : goal.returns-in_err-judged-2-clause-refused
returns-in_err-judged-2-clause-refused g c =
    let now = c.args.self.now in
    let unread_ok : now.unread_ok ≡ c.self.inside.unread_ok = cc in
    let size : now.size ≡ c.self.inside.size = cc in
    let below : now.totals.bytes < now.size = omega (arith, c.if-at-self.true, c.at-else-at-eq0.ensures, size) in
    let signed = signed_where_read now.unread_ok _ now.totals c.requires.reads.read (λ front. absurd (c.if-at-eq0.false (c.at.ensures ∙ front))) in
    λ fault e.
    let refused = verdict_shown c.self.inside.unread_ok now.unread_ok _ _ c.at-then-at-self.result now.totals.bytes fault unread_ok refl (sym c.at-then-at-self.ensures)
    (c.in_err-judged-2.ensures.refused fault (ap Err (sym (rw e at c.from_residual-in_err-judged-2.ensures.1)))) in
    record {
      is_fault = fault_read now.unread_ok _ _ now.totals now.size fault (g.met.S.Store.sized c.args.store.now) c.requires.reads.size below
          c.requires.reads.read signed refused;
      all_given = no_further_refused now.unread_ok _ now.totals fault c.requires.reads.read refused;
    }

pub returns-in_err-judged-2-clause-memory : goal.returns-in_err-judged-2-clause-memory
returns-in_err-judged-2-clause-memory g c =
    let now = c.args.self.now in
    λ e. record {
      none = loading_shown _ _ c.at-then-at-self.result now.totals.bytes refl (sym c.at-then-at-self.ensures)
          (c.in_err-judged-2.ensures.memory (ap Err (sym (rw e at c.from_residual-in_err-judged-2.ensures.1))));
      signed = signed_where_read now.unread_ok _ now.totals c.requires.reads.read (λ front. absurd (c.if-at-eq0.false (c.at.ensures ∙ front)));
    }

-- the totals are those that the reader shows
totals_shown : (g : _) (c : Joined-matches g) → c.args.self.now.totals ≡ c.self.inside.totals
totals_shown g c = cc

pub totals_with_chunk-self-inside-requires-clause-room : goal.totals_with_chunk-self-inside-requires-clause-room
totals_with_chunk-self-inside-requires-clause-room g c =
    let now = c.args.self.now in
    omega (
      arith,
      room_given now.unread_ok now.size now.totals.bytes c.if-at-eq0.judged (judged g c),
      ap (λ (t : Totals). t.bytes) (totals_shown g c),
    )

pub totals_with_chunk-self-inside-requires-clause-small : goal.totals_with_chunk-self-inside-requires-clause-small
totals_with_chunk-self-inside-requires-clause-small g c = omega (arith, (judged g c).within, c.requires.reads.in_reach)

pub totals_with_chunk-self-inside-requires-clause-bounds : goal.totals_with_chunk-self-inside-requires-clause-bounds
totals_with_chunk-self-inside-requires-clause-bounds g c =
    let kept = c.self.invariant in
    record {
      within = omega (arith, (judged g c).after, ap (λ (t : Totals). t.bytes) (totals_shown g c));
      boundary = kept.boundary;
      signed = kept.signed;
      chunks = kept.chunks;
      records = kept.records;
      unread = kept.unread;
    }

-- the totals with the chunk that was given
counts : (g : _) (c : After-totals_with_chunk-self-inside g) → c.totals_with_chunk-self-inside.result
    ≡ totals_with_chunk c.args.self.now.totals c.if-at-eq0.judged.end c.if-at-eq0.judged.chunk.header.num_records c.match-matches.matches
counts g c =
    let j : Judged = c.if-at-eq0.judged in
    let shown : c.self.inside.totals ≡ c.args.self.now.totals = cc in
    c.totals_with_chunk-self-inside.ensures ∙ ap (λ (t : Totals). totals_with_chunk t j.end j.chunk.header.num_records c.match-matches.matches) shown

totals : (g : _) (c : After-totals_with_chunk-self-inside g)
    → IsJudged c.args.self.now.unread_ok c.args.self.now.size c.args.self.now.totals.bytes c.if-at-eq0.judged
    → AreInBounds c.self.inside.size c.totals_with_chunk-self-inside.result
totals g c h =
    let now = c.args.self.now in
    let size : c.self.inside.size ≡ now.size = cc in
    let shown : c.self.inside.totals ≡ now.totals = cc in
    let kept : AreInBounds now.size now.totals =
    subst (λ (t : Totals). AreInBounds now.size t) shown (subst (λ (n : ℕ). AreInBounds n c.self.inside.totals) size c.self.invariant) in
    subst (λ (n : ℕ). AreInBounds n c.totals_with_chunk-self-inside.result) (sym size)
    (subst (λ (t : Totals). AreInBounds now.size t) (sym (counts g c))
    (AreInBounds-totals_with_chunk now.unread_ok now.size now.totals c.if-at-eq0.judged c.match-matches.matches kept h))

left : (g : _) (c : After-totals_with_chunk-self-inside g) → c.match-matches.matches ≡ is_left c.if-at-eq0.judged.what
left g c =
    elim c.match-matches.branch [
      | in-Unread w ↦ w.matches-is ∙ sym (ap is_left w.in-Unread.is)
      | in_default w ↦ w.matches-is ∙ sym (is_left_other c.if-at-eq0.judged.what w.in_default.not-Unread)
    ]

goes_on : (g : _) (c : After-totals_with_chunk-self-inside g) → IfSome (g.S.Store.bytes c.args.store.now) BeginsWithSignature
    → IsJudged c.args.self.now.unread_ok c.args.self.now.size c.args.self.now.totals.bytes c.if-at-eq0.judged
    → IfSome (g.S.Store.bytes c.args.store.now) (λ file. IsJudgedIn c.args.self.now.unread_ok file c.args.self.now.totals.bytes c.if-at-eq0.judged)
    → IfSome (g.S.Store.bytes c.args.store.now)
    (λ file. GoesOn c.args.self.now.unread_ok file c.args.self.now.totals c.totals_with_chunk-self-inside.result (value_of_chunk c.if-at-eq0.judged.chunk))
goes_on g c signed h at =
    let now = c.args.self.now in
    subst (λ (t : Totals). IfSome (g.S.Store.bytes c.args.store.now) (λ file. GoesOn now.unread_ok file now.totals t (value_of_chunk c.if-at-eq0.judged.chunk)))
    (sym (counts g c))
    (goes_on_given now.unread_ok now.size _ now.totals c.if-at-eq0.judged c.match-matches.matches signed h at (left g c))

pub invariant_of-self : goal.invariant_of-self
invariant_of-self g c =
    let at = goal.at.invariant_of-self g c in totals g at.After-totals_with_chunk-self-inside (judged g at.Joined-matches)

pub returns-clause-chunk : goal.returns-clause-chunk
returns-clause-chunk g c =
    let at = goal.at.returns-clause-chunk g c in
    let before = at.Joined-matches in
    let now = c.args.self.now in
    let on = goes_on g at.After-totals_with_chunk-self-inside (begins g before) (judged g before) (there g before) in
    λ j is.
    let same : c.if-at-eq0.judged ≡ j = cc in
    record {
      judged = subst (IsJudged now.unread_ok now.size now.totals.bytes) same (judged g before);
      moved = ap (λ (t : Totals). t.bytes) (counts g at.After-totals_with_chunk-self-inside) ∙ ap (λ (x : Judged). x.end) same;
      given = subst (λ (x : Judged). IfSome (g.S.Store.bytes c.args.store.now)
          (λ file. GoesOn now.unread_ok file now.totals c.totals_with_chunk-self-inside.result (value_of_chunk x.chunk))) same on;
    }

pub returns-clause-goes_on : goal.returns-clause-goes_on
returns-clause-goes_on g c =
    let at = goal.at.returns-clause-goes_on g c in
    let before = at.Joined-matches in
    let now = c.args.self.now in
    let unread_ok : now.unread_ok ≡ c.self.inside.unread_ok = cc in
    let on = goes_on g at.After-totals_with_chunk-self-inside (begins g before) (judged g before) (there g before) in
    record {
      same_size = search rules;
      same_unread_ok = search rules;
      totals = totals g at.After-totals_with_chunk-self-inside (judged g before);
      read = subst (λ (b : Bool). IfSome (g.S.Store.bytes c.args.store.now) (λ file. AreReadFrom b file c.totals_with_chunk-self-inside.result)) unread_ok
          (read_on now.unread_ok _ now.totals c.totals_with_chunk-self-inside.result c.if-at-eq0.judged c.requires.reads.read on);
    }

pub returns-in_err-judged-clause-read_to : goal.returns-in_err-judged-clause-read_to
returns-in_err-judged-clause-read_to g c = read_to-header _ c.args.self.now.totals.bytes _ _ c.in_err-judged.ensures.store.handed

pub returns-in_err-judged-2-clause-read_to : goal.returns-in_err-judged-2-clause-read_to
returns-in_err-judged-2-clause-read_to g c =
    read_to-chunk _ c.at-then-at-self.result c.args.self.now.totals.bytes _ _ c.at-then-at-self.ensures
    c.in_err-judged-2.ensures.early c.in_err-judged-2.ensures.handed

pub returns-clause-read_to : goal.returns-clause-read_to
returns-clause-read_to g c = elim c.if-at-eq0.branch [
  | then-at-eq0+in_ok-judged w ↦
      rw (w.store-is) (read_to-header _ c.args.self.now.totals.bytes _ _ w.in_ok-judged.ensures.store.handed)
  | else-at-eq0+then-at-self+in_ok-judged-2 w ↦
      rw (w.store-is) (read_to-chunk _ w.at-then-at-self.result c.args.self.now.totals.bytes _ _ w.at-then-at-self.ensures
      w.in_ok-judged-2.ensures.early w.in_ok-judged-2.ensures.handed)
]
