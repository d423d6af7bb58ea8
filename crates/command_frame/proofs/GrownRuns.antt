-- What a run of a command that grows one file follows from, and what it keeps.
use Rattle.std.proofs.Common.{◌≡◌, ◌∙◌, ℕ, ◌≤◌, ◌⊎◌, true, false, Some, None, List, [], ◌∷◌, length, refl, sym, ap, subst, inl, inr, arith}
use Rattle.std.specs.Option.{IfSome, IsSomeAnd}
use Rattle.std.proofs.lemmas.Option.{MatchOption-at_some}
use Rattle.record_io.specs.Seen.{SeenStream, SeenFile}
use Rattle.command_frame.specs.declared.status.Status.{Status}
use Rattle.command_frame.specs.FileAnswers.{IsInReach}
use Rattle.command_frame.specs.Meanings.{Meaning, Read}
use Rattle.command_frame.specs.RunObjects.{Seen, seen, handed_by}
use Rattle.command_frame.specs.RunReads.{IfGrown, OfSizes}
use Rattle.command_frame.specs.RunAnswers.{IsWhole}
use Rattle.command_frame.specs.RunLeaves.{IsCutOff}
use Rattle.command_frame.specs.RunTakes.{TakesAtMost}
use Rattle.command_frame.proofs.RunEnds.{KeepsGrown, KeepsAtEnd, whole-cut_off}
use Rattle.command_frame.specs.declared.status.Status.TheVariants as status

-- what holds of a command that grows one file and reads no other
pub record GrowsFile (m : Meaning) : Type 0 where
  pub files : m.uses.files ≡ false
  pub grown : m.uses.grown ≡ true
  pub may_work : (sizes : List ℕ) → IsInReach sizes → m.may_work sizes
  pub may_take_of : (r : Read) (handed : List ℕ) → m.may_take_of r handed handed

module _ (m : Meaning) (grows : GrowsFile m) (input input_then : SeenStream) (files : List SeenFile) (made made_then : SeenStream)
    (grown grown_then : SeenFile) (out out_then notes notes_then : SeenStream) where
  abbrev Before : Seen
  Before = seen input files made grown out notes

  abbrev After : Seen
  After = seen input_then files made_then grown_then out_then notes_then

  -- the file tells this size still, or none, where the work may have changed its size
  abbrev pub StillTells : ℕ → Type 0
  StillTells size = (grown_then.told ≡ Some size) ⊎ ((grown_then.told ≡ None) × IsInReach (size ∷ []))

  -- what follows from the size that the file told before the work
  pub grown-size : (P : List ℕ → Type 0) (size : ℕ) → StillTells size
      → IfSome grown.bytes (λ file. size ≡ length file) → P (size ∷ []) → OfSizes m Before After P
  grown-size P size tells exact holds = record {
    sizes = size ∷ [];
    told = λ uses. absurd (cc (sym uses ∙ grows.files));
    exact = λ uses. absurd (cc (sym uses ∙ grows.files));
    grown_told = λ _. (
      size,
      refl,
      elim tells [
        | inl still ↦ inl still
        | inr (none, within) ↦ inr (none, grows.may_work (size ∷ []) within)
      ],
    );
    grown_exact = λ _ file is. ap (λ (n : ℕ). n ∷ []) (MatchOption-at_some _ (λ (f : List ℕ). size ≡ length f) file is exact);
    holds = holds;
  }

  -- no more was handed out of the file, or the work was gone on to
  abbrev pub GrownHandsOut : Type 0
  GrownHandsOut = (grown_then.handed ≡ grown.handed)
      ⊎ ((size : ℕ) × IsInReach (size ∷ []) × IfSome grown.bytes (λ file. size ≡ length file) × StillTells size)

  grown-handed : GrownHandsOut → (grown_then.handed ≡ grown.handed) ⊎ ((m.uses.grown ≡ true) × OfSizes m Before After m.may_work)
  grown-handed (inl same) = inl same
  grown-handed (inr (size, within, exact, tells)) =
      inr (grows.grown, grown-size m.may_work size tells exact (grows.may_work (size ∷ []) within))

  -- how the file comes from what it held
  abbrev GrownKeeps : Status → Type 0
  GrownKeeps ended = IfSome grown.bytes (λ held. IsSomeAnd grown_then.bytes (λ holds. m.keeps ended held holds))

  -- what an end keeps
  keeps-grown : (ended : Status) → input.faults ≤ input_then.faults → made.faults ≤ made_then.faults → grown.faults ≤ grown_then.faults
      → out.faults ≤ out_then.faults → notes.faults ≤ notes_then.faults → TakesAtMost m.most_taken input.bytes input_then.bytes
      → KeepsGrown m Before After ended → KeepsAtEnd m Before After ended
  keeps-grown ended i k g o n taken kept = record {
    counts = record {
      input = i;
      files = λ place a b was is. let same : a ≡ b = cc in omega (arith, ap (λ (s : SeenFile). s.faults) same);
      made = k;
      grown = g;
      out = o;
      notes = n;
    };
    handed = inl refl;
    handed_of = λ r is. grows.may_take_of r (handed_by files);
    in_order = λ place file is untold. refl;
    grown = kept;
    input_taken = taken;
  }

  -- where it gave a whole answer
  pub keeps-whole : (ended : Status) → IsWhole ended → input.faults ≤ input_then.faults → made.faults ≤ made_then.faults
      → grown.faults ≤ grown_then.faults → out.faults ≤ out_then.faults → notes.faults ≤ notes_then.faults
      → TakesAtMost m.most_taken input.bytes input_then.bytes → IfGrown m Before After m.leaves → GrownKeeps ended → GrownHandsOut → KeepsAtEnd m Before After ended
  keeps-whole ended whole i k g o n taken leaves keeps handed = keeps-grown ended i k g o n taken (record {
    leaves = λ _. leaves;
    may_leave = λ other. elim other [
      | inl cut ↦ absurd (whole-cut_off ended whole cut)
      | inr e ↦ absurd (subst IsWhole e whole)
    ];
    keeps = λ _. keeps;
    handed = grown-handed handed;
  })

  -- where it was cut off, or notes failed
  pub keeps-cut_off : (ended : Status) → IsCutOff ended ⊎ (ended ≡ status.Notes) → input.faults ≤ input_then.faults
      → made.faults ≤ made_then.faults → grown.faults ≤ grown_then.faults → out.faults ≤ out_then.faults → notes.faults ≤ notes_then.faults
      → TakesAtMost m.most_taken input.bytes input_then.bytes → (ended ≡ status.Out → IfGrown m Before After m.leaves) → IfGrown m Before After m.may_leave
      → GrownKeeps ended → GrownHandsOut → KeepsAtEnd m Before After ended
  keeps-cut_off ended cut i k g o n taken leaves may_leave keeps handed = keeps-grown ended i k g o n taken (record {
    leaves = λ how. elim how [
      | inl whole ↦ elim cut [
        | inl off ↦ absurd (whole-cut_off ended whole off)
        | inr e ↦ absurd (subst IsWhole e whole)
      ]
      | inr e ↦ leaves e
    ];
    may_leave = λ _. may_leave;
    keeps = λ _. keeps;
    handed = grown-handed handed;
  })
