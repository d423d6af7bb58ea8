-- Chunks that are laid by way of a writer and a sink, one after another.
use Rattle.std.proofs.Common.{◌≡◌, ◌∙◌, ℕ, Bool, false, Option, Result, Ok, Err, List, [], ◌∷◌, ◌++◌, ◌≤◌, length, refl, sym, ap, subst, inl, inr, append-nil, arith}
use Rattle.std.specs.Prelude.{IsErr}
use Rattle.std.proofs.lemmas.List.{nil_from_length}
use Rattle.record_io.specs.Outside.{Rose, Takes, TakesShort}
use Rattle.record_io.specs.Calls.{OnlyCounts, PutsTo, PutsWithin}
use Rattle.record_io.proofs.Calls.{Takes-nothing, Takes-append, TakesShort-append, TakesShort-longer}
use Rattle.chunk_header.specs.Chunks.{ChunkValue}
use Rattle.meta_chunk.specs.Laid.{laid}
use Rattle.meta_chunk.specs.Files.{end_of_chunks, laid_each}
use Rattle.meta_chunk.proofs.Joins.{end_of_chunks-append, laid_each-append}
use Rattle.ordered_writer.specs.Writers.{Writer, GoesOnTo, writer_at}
use Rattle.riegeli_c.specs.Laying.{AreLaidBy, LaysBy}

-- no chunks, where nothing is done
pub none-laid : (a : Option (List ℕ)) (w : Writer) → w.spent ≡ false → AreLaidBy a a w w []
unfolding laid_each
none-laid a w going = record {
  bytes = Takes-nothing a;
  moved = ap (λ (spent : Bool). let v : Writer = record { position = w.position; spent = spent } in v) going;
}

-- where a writer stands behind chunks
pub position : (a b : Option (List ℕ)) (u v : Writer) (ks : List ChunkValue) → AreLaidBy a b u v ks → v.position ≡ end_of_chunks u.position ks
position a b u v ks h = ap (λ (w : Writer). w.position) h.moved

pub unspent : (a b : Option (List ℕ)) (u v : Writer) (ks : List ChunkValue) → AreLaidBy a b u v ks → v.spent ≡ false
unspent a b u v ks h = ap (λ (w : Writer). w.spent) h.moved

-- the bytes of chunks, and of those behind them
bytes_behind : (a b : Option (List ℕ)) (u v : Writer) (ks more : List ChunkValue) → AreLaidBy a b u v ks
    → laid_each u.position ks ++ laid_each v.position more ≡ laid_each u.position (ks ++ more)
bytes_behind a b u v ks more h =
    ap (λ (place : ℕ). laid_each u.position ks ++ laid_each place more) (position a b u v ks h)
    ∙ sym (laid_each-append u.position ks more)

-- chunks, and behind them more chunks
pub laid-then : (a b c : Option (List ℕ)) (u v w : Writer) (ks more : List ChunkValue)
    → AreLaidBy a b u v ks → AreLaidBy b c v w more → AreLaidBy a c u w (ks ++ more)
laid-then a b c u v w ks more first then = record {
  bytes = subst (λ (xs : List ℕ). Takes a c xs) (bytes_behind a b u v ks more first)
      (Takes-append a b c (laid_each u.position ks) (laid_each v.position more) first.bytes then.bytes);
  moved = then.moved
      ∙ ap (λ (place : ℕ). writer_at (end_of_chunks place more)) (position a b u v ks first)
      ∙ ap writer_at (sym (end_of_chunks-append u.position ks more));
}

-- chunks, and behind them not all of more
pub short-then : (a b c : Option (List ℕ)) (u v : Writer) (ks more : List ChunkValue)
    → AreLaidBy a b u v ks → TakesShort b c (laid_each v.position more) → TakesShort a c (laid_each u.position (ks ++ more))
short-then a b c u v ks more first then =
    subst (λ (xs : List ℕ). TakesShort a c xs) (bytes_behind a b u v ks more first)
    (TakesShort-append a b c (laid_each u.position ks) (laid_each v.position more) first.bytes then)

-- not all of chunks is not all of these and more
pub short-longer : (a b : Option (List ℕ)) (place : ℕ) (ks more : List ChunkValue)
    → TakesShort a b (laid_each place ks) → TakesShort a b (laid_each place (ks ++ more))
short-longer a b place ks more h =
    subst (λ (xs : List ℕ). TakesShort a b xs) (sym (laid_each-append place ks more))
    (TakesShort-longer a b (laid_each place ks) (laid_each (end_of_chunks place ks) more) h)

-- the bytes of one chunk
pub laid-one : (place : ℕ) (k : ChunkValue) → laid_each place (k ∷ []) ≡ laid place k
unfolding laid_each
laid-one place k = append-nil (laid place k)

-- what a call put that puts the bytes of chunks, where its writer goes on behind them
pub lays-puts : {M K X E : Type 0} (taken : M → Option (List ℕ)) (lent : M → K) (faults : M → ℕ) (result : Result X E) (old new : Writer)
    (ks : List ChunkValue) (bytes : List ℕ) (end : ℕ) (before after : M) → PutsTo taken lent faults result bytes before after → GoesOnTo result end old new
    → bytes ≡ laid_each old.position ks → end ≡ end_of_chunks old.position ks → LaysBy taken lent faults (IsErr result) result old new ks before after
lays-puts taken lent faults (Ok x) old new ks bytes end before after puts goes same ends = record {
  whole = record {
    bytes = subst (λ (xs : List ℕ). Takes (taken before) (taken after) xs) same puts.whole;
    moved = goes.moved ∙ ap writer_at ends;
  };
  short = λ fails. absurd (cc fails);
  counts = puts.counts;
}
lays-puts taken lent faults (Err e) old new ks bytes end before after puts goes same ends = record {
  whole = tt;
  short = λ fails. subst (λ (xs : List ℕ). TakesShort (taken before) (taken after) xs) same puts.front;
  counts = puts.counts;
}

-- of what goes to a sink by way of a buffer without room, nothing is held
pub puts-at_once : {M K X E : Type 0} (taken : M → Option (List ℕ)) (lent : M → K) (faults : M → ℕ) (result : Result X E) (held held_then bytes : List ℕ)
    (before after : M) → PutsWithin taken lent faults result 0 held held_then bytes before after → held ≡ [] → PutsTo taken lent faults result bytes before after
puts-at_once taken lent faults (Ok x) held held_then bytes before after puts none = record {
  whole =
      let whole = puts.through.whole in
      let empty : held_then ≡ [] = nil_from_length held_then (omega (arith, puts.fits (omega (arith, ap length none)))) in
      subst (λ (xs : List ℕ). Takes (taken before) (taken after) xs)
      (sym (append-nil whole.passed) ∙ ap (λ (xs : List ℕ). whole.passed ++ xs) (sym empty) ∙ sym whole.parts ∙ ap (λ (xs : List ℕ). xs ++ bytes) none)
      whole.taken;
  front = tt;
  counts = puts.through.counts;
}
puts-at_once taken lent faults (Err e) held held_then bytes before after puts none = record {
  whole = tt;
  front = subst (λ (xs : List ℕ). TakesShort (taken before) (taken after) (xs ++ bytes)) none puts.through.front;
  counts = puts.through.counts;
}

-- an object only counts its faults, whatever the work ended with, where it is not the cause
pub counts-where : {M K : Type 0} (lent : M → K) (faults : M → ℕ) {F G : Type 0} (before after : M) → OnlyCounts lent faults F before after → (G → F)
    → OnlyCounts lent faults G before after
counts-where lent faults before after h told = record {
  same_lent = h.same_lent;
  cause = λ fails. h.cause (told fails);
  never_falls = h.never_falls;
  small = h.small;
}

pub counts-same : {M K : Type 0} (lent : M → K) (faults : M → ℕ) (G : Type 0) (sink : M) → (G → ⊥) → OnlyCounts lent faults G sink sink
counts-same lent faults G sink done =
    record { same_lent = refl; cause = λ fails. absurd (done fails); never_falls = omega arith; small = λ h. h }

-- a count that rose in the second of two calls rose
risen : (a b c : ℕ) → a ≤ b → Rose b c → Rose a c
risen a b c le (inl rose) = inl (omega (arith, le, rose))
risen a b c le (inr most) = inr most

-- where a sink is used twice
pub counts-then : {M K : Type 0} (lent : M → K) (faults : M → ℕ) {F G : Type 0} (before mid after : M) → OnlyCounts lent faults F before mid
    → OnlyCounts lent faults G mid after → OnlyCounts lent faults G before after
counts-then lent faults before mid after first then = record {
  same_lent = then.same_lent ∙ first.same_lent;
  cause = λ fails. risen (faults before) (faults mid) (faults after) first.never_falls (then.cause fails);
  never_falls = omega (arith, first.never_falls, then.never_falls);
  small = λ h. then.small (first.small h);
}

module _ {M K : Type 0} (taken : M → Option (List ℕ)) (lent : M → K) (faults : M → ℕ) where
  -- more that is laid behind chunks
  pub lays-behind : {X E F G : Type 0} (result : Result X E) (u v w : Writer) (ks more : List ChunkValue) (before mid after : M)
      → AreLaidBy (taken before) (taken mid) u v ks → OnlyCounts lent faults F before mid → LaysBy taken lent faults G result v w more mid after
      → LaysBy taken lent faults G result u w (ks ++ more) before after
  lays-behind (Ok x) u v w ks more before mid after first counts then = record {
    whole = laid-then (taken before) (taken mid) (taken after) u v w ks more first then.whole;
    short = λ fails. short-then (taken before) (taken mid) (taken after) u v ks more first (then.short fails);
    counts = counts-then lent faults before mid after counts then.counts;
  }
  lays-behind (Err e) u v w ks more before mid after first counts then = record {
    whole = tt;
    short = λ fails. short-then (taken before) (taken mid) (taken after) u v ks more first (then.short fails);
    counts = counts-then lent faults before mid after counts then.counts;
  }

  -- what a call leaves that goes on where all is laid
  pub lays-ok : {X E F G : Type 0} (x : X) (u v : Writer) (ks : List ChunkValue) (before after : M) → (G → ⊥)
      → AreLaidBy (taken before) (taken after) u v ks → OnlyCounts lent faults F before after
      → LaysBy {E = E} taken lent faults G (Ok x) u v ks before after
  lays-ok {X} {E} {F} {G} x u v ks before after done laid counts = record {
    whole = laid;
    short = λ fails. absurd (done fails);
    counts = counts-where lent faults before after counts (λ (fails : G). absurd (done fails));
  }

  -- or that is cut off at these chunks by the sink, or by something else
  pub lays-short : {X E F G : Type 0} (result : Result X E) (e : E) (u v : Writer) (ks more : List ChunkValue) (before after : M) → result ≡ Err e
      → F → TakesShort (taken before) (taken after) (laid_each u.position ks) → OnlyCounts lent faults F before after
      → LaysBy taken lent faults G result u v (ks ++ more) before after
  lays-short {X} {E} {F} {G} result e u v ks more before after is fails short counts =
      subst (λ (r : Result X E). LaysBy taken lent faults G r u v (ks ++ more) before after) (sym is)
      (record {
        whole = tt;
        short = λ _. short-longer (taken before) (taken after) u.position ks more short;
        counts = counts-where lent faults before after counts (λ (_ : G). fails);
      })

  pub lays-stopped : {X E F G : Type 0} (result : Result X E) (e : E) (u v : Writer) (ks : List ChunkValue) (before after : M) → result ≡ Err e
      → (G → ⊥) → OnlyCounts lent faults F before after → LaysBy taken lent faults G result u v ks before after
  lays-stopped {X} {E} {F} {G} result e u v ks before after is done counts =
      subst (λ (r : Result X E). LaysBy taken lent faults G r u v ks before after) (sym is)
      (record {
        whole = tt;
        short = λ fails. absurd (done fails);
        counts = counts-where lent faults before after counts (λ (fails : G). absurd (done fails));
      })

  -- a call that failed so fails that goes on with more chunks
  pub lays-failed : {X Y E D F G : Type 0} (failed : E) (result : Result Y D) (d : D) (u v : Writer) (ks more : List ChunkValue) (before after : M)
      → LaysBy {X = X} taken lent faults F (Err failed) u v ks before after → result ≡ Err d → (G → F)
      → LaysBy taken lent faults G result u v (ks ++ more) before after
  lays-failed {X} {Y} {E} {D} {F} {G} failed result d u v ks more before after h is told =
      subst (λ (r : Result Y D). LaysBy taken lent faults G r u v (ks ++ more) before after) (sym is)
      (record {
        whole = tt;
        short = λ (fails : G). short-longer (taken before) (taken after) u.position ks more (h.short (told fails));
        counts = counts-where lent faults before after h.counts told;
      })

  -- a call that failed
  pub lays-err : {X E G : Type 0} (result : Result X E) (d : E) (u v : Writer) (ks : List ChunkValue) (before after : M) → result ≡ Err d
      → (G → TakesShort (taken before) (taken after) (laid_each u.position ks)) → OnlyCounts lent faults G before after
      → LaysBy taken lent faults G result u v ks before after
  lays-err {X} {E} {G} result d u v ks before after is short counts =
      subst (λ (r : Result X E). LaysBy taken lent faults G r u v ks before after) (sym is) (record { whole = tt; short = short; counts = counts })
