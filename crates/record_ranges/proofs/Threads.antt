-- What threads were answered for halves of the parts, put together, and what it says of the stores.
use Rattle.std.proofs.Common.{◌≡◌, ◌∙◌, ◌⊎◌, ℕ, ◌+◌, ◌<◌, Option, Result, List, [], ◌∷◌, ◌++◌, Some, Ok, Err, All, IfOk, IfSome, inl, inr, map, take, set, length, refl, sym, ap, subst, arith, length-append}
use Rattle.std.specs.Prelude.{slice_index_or}
use Rattle.std.specs.List.{AllByRecursion, AllZip}
use Rattle.std.proofs.Math.Seq.{take-append_seam}
use Rattle.std.proofs.lemmas.List.Elements.{All-from_recursion, recursion_from_All}
use Rattle.record_io.specs.Calls.{OnlyAsks}
use Rattle.record_io.specs.Outside.{Rose}
use Rattle.chunk_reader.specs.declared.reasons.ReadEnd.{ReadEnd}
use Rattle.chunk_reader.specs.declared.reasons.ReadEnd.TheVariants.{Store}
use Rattle.record_ranges.specs.declared.stretches.Span.{Span}
use Rattle.record_ranges.specs.declared.stretches.Stretch.{Stretch}
use Rattle.record_ranges.specs.Stretches.{IsStretchOf, LiesWithin}
use Rattle.record_io.specs.ManyStores.{AnyRose, AreOnlyAsked}
use Rattle.record_io.proofs.ManyStores.{AnyRose-then, Rose-after, asks_twice, asks_whatever, each_none}
use Rattle.record_ranges.specs.Reads.{AreAnswered, AreReadIn, CanBeRead, IsAmong}

-- what holds of all holds of a front, and of the others
all-front : {X : Type 0} (P : X → Type 0) (xs a c : List X) → xs ≡ a ++ c → All P xs → All P a × All P c
all-front {X} P xs a c is all =
    let both = halves a (subst (AllByRecursion P) is (recursion_from_All P xs all)) in
    (All-from_recursion P a both.0, All-from_recursion P c both.1)
  where
    halves : (a : List X) → AllByRecursion P (a ++ c) → AllByRecursion P a × AllByRecursion P c
    halves [] all = (tt, all)
    halves (x ∷ a) all = (let rest = halves a all.1 in ((all.0, rest.0), rest.1))

-- so each half of the stores can be read where all can
pub can_be_read-halves : {S X : Type 0} (told : S → Option ℕ) (size : ℕ) (spans low high : List Span) (answers x y : List X)
    (stores front back : List S) → spans ≡ low ++ high → answers ≡ x ++ y → stores ≡ front ++ back
    → length low ≡ length front → length x ≡ length front → CanBeRead told size spans answers stores
    → CanBeRead told size low x front × CanBeRead told size high y back
can_be_read-halves told size spans low high answers x y stores front back of_spans of_answers of_stores m k h =
    let tells = all-front (λ s. told s ≡ Some size) stores front back of_stores h.are_told in
    let within = all-front (λ (span : Span). LiesWithin size span) spans low high of_spans h.within in
    let many : length stores ≡ length front + length back = ap length of_stores ∙ length-append front back in (
      record { as_many_spans = m; as_many_answers = k; are_told = tells.0; within = within.0; in_reach = h.in_reach },
      record {
        as_many_spans = omega (arith, h.as_many_spans, ap length of_spans ∙ length-append low high, m, many);
        as_many_answers = omega (arith, h.as_many_answers, ap length of_answers ∙ length-append x y, k, many);
        are_told = tells.1;
        within = within.1;
        in_reach = h.in_reach;
      },
    )

module _ {S L K : Type 0} (kept_as : List (List ℕ) → K) (bytes : S → Option (List ℕ)) (told : S → Option ℕ) (name : S → L) (faults : S → ℕ) where
  abbrev Answered : List Span → List S → List S → List (Result (Stretch K) ReadEnd) → Type 0
  Answered = AreAnswered kept_as bytes told name faults

  answered_append : (p q : List Span) (a b c d : List S) (x y : List (Result (Stretch K) ReadEnd))
      → Answered p a b x → Answered q c d y → Answered (p ++ q) (a ++ c) (b ++ d) (x ++ y)
  answered_append [] q [] [] c d [] y h k = k
  answered_append [] q [] [] c d (r ∷ x) y h k = absurd h
  answered_append [] q [] (t ∷ b) c d x y h k = absurd h
  answered_append [] q (s ∷ a) b c d x y h k = absurd h
  answered_append (e ∷ p) q [] b c d x y h k = absurd h
  answered_append (e ∷ p) q (s ∷ a) [] c d x y h k = absurd h
  answered_append (e ∷ p) q (s ∷ a) (t ∷ b) c d [] y h k = absurd h
  answered_append (e ∷ p) q (s ∷ a) (t ∷ b) c d (r ∷ x) y h k = (h.0, answered_append p q a b c d x y h.1 k)

  pub answered_halves : (spans p q : List Span) (before after a b c d : List S) (answers x y : List (Result (Stretch K) ReadEnd))
      → spans ≡ p ++ q → before ≡ a ++ c → after ≡ b ++ d → answers ≡ x ++ y
      → AreAnswered kept_as bytes told name faults p a b x → AreAnswered kept_as bytes told name faults q c d y
      → AreAnswered kept_as bytes told name faults spans before after answers
  answered_halves spans p q before after a b c d answers x y cut is then put h k =
      subst (λ (ps : List Span). Answered ps before after answers) (sym cut)
      (subst (λ (ss : List S). Answered (p ++ q) ss after answers) (sym is)
      (subst (λ (ss : List S). Answered (p ++ q) (a ++ c) ss answers) (sym then)
      (subst (Answered (p ++ q) (a ++ c) (b ++ d)) (sym put)
      (answered_append p q a b c d x y h k))))

  -- where all stores show the same bytes, each gave chunks of these
  pub all_in : (file : List ℕ) (spans : List Span) (before after : List S) (answers : List (Result (Stretch K) ReadEnd))
      → AllByRecursion (λ s. bytes s ≡ Some file) before → AreAnswered kept_as bytes told name faults spans before after answers → AreReadIn kept_as file spans answers
  all_in file [] [] [] [] same h = tt
  all_in file [] [] [] (a ∷ answers) same h = absurd h
  all_in file [] [] (t ∷ after) answers same h = absurd h
  all_in file [] (s ∷ before) after answers same h = absurd h
  all_in file (p ∷ spans) [] after answers same h = absurd h
  all_in file (p ∷ spans) (s ∷ before) [] answers same h = absurd h
  all_in file (p ∷ spans) (s ∷ before) (t ∷ after) [] same h = absurd h
  all_in file (p ∷ spans) (s ∷ before) (t ∷ after) (a ∷ answers) same h =
      (subst (λ (o : Option (List ℕ)). IfOk a (λ r. IfSome o (λ f. IsStretchOf kept_as f p r))) same.0 h.0.stretch, all_in file spans before after answers same.1 h.1)

  -- the stores were only asked
  pub each_asked : (spans : List Span) (before after : List S) (answers : List (Result (Stretch K) ReadEnd))
      → AreAnswered kept_as bytes told name faults spans before after answers → AllZip (OnlyAsks bytes told name faults ⊥) before after
  each_asked [] [] [] answers h = tt
  each_asked [] [] (t ∷ after) answers h = absurd h
  each_asked [] (s ∷ before) after answers h = absurd h
  each_asked (p ∷ spans) [] after answers h = absurd h
  each_asked (p ∷ spans) (s ∷ before) [] answers h = absurd h
  each_asked (p ∷ spans) (s ∷ before) (t ∷ after) [] h = absurd h
  each_asked (p ∷ spans) (s ∷ before) (t ∷ after) (a ∷ answers) h =
      (asks_whatever bytes told name faults s t h.0.asks, each_asked spans before after answers h.1)

  rose_at : (spans : List Span) (before after : List S) (x y : List (Result (Stretch K) ReadEnd))
      → AreAnswered kept_as bytes told name faults spans before after (x ++ Err Store ∷ y) → AnyRose faults before after
  rose_at [] [] [] [] y h = absurd h
  rose_at [] [] [] (a ∷ x) y h = absurd h
  rose_at [] [] (t ∷ after) x y h = absurd h
  rose_at [] (s ∷ before) after x y h = absurd h
  rose_at (p ∷ spans) [] after x y h = absurd h
  rose_at (p ∷ spans) (s ∷ before) [] x y h = absurd h
  rose_at (p ∷ spans) (s ∷ before) (t ∷ after) [] y h = inl (h.0.asks.cause refl)
  rose_at (p ∷ spans) (s ∷ before) (t ∷ after) (a ∷ x) y h = inr (rose_at spans before after x y h.1)

  -- and where one answered that it failed, a count rose
  pub rose : (spans : List Span) (before after : List S) (answers : List (Result (Stretch K) ReadEnd))
      → AreAnswered kept_as bytes told name faults spans before after answers → IsAmong (Err Store) answers → AnyRose faults before after
  rose spans before after answers h (x, y, is) =
      rose_at spans before after x y (subst (AreAnswered kept_as bytes told name faults spans before after) is h)

  -- what the first store tells stays
  pub first-told : (size : ℕ) (spans : List Span) (before after : List S) (answers : List (Result (Stretch K) ReadEnd)) (d : S)
      → AreAnswered kept_as bytes told name faults spans before after answers → All (λ s. told s ≡ Some size) before → 0 < length before
      → told (slice_index_or after 0 d) ≡ Some size
  first-told size spans [] after answers d h all some = absurd (omega (arith, some))
  first-told size [] (s ∷ before) after answers d h all some = absurd h
  first-told size (p ∷ spans) (s ∷ before) [] answers d h all some = absurd h
  first-told size (p ∷ spans) (s ∷ before) (t ∷ after) [] d h all some = absurd h
  first-told size (p ∷ spans) (s ∷ before) (t ∷ after) (a ∷ answers) d h all some = h.0.asks.same_told ∙ all 0 s (omega (arith, some))

  pub first-bytes : (file : List ℕ) (spans : List Span) (before after : List S) (answers : List (Result (Stretch K) ReadEnd)) (d : S)
      → AreAnswered kept_as bytes told name faults spans before after answers → AllByRecursion (λ s. bytes s ≡ Some file) before → 0 < length before
      → bytes (slice_index_or after 0 d) ≡ Some file
  first-bytes file spans [] after answers d h all some = absurd (omega (arith, some))
  first-bytes file [] (s ∷ before) after answers d h all some = absurd h
  first-bytes file (p ∷ spans) (s ∷ before) [] answers d h all some = absurd h
  first-bytes file (p ∷ spans) (s ∷ before) (t ∷ after) [] d h all some = absurd h
  first-bytes file (p ∷ spans) (s ∷ before) (t ∷ after) (a ∷ answers) d h all some = h.0.asks.same_bytes ∙ all.0

  -- and the first is asked once more
  pub asked_again : {F : Type 0} (spans : List Span) (before after : List S) (answers : List (Result (Stretch K) ReadEnd)) (d t : S)
      → 0 < length before → AreAnswered kept_as bytes told name faults spans before after answers
      → OnlyAsks bytes told name faults ⊥ (slice_index_or after 0 d) t
      → (F → IsAmong (Err Store) answers ⊎ Rose (faults (slice_index_or after 0 d)) (faults t))
      → AreOnlyAsked bytes told name faults F before (set after 0 t)
  asked_again spans [] after answers d t some h g cause = absurd (omega (arith, some))
  asked_again [] (a ∷ before) after answers d t some h g cause = absurd h
  asked_again (p ∷ spans) (a ∷ before) [] answers d t some h g cause = absurd h
  asked_again (p ∷ spans) (a ∷ before) (s ∷ rest) answers d t some h g cause =
      let each = each_asked (p ∷ spans) (a ∷ before) (s ∷ rest) answers h in
      record {
        each = (asks_twice bytes told told told name faults a s t (g.same_told ∙ each.0.same_told) (λ never. absurd never) each.0 g, each.1);
        cause = λ failed. elim (cause failed) [
          | inl stands ↦
              AnyRose-then bytes told name faults (a ∷ before) (s ∷ rest) (t ∷ rest) (g, each_none bytes told name faults rest)
              (rose (p ∷ spans) (a ∷ before) (s ∷ rest) answers h stands)
          | inr more ↦ inl (Rose-after (faults a) (faults s) (faults t) each.0.never_falls more)
        ];
      }

-- what was written into all of a vector is all that it holds
pub written : {X : Type 0} (n : ℕ) (xs ys : List X) → length xs ≡ n → take n (xs ++ ys) ≡ xs
written n xs ys is = subst (λ (n : ℕ). take n (xs ++ ys) ≡ xs) is (take-append_seam xs ys)

-- where all answers gave something
pub given_in : {K : Type 0} (kept_as : List (List ℕ) → K) (file : List ℕ) (spans : List Span) (parts : List (Stretch K))
    → AreReadIn kept_as file spans (map (λ (s : Stretch K). Ok s) parts) → AllZip (IsStretchOf kept_as file) spans parts
given_in kept_as file [] [] h = tt
given_in kept_as file [] (s ∷ parts) h = absurd h
given_in kept_as file (p ∷ spans) [] h = absurd h
given_in kept_as file (p ∷ spans) (s ∷ parts) h = (h.0, given_in kept_as file spans parts h.1)
