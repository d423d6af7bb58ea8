-- The batches of passes, put together one pass after another, from the last on.
use Rattle.std.proofs.Common.{◌≡◌, ◌∙◌, ℕ, zero, suc, ◌+◌, ◌<◌, ◌≤◌, Some, List, [], ◌∷◌, ◌++◌, length, map, refl, sym, ap, subst, inl, inr, arith}
use Rattle.std.proofs.Math.Dec.{eqb}
use Rattle.std.specs.List.{AllByRecursion, slice_get}
use Rattle.std.proofs.lemmas.Bool.{cond-true, cond-false, cases_eq, eq-eqb, ne_eqb}
use Rattle.std.proofs.lemmas.List.{length-append, append-nil}
use Rattle.std.proofs.lemmas.List.Elements.{filter-append}
use Rattle.number_shares.proofs.Lists.{all_append}
use Rattle.record_collect.specs.declared.collector.Batch.{Batch}
use Rattle.record_collect.specs.declared.placed.Placed.{Placed}
use Rattle.number_shares.specs.declared.table.Piece.{Piece}
use Rattle.record_collect.specs.Passes.{AreShort, IsShort, PassValue, Rises}
use Rattle.record_collect.specs.Puts.{batch_piece}
use Rattle.record_collect.specs.Orders.{of_pass, piece_at, place_in}
use Rattle.record_collect.proofs.PassLemmas.{all_to_map}

of_pass-same : (n : ℕ) (es : List Batch) → of_pass n (map (place_in n) es) ≡ map (place_in n) es
of_pass-same n [] = refl
of_pass-same n (e ∷ es) = cond-true (eqb n n) _ _ (eq-eqb n n refl) ∙ ap (λ (l : List Placed). place_in n e ∷ l) (of_pass-same n es)

of_pass-other : (i n : ℕ) (es : List Batch) → ¬ (n ≡ i) → of_pass i (map (place_in n) es) ≡ []
of_pass-other i n [] not = refl
of_pass-other i n (e ∷ es) not = cond-false (eqb n i) _ _ (ne_eqb n i not) ∙ of_pass-other i n es not

of_pass-append : (i : ℕ) (xs ys : List Placed) → of_pass i (xs ++ ys) ≡ of_pass i xs ++ of_pass i ys
of_pass-append i xs ys = filter-append (λ (e : Placed). eqb e.pass i) xs ys

all_placed : (n m : ℕ) (es : List Batch) → n < m → AllByRecursion (λ e. e.pass < m) (map (place_in n) es)
all_placed n m [] below = tt
all_placed n m (e ∷ es) below = (below, all_placed n m es below)

slice_get-front : (xs : List PassValue) (x : PassValue) (i : ℕ) → i < length xs → slice_get (xs ++ x ∷ []) i ≡ slice_get xs i
slice_get-front [] x i within = absurd (omega arith)
slice_get-front (y ∷ xs) x zero within = refl
slice_get-front (y ∷ xs) x (suc i) within = slice_get-front xs x i (omega arith)

slice_get-last : (xs : List PassValue) (x : PassValue) → slice_get (xs ++ x ∷ []) (length xs) ≡ Some x
slice_get-last [] x = refl
slice_get-last (y ∷ xs) x = slice_get-last xs x

-- some first passes are still to come
pub record IsGathered (rest passes : List PassValue) (es : List Placed) : Type 0 where
  pub fewer : length rest ≤ length passes
  pub as_before : (i : ℕ) → i < length rest → slice_get rest i ≡ slice_get passes i
  pub none_yet : (i : ℕ) → i < length rest → of_pass i es ≡ []
  pub placed : (i : ℕ) (p : PassValue) → length rest ≤ i → slice_get passes i ≡ Some p → of_pass i es ≡ map (place_in i) p.mine
  pub rising : (i : ℕ) (p : PassValue) → length rest ≤ i → slice_get passes i ≡ Some p → Rises p.mine
  pub short : AllByRecursion (λ e. IsShort e.records) es
  pub no_other : AllByRecursion (λ e. e.pass < length passes) es

slice_get-beyond : (xs : List PassValue) (i : ℕ) (x : PassValue) → slice_get xs i ≡ Some x → i < length xs
slice_get-beyond [] i x at = cc
slice_get-beyond (y ∷ xs) zero x at = omega arith
slice_get-beyond (y ∷ xs) (suc i) x at = omega (arith, slice_get-beyond xs i x at)

pub gathered_none : (passes : List PassValue) → IsGathered passes passes []
gathered_none passes =
    record {
      fewer = omega arith;
      as_before = λ i within. refl;
      none_yet = λ i within. refl;
      placed = λ i p past at. absurd (omega (arith, slice_get-beyond passes i p at));
      rising = λ i p past at. absurd (omega (arith, slice_get-beyond passes i p at));
      short = tt;
      no_other = tt;
    }

pub gathered_more : (rest passes : List PassValue) (p : PassValue) (es : List Placed) → Rises p.mine → AreShort p.mine → IsGathered (rest ++ p ∷ []) passes es
    → IsGathered rest passes (es ++ map (place_in (length rest)) p.mine)
gathered_more rest passes p es rises short h =
    let n : ℕ = length rest in
    let long : length (rest ++ p ∷ []) ≡ n + 1 = length-append rest (p ∷ []) in
    let here : slice_get passes n ≡ Some p = sym (h.as_before n (omega arith)) ∙ slice_get-last rest p in
    let same : (q : PassValue) → slice_get passes n ≡ Some q → p ≡ q = λ q at. (let e : Some p ≡ Some q = sym here ∙ at in cc) in
    let placed : (i : ℕ) → ¬ (n ≡ i) → of_pass i (es ++ map (place_in n) p.mine) ≡ of_pass i es =
    λ i other. of_pass-append i es (map (place_in n) p.mine) ∙ ap (λ (l : List Placed). of_pass i es ++ l) (of_pass-other i n p.mine other) ∙ append-nil (of_pass i es) in
    record {
      fewer = omega (arith, h.fewer);
      as_before = λ i within. sym (slice_get-front rest p i within) ∙ h.as_before i (omega arith);
      none_yet = λ i within. placed i (λ e. absurd (omega arith)) ∙ h.none_yet i (omega arith);
      placed = λ i q past at. elim (cases_eq i n) [
        | inl is ↦
            let at' : slice_get passes n ≡ Some q = ap (slice_get passes) (sym is) ∙ at in
            let mine : of_pass n (es ++ map (place_in n) p.mine) ≡ map (place_in n) p.mine =
            of_pass-append n es (map (place_in n) p.mine)
            ∙ ap (λ (l : List Placed). l ++ of_pass n (map (place_in n) p.mine)) (h.none_yet n (omega arith))
            ∙ of_pass-same n p.mine in
            subst (λ (j : ℕ). of_pass j (es ++ map (place_in n) p.mine) ≡ map (place_in j) q.mine) (sym is) (mine ∙ ap (λ (r : PassValue). map (place_in n) r.mine) (same q at'))
        | inr other ↦ placed i (λ e. other (sym e)) ∙ h.placed i q (omega arith) at
      ];
      rising = λ i q past at. elim (cases_eq i n) [
        | inl is ↦ subst (λ (r : PassValue). Rises r.mine) (same q (ap (slice_get passes) (sym is) ∙ at)) rises
        | inr other ↦ h.rising i q (omega arith) at
      ];
      short = all_append (λ e. IsShort e.records) es (map (place_in n) p.mine) h.short (all_to_map (λ e. IsShort e.records) (place_in n) p.mine short);
      no_other = all_append (λ e. e.pass < length passes) es (map (place_in n) p.mine) h.no_other (all_placed n (length passes) p.mine (omega (arith, h.fewer)));
    }

-- a batch's piece is the same in the list of all
pub pieces_placed : (n : ℕ) (es : List Batch) → map piece_at (map (place_in n) es) ≡ map batch_piece es
pieces_placed n [] = refl
pieces_placed n (e ∷ es) = ap (λ (l : List Piece). batch_piece e ∷ l) (pieces_placed n es)
