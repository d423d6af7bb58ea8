-- What a buffer beside a sink passed on and holds after the lists of some of the elements.
use Rattle.std.proofs.Common.{◌≡◌, ◌∙◌, ℕ, ◌+◌, ◌<◌, false, Option, Result, List, [], ◌∷◌, ◌++◌, length, get_or, take, drop, refl, sym, ap, subst, add-one, rules}
use Rattle.std.specs.List.{enumerate_from, flat_map}
use Rattle.std.proofs.Math.Seq.{take-suc}
use Rattle.std.proofs.lemmas.Result.{on_ok_weaker, on_err_weaker}
use Rattle.std.proofs.lemmas.List.{append-nil, take-append-drop}
use Rattle.std.proofs.lemmas.Grind.{flat_map-append}
use Rattle.record_io.specs.Outside.{TakesShort}
use Rattle.record_io.specs.Buffers.{TakesAndHolds}
use Rattle.record_io.specs.Calls.{OnlyCounts, PutsThrough}
use Rattle.command_frame.specs.Answers.{line}
use Rattle.show_command.specs.declared.show_words.RecordForm.{RecordForm}
use Rattle.show_command.specs.Readings.{record_line}
use Rattle.show_command.specs.ShowProgress.{record_lines, plain_lines}
use Rattle.record_io.proofs.Buffered.{TakesAndHolds-append, TakesShort-behind, TakesShort-held_longer}

-- the lists of one element more
pub flat_map-next : {X : Type 0} (f : X → List ℕ) (xs : List X) (i : ℕ) (d : X) → i < length xs
    → flat_map f (take (i + 1) xs) ≡ flat_map f (take i xs) ++ f (get_or xs i d)
flat_map-next f xs i d within =
    ap (λ (n : ℕ). flat_map f (take n xs)) (add-one i)
    ∙ ap (flat_map f) (take-suc xs i d within)
    ∙ flat_map-append f (take i xs) (get_or xs i d ∷ [])
    ∙ ap (λ (ys : List ℕ). flat_map f (take i xs) ++ ys) (append-nil (f (get_or xs i d)))

-- the first of them are a front of all
flat_map-front : {X : Type 0} (f : X → List ℕ) (xs : List X) (n : ℕ) → flat_map f xs ≡ flat_map f (take n xs) ++ flat_map f (drop n xs)
flat_map-front f xs n = ap (flat_map f) (sym (take-append-drop n xs)) ∙ flat_map-append f (take n xs) (drop n xs)

-- one element more, whose list is put behind those of the ones before
pub lines-next : {X : Type 0} (f : X → List ℕ) (a b c : Option (List ℕ)) (before held then : List ℕ) (xs : List X) (i : ℕ) (x : X)
    → i < length xs → get_or xs i x ≡ x
    → TakesAndHolds a b (before ++ flat_map f (take i xs)) held → TakesAndHolds b c (held ++ f x) then
    → TakesAndHolds a c (before ++ flat_map f (take (i + 1) xs)) then
lines-next f a b c before held then xs i x within is first next =
    subst (λ (ys : List ℕ). TakesAndHolds a c (before ++ ys) then)
    (ap (λ p. flat_map f (take i xs) ++ f p) (sym is) ∙ sym (flat_map-next f xs i x within))
    (TakesAndHolds-append a b c before held then (flat_map f (take i xs)) (f x) first next)

pub lines-failed : {X : Type 0} (f : X → List ℕ) (a b c : Option (List ℕ)) (before held : List ℕ) (xs : List X) (i : ℕ) (x : X)
    → i < length xs → get_or xs i x ≡ x
    → TakesAndHolds a b (before ++ flat_map f (take i xs)) held → TakesShort b c (held ++ f x)
    → TakesShort a c (before ++ flat_map f xs)
lines-failed f a b c before held xs i x within is first next =
    subst (λ (ys : List ℕ). TakesShort a c (before ++ ys)) (sym (flat_map-front f xs (i + 1)))
    (TakesShort-held_longer a c before (flat_map f (take (i + 1) xs)) (flat_map f (drop (i + 1) xs))
    (subst (λ (ys : List ℕ). TakesShort a c (before ++ ys))
    (ap (λ p. flat_map f (take i xs) ++ f p) (sym is) ∙ sym (flat_map-next f xs i x within))
    (TakesShort-behind a b c before held (flat_map f (take i xs)) (f x) first next)))

-- the lists of several elements more, which lie in one piece
module _ {X : Type 0} (f : X → List ℕ) (a b c : Option (List ℕ)) (before held piece : List ℕ) (xs : List X) (i j : ℕ)
    (joined : flat_map f (take i xs) ++ piece ≡ flat_map f (take j xs))
    (first : TakesAndHolds a b (before ++ flat_map f (take i xs)) held) where
  pub page-put : (then : List ℕ) → TakesAndHolds b c (held ++ piece) then → TakesAndHolds a c (before ++ flat_map f (take j xs)) then
  page-put then next =
      subst (λ (ys : List ℕ). TakesAndHolds a c (before ++ ys) then) joined
      (TakesAndHolds-append a b c before held then (flat_map f (take i xs)) piece first next)

  pub page-failed : TakesShort b c (held ++ piece) → TakesShort a c (before ++ flat_map f xs)
  page-failed next =
      subst (λ (ys : List ℕ). TakesShort a c (before ++ ys)) (sym (flat_map-front f xs j))
      (TakesShort-held_longer a c before (flat_map f (take j xs)) (flat_map f (drop j xs))
      (subst (λ (ys : List ℕ). TakesShort a c (before ++ ys)) joined
      (TakesShort-behind a b c before held (flat_map f (take i xs)) piece first next)))

-- the lines of records as they are have no positions and no digits
pub plain-record_lines : (form : RecordForm) (begin : ℕ) (records : List (List ℕ)) → form.positions ≡ false → form.hex ≡ false
    → record_lines form (enumerate_from begin records) ≡ plain_lines records
plain-record_lines form begin [] positions hex = refl
plain-record_lines form begin (rec ∷ records) positions hex =
    let here : record_line form (begin, rec) ≡ line rec = rw (positions, hex) refl in
    ap (λ (xs : List ℕ). xs ++ record_lines form (enumerate_from (begin + 1) records)) here
    ∙ ap (λ (xs : List ℕ). line rec ++ xs) (plain-record_lines form (begin + 1) records positions hex)

-- bytes behind others that were put
pub puts-then : {M L X E : Type 0} (taken : M → Option (List ℕ)) (lent : M → L) (faults : M → ℕ) (result : Result X E)
    (held between then x y : List ℕ) (before mid after : M)
    → TakesAndHolds (taken before) (taken mid) (held ++ x) between → OnlyCounts lent faults ⊥ before mid
    → PutsThrough taken lent faults result between then y mid after → PutsThrough taken lent faults result held then (x ++ y) before after
puts-then taken lent faults result held between then x y before mid after first counts next = record {
  whole = on_ok_weaker result (TakesAndHolds-append (taken before) (taken mid) (taken after) held between then x y first) next.whole;
  front = on_err_weaker result (TakesShort-behind (taken before) (taken mid) (taken after) held between x y first) next.front;
  emptied = next.emptied;
  counts = search rules;
}
