-- One call after another on a sink and the buffer beside it.
use Rattle.std.proofs.Common.{◌≡◌, ℕ, ◌+◌, ◌<◌, Option, List, [], ◌∷◌, ◌++◌, length, get_or, take, drop, sym, ap, ◌∙◌, subst, add-one, append_assoc}
use Rattle.std.specs.List.{concat}
use Rattle.std.proofs.Math.Seq.{take-suc}
use Rattle.std.proofs.lemmas.List.{append-nil, take-append-drop}
use Rattle.std.proofs.lemmas.List.Folds.{concat-append}
use Rattle.record_io.specs.Outside.{Takes, TakesShort}
use Rattle.record_io.specs.Buffers.{TakesAndHolds}
use Rattle.record_io.proofs.Calls.{Takes-nothing, Takes-append, TakesShort-append, TakesShort-longer}

-- what is held goes out, and a piece behind it
pub TakesAndHolds-through : (a b c : Option (List ℕ)) (held piece now : List ℕ)
    → now ≡ [] → Takes a b held → Takes b c piece → TakesAndHolds a c (held ++ piece) now
TakesAndHolds-through a b c held piece now none first then = record {
  passed = held ++ piece;
  parts = sym (ap (λ (xs : List ℕ). (held ++ piece) ++ xs) none ∙ append-nil (held ++ piece));
  taken = Takes-append a b c held piece first then;
}

-- what went through and what is held, with more bytes behind it
parts-append : (before between x y passed : List ℕ) → before ++ x ≡ passed ++ between → before ++ (x ++ y) ≡ passed ++ (between ++ y)
parts-append before between x y passed parts =
    sym (append_assoc before x y) ∙ ap (λ (xs : List ℕ). xs ++ y) parts ∙ append_assoc passed between y

-- bytes x behind those that are held, and then y
pub TakesAndHolds-append : (a b c : Option (List ℕ)) (before between after x y : List ℕ)
    → TakesAndHolds a b (before ++ x) between → TakesAndHolds b c (between ++ y) after → TakesAndHolds a c (before ++ (x ++ y)) after
TakesAndHolds-append a b c before between after x y first then = record {
  passed = first.passed ++ then.passed;
  parts = parts-append before between x y first.passed first.parts
      ∙ ap (λ (xs : List ℕ). first.passed ++ xs) then.parts
      ∙ sym (append_assoc first.passed then.passed after);
  taken = Takes-append a b c first.passed then.passed first.taken then.taken;
}

-- what is held and a front of a piece go out, and then the rest goes out or is held
pub TakesAndHolds-rest : (a b c : Option (List ℕ)) (held front rest piece now : List ℕ) → piece ≡ front ++ rest
    → Takes a b (held ++ front) → TakesAndHolds b c rest now → TakesAndHolds a c (held ++ piece) now
TakesAndHolds-rest a b c held front rest piece now is first then = record {
  passed = (held ++ front) ++ then.passed;
  parts = ap (λ (xs : List ℕ). held ++ xs) is ∙ sym (append_assoc held front rest)
      ∙ ap (λ (xs : List ℕ). (held ++ front) ++ xs) then.parts
      ∙ sym (append_assoc (held ++ front) then.passed now);
  taken = Takes-append a b c (held ++ front) then.passed first then.taken;
}

-- what is held and a front of a piece go out, and then not all of the rest
pub TakesShort-rest : (a b c : Option (List ℕ)) (held front rest piece : List ℕ) → piece ≡ front ++ rest
    → Takes a b (held ++ front) → TakesShort b c rest → TakesShort a c (held ++ piece)
TakesShort-rest a b c held front rest piece is first then =
    subst (λ (xs : List ℕ). TakesShort a c xs)
    (append_assoc held front rest ∙ ap (λ (xs : List ℕ). held ++ xs) (sym is))
    (TakesShort-append a b c (held ++ front) rest first then)

-- bytes x behind those that are held, and then not all of what is held and y
pub TakesShort-behind : (a b c : Option (List ℕ)) (before between x y : List ℕ)
    → TakesAndHolds a b (before ++ x) between → TakesShort b c (between ++ y) → TakesShort a c (before ++ (x ++ y))
TakesShort-behind a b c before between x y first then =
    subst (λ (xs : List ℕ). TakesShort a c xs)
    (sym (parts-append before between x y first.passed first.parts))
    (TakesShort-append a b c first.passed (between ++ y) first.taken then)

-- not all of what is held and x is not all of what is held, x and y
pub TakesShort-held_longer : (a b : Option (List ℕ)) (before x y : List ℕ) → TakesShort a b (before ++ x) → TakesShort a b (before ++ (x ++ y))
TakesShort-held_longer a b before x y front =
    subst (λ (xs : List ℕ). TakesShort a b xs) (append_assoc before x y) (TakesShort-longer a b (before ++ x) y front)

-- no bytes change nothing
pub TakesAndHolds-none : (a : Option (List ℕ)) (held : List ℕ) → TakesAndHolds a a (held ++ []) held
TakesAndHolds-none a held = record {
  passed = [];
  parts = append-nil held;
  taken = Takes-nothing a;
}

-- the pieces up to the next one
concat-next : (xs : List (List ℕ)) (i : ℕ) (d : List ℕ) → i < length xs
    → concat (take (i + 1) xs) ≡ concat (take i xs) ++ get_or xs i d
concat-next xs i d within =
    ap (λ (n : ℕ). concat (take n xs)) (add-one i)
    ∙ ap concat (take-suc xs i d within)
    ∙ concat-append (take i xs) (get_or xs i d ∷ [])
    ∙ ap (λ (ys : List ℕ). concat (take i xs) ++ ys) (append-nil (get_or xs i d))

concat-front : (xs : List (List ℕ)) (n : ℕ) → concat xs ≡ concat (take n xs) ++ concat (drop n xs)
concat-front xs n = ap concat (sym (take-append-drop n xs)) ∙ concat-append (take n xs) (drop n xs)

-- one piece more
pub pieces-next : (a b c : Option (List ℕ)) (before held then : List ℕ) (xs : List (List ℕ)) (i : ℕ) (piece : List ℕ) → i < length xs
    → get_or xs i [] ≡ piece
    → TakesAndHolds a b (before ++ concat (take i xs)) held → TakesAndHolds b c (held ++ piece) then
    → TakesAndHolds a c (before ++ concat (take (i + 1) xs)) then
pieces-next a b c before held then xs i piece within is first next =
    subst (λ (ys : List ℕ). TakesAndHolds a c (before ++ ys) then)
    (ap (λ (p : List ℕ). concat (take i xs) ++ p) (sym is) ∙ sym (concat-next xs i [] within))
    (TakesAndHolds-append a b c before held then (concat (take i xs)) piece first next)

-- a piece more failed
pub pieces-failed : (a b c : Option (List ℕ)) (before held : List ℕ) (xs : List (List ℕ)) (i : ℕ) (piece : List ℕ) → i < length xs
    → get_or xs i [] ≡ piece
    → TakesAndHolds a b (before ++ concat (take i xs)) held → TakesShort b c (held ++ piece)
    → TakesShort a c (before ++ concat xs)
pieces-failed a b c before held xs i piece within is first next =
    subst (λ (ys : List ℕ). TakesShort a c (before ++ ys)) (sym (concat-front xs (i + 1)))
    (TakesShort-held_longer a c before (concat (take (i + 1) xs)) (concat (drop (i + 1) xs))
    (subst (λ (ys : List ℕ). TakesShort a c (before ++ ys))
    (ap (λ (p : List ℕ). concat (take i xs) ++ p) (sym is) ∙ sym (concat-next xs i [] within))
    (TakesShort-behind a b c before held (concat (take i xs)) piece first next)))
