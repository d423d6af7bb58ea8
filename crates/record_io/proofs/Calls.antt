-- One call after another: what a source gives and a sink takes in two.
use Rattle.std.proofs.Common.{◌≡◌, ◌≢◌, ℕ, ◌+◌, ◌<◌, Option, Some, None, Result, Ok, Err, List, [], ◌∷◌, ◌++◌, length, take, drop, refl, sym, ap, ◌∙◌, subst, arith, append-nil, append_assoc, length-append}
use Rattle.std.specs.Result.{OnErr}
use Rattle.std.proofs.lemmas.List.{drop-drop}
use Rattle.std.proofs.lemmas.Grind.{common_steps}
use Rattle.std.proofs.Math.Seq.{take-append-add}
use Rattle.record_io.specs.Outside.{Gives, Takes, TakesShort}
use Rattle.record_io.specs.Calls.{TakesFront}

-- a source that gave x and then y gave x ++ y
pub Gives-append : (a b c : Option (List ℕ)) (x y : List ℕ) → Gives a b x → Gives b c y → Gives a c (x ++ y)
Gives-append None b c x y first then = tt
Gives-append (Some left) b c x y first then =
    let second : Gives (Some (drop (length x) left)) c y = subst (λ o. Gives o c y) first.1 then in
    let at : drop (length (x ++ y)) left ≡ drop (length y) (drop (length x) left) =
    ap (λ n. drop n left) (length-append x y) ∙ sym (drop-drop (length y) (length x) left) in (
      first.0 ∙ ap (λ r. x ++ r) second.0 ∙ sym (append_assoc x y (drop (length y) (drop (length x) left))) ∙ ap (λ r. (x ++ y) ++ r) (sym at),
      second.1 ∙ ap Some (sym at),
    )

-- a sink that nothing was put to took nothing
pub Takes-nothing : (taken : Option (List ℕ)) → Takes taken taken []
Takes-nothing None = tt
Takes-nothing (Some bytes) = ap Some (sym (append-nil bytes))

-- a sink that took x and then y took x ++ y
pub Takes-append : (a b c : Option (List ℕ)) (x y : List ℕ) → Takes a b x → Takes b c y → Takes a c (x ++ y)
Takes-append None b c x y first then = tt
Takes-append (Some taken) b c x y first then =
    let second : Takes (Some (taken ++ x)) c y = subst (λ o. Takes o c y) first then in
    second ∙ ap Some (append_assoc taken x y)

-- a sink that took x and then a front of y took a front of x ++ y
pub TakesFront-append : (a b c : Option (List ℕ)) (x y : List ℕ) → Takes a b x → TakesFront b c y → TakesFront a c (x ++ y)
TakesFront-append None b c x y first then = tt
TakesFront-append (Some taken) b c x y first then =
    let second : TakesFront (Some (taken ++ x)) c y = subst (λ o. TakesFront o c y) first then in (
      length x + second.0,
      omega (arith, length-append x y, second.1),
      second.2 ∙ ap Some (append_assoc taken x (take second.0 y) ∙ ap (λ r. taken ++ r) (sym (take-append-add x y second.0))),
    )

-- a front of x is a front of x ++ y
pub TakesFront-longer : (a b : Option (List ℕ)) (x y : List ℕ) → TakesFront a b x → TakesFront a b (x ++ y)
TakesFront-longer None b x y h = tt
TakesFront-longer (Some taken) b x y h =
    (h.0, omega (arith, length-append x y, h.1), h.2 ∙ ap (λ r. Some (taken ++ r)) (grind (arith, common_steps, h.1)))

-- the whole is a front
pub TakesFront-whole : (a b : Option (List ℕ)) (x : List ℕ) → Takes a b x → TakesFront a b x
TakesFront-whole None b x h = tt
TakesFront-whole (Some taken) b x h = (length x, omega arith, h ∙ ap (λ r. Some (taken ++ r)) (grind (arith, common_steps)))

-- nothing is a front
pub TakesFront-none : (a : Option (List ℕ)) (x : List ℕ) → TakesFront a a x
TakesFront-none None x = tt
TakesFront-none (Some taken) x = (0, omega arith, ap Some (grind (arith, common_steps)))

-- a sink that took so many bytes of x, and then nothing, took not all of x
pub TakesShort-at : (a b c : Option (List ℕ)) (x : List ℕ) (at : ℕ) → at < length x → Takes a b (take at x) → c ≡ b → TakesShort a c x
TakesShort-at a b c x at less took same = (at, less, subst (λ o. Takes a o (take at x)) (sym same) took)

-- a front that is not the whole is a front
pub TakesShort-front : (a b : Option (List ℕ)) (x : List ℕ) → TakesShort a b x → TakesFront a b x
TakesShort-front None b x h = tt
TakesShort-front (Some taken) b x h = (h.0, omega (arith, h.1), h.2)

-- a sink that took x and then not all of y took not all of x ++ y
pub TakesShort-append : (a b c : Option (List ℕ)) (x y : List ℕ) → Takes a b x → TakesShort b c y → TakesShort a c (x ++ y)
TakesShort-append a b c x y first then = (
  length x + then.0,
  omega (arith, length-append x y, then.1),
  subst (λ (xs : List ℕ). Takes a c xs) (sym (take-append-add x y then.0)) (Takes-append a b c x (take then.0 y) first then.2),
)

-- not all of x is not all of x ++ y
pub TakesShort-longer : (a b : Option (List ℕ)) (x y : List ℕ) → TakesShort a b x → TakesShort a b (x ++ y)
TakesShort-longer a b x y h = (
  h.0,
  omega (arith, length-append x y, h.1),
  subst (λ (xs : List ℕ). Takes a b xs) (grind (arith, common_steps, h.1)) h.2,
)

-- a front of x is not all of x and more behind it
pub TakesFront-before : (a b : Option (List ℕ)) (x y : List ℕ) → y ≢ [] → TakesFront a b x → TakesShort a b (x ++ y)
TakesFront-before a b x [] some h = absurd (some refl)
TakesFront-before None b x (e ∷ y) some h = (0, omega (arith, length-append x (e ∷ y)), tt)
TakesFront-before (Some taken) b x (e ∷ y) some h = (
  h.0,
  omega (arith, length-append x (e ∷ y), h.1),
  h.2 ∙ ap (λ r. Some (taken ++ r)) (grind (arith, common_steps, h.1)),
)

-- there is some of which not all was taken
pub TakesShort-some : (a b : Option (List ℕ)) (x : List ℕ) → TakesShort a b x → x ≢ []
TakesShort-some a b x h none = omega (arith, h.1, ap length none)

-- what holds anyway holds where a call failed
pub OnErr-any : {X E : Type 0} {P : Type 0} (result : Result X E) → P → OnErr result P
OnErr-any (Ok x) h = tt
OnErr-any (Err e) h = h
