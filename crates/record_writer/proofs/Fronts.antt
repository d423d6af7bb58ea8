-- What a sink took and what is held beside it, where a put failed or the work was cut off.
use Rattle.std.proofs.Common.{◌≡◌, ◌≢◌, ◌∙◌, ℕ, Option, Some, None, List, [], ◌∷◌, ◌++◌, length, take, drop, refl, sym, ap, subst, append_assoc, arith}
use Rattle.std.proofs.lemmas.List.{append-nil, take-append-drop, length-drop}
use Rattle.record_io.specs.Outside.{Takes, TakesShort}
use Rattle.record_io.specs.Calls.{TakesFront}
use Rattle.record_io.specs.Buffers.{TakesAndHolds}
use Rattle.record_io.proofs.Calls.{Takes-append, TakesFront-append, TakesFront-longer, TakesFront-before, TakesShort-append, TakesShort-longer}
use Rattle.record_writer.specs.MadeFiles.{TakesAndHoldsFront}

-- a sink that isn't called takes nothing
Takes-none : (a : Option (List ℕ)) → Takes a a []
Takes-none None = tt
Takes-none (Some taken) = ap Some (sym (append-nil taken))

pub TakesAndHolds-none : (a : Option (List ℕ)) (held : List ℕ) → TakesAndHolds a a (held ++ []) held
TakesAndHolds-none a held = record { passed = []; parts = append-nil held; taken = Takes-none a }

-- then what is held is a front of itself and more bytes
pub TakesAndHoldsFront-none : {F : Type 0} (a : Option (List ℕ)) (held more : List ℕ) → (F → ⊥) → TakesAndHoldsFront F a a (held ++ more) held
TakesAndHoldsFront-none a held more done = record { passed = []; rest = more; parts = refl; short = λ fails. absurd (done fails); taken = Takes-none a }

-- a put that failed left nothing held
pub TakesAndHoldsFront-failed : {F : Type 0} (a b : Option (List ℕ)) (bytes held : List ℕ) → held ≡ [] → TakesShort a b bytes → TakesAndHoldsFront F a b bytes held
TakesAndHoldsFront-failed a b bytes held empty (n, less, took) = record {
  passed = take n bytes;
  rest = drop n bytes;
  parts = sym (take-append-drop n bytes) ∙ ap (λ (xs : List ℕ). take n bytes ++ (xs ++ drop n bytes)) (sym empty);
  short = λ _ none. omega (arith, less, length-drop n bytes, ap length none);
  taken = took;
}

-- some bytes and more are some
longer-some : (x y : List ℕ) → x ≢ [] → x ++ y ≢ []
longer-some [] y some = λ _. some refl
longer-some (b ∷ x) y some = λ none. absurd cc

-- a front of bytes is one of more bytes
pub TakesAndHoldsFront-longer : {F : Type 0} (a b : Option (List ℕ)) (before x y held : List ℕ) → TakesAndHoldsFront F a b (before ++ x) held
    → TakesAndHoldsFront F a b (before ++ (x ++ y)) held
TakesAndHoldsFront-longer a b before x y held front = record {
  passed = front.passed;
  rest = front.rest ++ y;
  parts = sym (append_assoc before x y)
      ∙ ap (λ (xs : List ℕ). xs ++ y) front.parts
      ∙ append_assoc front.passed (held ++ front.rest) y
      ∙ ap (λ (xs : List ℕ). front.passed ++ xs) (append_assoc held front.rest y);
  short = λ fails. longer-some front.rest y (front.short fails);
  taken = front.taken;
}

-- bytes x behind those that are held, and then a front of what is held and y
pub TakesAndHoldsFront-behind : {F : Type 0} (a b c : Option (List ℕ)) (before between after x y : List ℕ)
    → TakesAndHolds a b (before ++ x) between → TakesAndHoldsFront F b c (between ++ y) after → TakesAndHoldsFront F a c (before ++ (x ++ y)) after
TakesAndHoldsFront-behind a b c before between after x y first then = record {
  passed = first.passed ++ then.passed;
  rest = then.rest;
  parts = sym (append_assoc before x y)
      ∙ ap (λ (xs : List ℕ). xs ++ y) first.parts
      ∙ append_assoc first.passed between y
      ∙ ap (λ (xs : List ℕ). first.passed ++ xs) then.parts
      ∙ sym (append_assoc first.passed then.passed (after ++ then.rest));
  short = then.short;
  taken = Takes-append a b c first.passed then.passed first.taken then.taken;
}

-- once what is held went out, the sink took all of it
pub Takes-flushed : (a b c : Option (List ℕ)) (bytes held : List ℕ) → TakesAndHolds a b bytes held → Takes b c held → Takes a c bytes
Takes-flushed a b c bytes held whole then =
    subst (λ (xs : List ℕ). Takes a c xs) (sym whole.parts) (Takes-append a b c whole.passed held whole.taken then)

-- or not all, where that failed
pub TakesShort-flushed : (a b c : Option (List ℕ)) (bytes held : List ℕ) → TakesAndHolds a b bytes held → TakesShort b c held → TakesShort a c bytes
TakesShort-flushed a b c bytes held whole then =
    subst (λ (xs : List ℕ). TakesShort a c xs) (sym whole.parts) (TakesShort-append a b c whole.passed held whole.taken then)

-- or where it was a front before
module _ {F : Type 0} (a b c : Option (List ℕ)) (bytes held : List ℕ) (front : TakesAndHoldsFront F a b bytes held) where
  parts : (front.passed ++ held) ++ front.rest ≡ bytes
  parts = sym (front.parts ∙ sym (append_assoc front.passed held front.rest))

  pub TakesShort-front_flushed : TakesShort b c held → TakesShort a c bytes
  TakesShort-front_flushed then =
      subst (λ (xs : List ℕ). TakesShort a c xs) parts
      (TakesShort-longer a c (front.passed ++ held) front.rest (TakesShort-append a b c front.passed held front.taken then))

  -- a front, where that took a front
  pub TakesFront-front_flushed : TakesFront b c held → TakesFront a c bytes
  TakesFront-front_flushed then =
      subst (λ (xs : List ℕ). TakesFront a c xs) parts
      (TakesFront-longer a c (front.passed ++ held) front.rest (TakesFront-append a b c front.passed held front.taken then))

  -- and not all, where a put had failed
  pub TakesShort-put_failed : F → TakesFront b c held → TakesShort a c bytes
  TakesShort-put_failed fails then =
      subst (λ (xs : List ℕ). TakesShort a c xs) parts
      (TakesFront-before a c (front.passed ++ held) front.rest (front.short fails) (TakesFront-append a b c front.passed held front.taken then))
