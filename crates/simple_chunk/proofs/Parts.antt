-- Parts of a list that end at places: how many there are, one of them, one more, and those from one number to another.
use Rattle.std.proofs.Common.{◌≡◌, ◌∙◌, ℕ, zero, suc, ◌+◌, ◌-◌, ◌<◌, ◌≤◌, List, [], ◌∷◌, ◌++◌, length, take, drop, get_or, Some, refl, sym, ap, subst, arith, slice_range}
use Rattle.std.specs.Prelude.{slice_get}
use Rattle.std.proofs.lemmas.List.{length-append, drop_at, take_all, take-append-drop, take-append-le, drop-append-le, drop-take, length-drop, length-take-le, get_or-take}
use Rattle.simple_chunk.specs.Records.{parts_from, last_end, record_begin, AreEnds}

-- there are as many parts as ends
pub length-parts_from : {X : Type 0} (begin : ℕ) (ends : List ℕ) (xs : List X) → length (parts_from begin ends xs) ≡ length ends
length-parts_from begin [] xs = refl
length-parts_from begin (end ∷ ends) xs = ap suc (length-parts_from end ends xs)

-- a part is what lies between its begin and its end
pub slice_get-parts_from : {X : Type 0} (begin : ℕ) (ends : List ℕ) (xs : List X) (i : ℕ) → i < length ends
    → slice_get (parts_from begin ends xs) i ≡ Some (slice_range xs (record_begin begin ends i) (get_or ends i 0))
slice_get-parts_from begin [] xs i h = absurd (omega arith)
slice_get-parts_from begin (end ∷ ends) xs zero h = refl
slice_get-parts_from begin (end ∷ ends) xs (suc zero) h = slice_get-parts_from end ends xs zero (omega arith)
slice_get-parts_from begin (end ∷ ends) xs (suc (suc i)) h = slice_get-parts_from end ends xs (suc i) (omega arith)

-- all ends lie within
pub AreEnds-le : (begin : ℕ) (ends : List ℕ) (whole : ℕ) → AreEnds begin ends whole → begin ≤ whole
AreEnds-le begin [] whole h = omega arith
AreEnds-le begin (end ∷ ends) whole h = omega (arith, AreEnds-le end ends whole h.1, h.0)

-- each part's begin is at most its end
pub AreEnds-at : (begin : ℕ) (ends : List ℕ) (whole i : ℕ) → AreEnds begin ends whole → i < length ends
    → (record_begin begin ends i ≤ get_or ends i 0) × (get_or ends i 0 ≤ whole)
AreEnds-at begin [] whole i h within = absurd (omega arith)
AreEnds-at begin (end ∷ ends) whole zero h within = (h.0, AreEnds-le end ends whole h.1)
AreEnds-at begin (end ∷ ends) whole (suc zero) h within = AreEnds-at end ends whole zero h.1 (omega arith)
AreEnds-at begin (end ∷ ends) whole (suc (suc i)) h within = AreEnds-at end ends whole (suc i) h.1 (omega arith)

-- one more end, at a place that isn't before the last
pub AreEnds-push : (begin : ℕ) (ends : List ℕ) (whole more : ℕ) → AreEnds begin ends whole → whole ≤ more → AreEnds begin (ends ++ more ∷ []) more
AreEnds-push begin [] whole more h after = (omega arith, refl)
AreEnds-push begin (end ∷ ends) whole more h after = (h.0, AreEnds-push end ends whole more h.1 after)

-- where the last one ends
pub last_end-is : (begin : ℕ) (ends : List ℕ) (whole : ℕ) → AreEnds begin ends whole → last_end begin ends ≡ whole
last_end-is begin [] whole h = h
last_end-is begin (end ∷ ends) whole h = last_end-is end ends whole h.1

pub last_end-push : (begin : ℕ) (ends : List ℕ) (more : ℕ) → last_end begin (ends ++ more ∷ []) ≡ more
last_end-push begin [] more = refl
last_end-push begin (end ∷ ends) more = last_end-push end ends more

pub record_begin-last : (begin : ℕ) (ends : List ℕ) → record_begin begin ends (length ends) ≡ last_end begin ends
record_begin-last begin [] = refl
record_begin-last begin (end ∷ []) = refl
record_begin-last begin (end ∷ next ∷ ends) = record_begin-last end (next ∷ ends)

-- what lies behind the last end changes no part
slice_range-append : {X : Type 0} (xs more : List X) (begin end : ℕ) → begin ≤ end → end ≤ length xs
    → slice_range (xs ++ more) begin end ≡ slice_range xs begin end
slice_range-append xs more begin end order within =
    ap (take (end - begin)) (drop-append-le begin xs more (omega arith))
    ∙ take-append-le (end - begin) (drop begin xs) more (omega (arith, length-drop begin xs))

pub parts_from-append : {X : Type 0} (begin : ℕ) (ends : List ℕ) (xs more : List X) (whole : ℕ) → AreEnds begin ends whole → whole ≤ length xs
    → parts_from begin ends (xs ++ more) ≡ parts_from begin ends xs
parts_from-append begin [] xs more whole h within = refl
parts_from-append begin (end ∷ ends) xs more whole h within =
    ap (λ part. part ∷ parts_from end ends (xs ++ more)) (slice_range-append xs more begin end h.0 (omega (arith, AreEnds-le end ends whole h.1)))
    ∙ ap (λ parts. slice_range xs begin end ∷ parts) (parts_from-append end ends xs more whole h.1 within)

pub parts_from-take : {X : Type 0} (begin : ℕ) (ends : List ℕ) (xs : List X) (whole : ℕ) → AreEnds begin ends whole → whole ≤ length xs
    → parts_from begin ends (take whole xs) ≡ parts_from begin ends xs
parts_from-take begin ends xs whole h within =
    sym (parts_from-append begin ends (take whole xs) (drop whole xs) whole h (omega (arith, length-take-le whole xs within)))
    ∙ ap (parts_from begin ends) (take-append-drop whole xs)

-- one more end makes one more part
pub parts_from-push : {X : Type 0} (begin : ℕ) (ends : List ℕ) (xs : List X) (more : ℕ)
    → parts_from begin (ends ++ more ∷ []) xs ≡ parts_from begin ends xs ++ slice_range xs (last_end begin ends) more ∷ []
parts_from-push begin [] xs more = refl
parts_from-push begin (end ∷ ends) xs more = ap (λ parts. slice_range xs begin end ∷ parts) (parts_from-push end ends xs more)

-- what is appended, and ends behind all others, is the last part
slice_range-behind : {X : Type 0} (xs more : List X) → slice_range (xs ++ more) (length xs) (length (xs ++ more)) ≡ more
slice_range-behind xs more =
    ap (take (length (xs ++ more) - length xs)) (drop_at xs more (length xs) refl)
    ∙ take_all (length (xs ++ more) - length xs) more (omega (arith, length-append xs more))

pub parts_from-behind : {X : Type 0} (begin : ℕ) (ends : List ℕ) (xs more : List X) → AreEnds begin ends (length xs)
    → parts_from begin (ends ++ length (xs ++ more) ∷ []) (xs ++ more) ≡ parts_from begin ends xs ++ more ∷ []
parts_from-behind begin ends xs more h =
    parts_from-push begin ends (xs ++ more) (length (xs ++ more))
    ∙ ap (λ parts. parts ++ slice_range (xs ++ more) (last_end begin ends) (length (xs ++ more)) ∷ [])
    (parts_from-append begin ends xs more (length xs) h (omega arith))
    ∙ ap (λ place. parts_from begin ends xs ++ slice_range (xs ++ more) place (length (xs ++ more)) ∷ []) (last_end-is begin ends (length xs) h)
    ∙ ap (λ part. parts_from begin ends xs ++ part ∷ []) (slice_range-behind xs more)

-- the first of the parts, and those behind them
pub take-parts_from : {X : Type 0} (begin : ℕ) (ends : List ℕ) (xs : List X) (n : ℕ) → take n (parts_from begin ends xs) ≡ parts_from begin (take n ends) xs
take-parts_from begin [] xs zero = refl
take-parts_from begin [] xs (suc n) = refl
take-parts_from begin (end ∷ ends) xs zero = refl
take-parts_from begin (end ∷ ends) xs (suc n) = ap (λ parts. slice_range xs begin end ∷ parts) (take-parts_from end ends xs n)

pub drop-parts_from : {X : Type 0} (begin : ℕ) (ends : List ℕ) (xs : List X) (n : ℕ) → n ≤ length ends
    → drop n (parts_from begin ends xs) ≡ parts_from (record_begin begin ends n) (drop n ends) xs
drop-parts_from begin [] xs zero h = refl
drop-parts_from begin [] xs (suc n) h = absurd (omega arith)
drop-parts_from begin (end ∷ ends) xs zero h = refl
drop-parts_from begin (end ∷ ends) xs (suc zero) h = refl
drop-parts_from begin (end ∷ ends) xs (suc (suc n)) h = drop-parts_from end ends xs (suc n) (omega arith)

-- the same of the ends
AreEnds-take : (begin : ℕ) (ends : List ℕ) (whole n : ℕ) → AreEnds begin ends whole → n ≤ length ends → AreEnds begin (take n ends) (record_begin begin ends n)
AreEnds-take begin [] whole zero h within = refl
AreEnds-take begin [] whole (suc n) h within = absurd (omega arith)
AreEnds-take begin (end ∷ ends) whole zero h within = refl
AreEnds-take begin (end ∷ ends) whole (suc zero) h within = (h.0, refl)
AreEnds-take begin (end ∷ ends) whole (suc (suc n)) h within = (h.0, AreEnds-take end ends whole (suc n) h.1 (omega arith))

AreEnds-drop : (begin : ℕ) (ends : List ℕ) (whole n : ℕ) → AreEnds begin ends whole → n ≤ length ends → AreEnds (record_begin begin ends n) (drop n ends) whole
AreEnds-drop begin [] whole zero h within = h
AreEnds-drop begin [] whole (suc n) h within = absurd (omega arith)
AreEnds-drop begin (end ∷ ends) whole zero h within = h
AreEnds-drop begin (end ∷ ends) whole (suc zero) h within = h.1
AreEnds-drop begin (end ∷ ends) whole (suc (suc n)) h within = AreEnds-drop end ends whole (suc n) h.1 (omega arith)

record_begin-le : (begin : ℕ) (ends : List ℕ) (whole n : ℕ) → AreEnds begin ends whole → n ≤ length ends → record_begin begin ends n ≤ whole
record_begin-le begin ends whole n h within = AreEnds-le (record_begin begin ends n) (drop n ends) whole (AreEnds-drop begin ends whole n h within)

record_begin-take : (begin : ℕ) (ends : List ℕ) (n k : ℕ) → n ≤ k → record_begin begin (take k ends) n ≡ record_begin begin ends n
record_begin-take begin ends zero k h = refl
record_begin-take begin ends (suc n) k h = get_or-take k ends n 0 (omega arith)

-- the parts from one number to another lie in what ends where the last of them does
pub record AreBetween (values ends : List ℕ) (from to begin end : ℕ) : Type 0 where
  pub within : end ≤ length values
  pub held : AreEnds begin (slice_range ends from to) (length (take end values))
  pub parts : parts_from begin (slice_range ends from to) (take end values) ≡ slice_range (parts_from 0 ends values) from to

pub between : (values ends : List ℕ) (from to begin end : ℕ) → AreEnds 0 ends (length values) → from ≤ to → to ≤ length ends
    → begin ≡ record_begin 0 ends from → end ≡ record_begin 0 ends to → AreBetween values ends from to begin end
between values ends from to begin end h order few begins ends_at =
    let all = parts_from 0 ends values in
    let first = take to ends in
    let many : from + (to - from) ≡ to = omega arith in
    let within : end ≤ length values = omega (arith, ends_at, record_begin-le 0 ends (length values) to h few) in
    let taken : AreEnds 0 first end = subst (AreEnds 0 first) (sym ends_at) (AreEnds-take 0 ends (length values) to h few) in
    let some : from ≤ length first = omega (arith, length-take-le to ends few) in
    let begin_is : record_begin 0 first from ≡ begin = record_begin-take 0 ends from to order ∙ sym begins in
    let cut : drop from first ≡ slice_range ends from to = ap (λ n. drop from (take n ends)) (sym many) ∙ drop-take from (to - from) ends in
    let held : AreEnds begin (slice_range ends from to) end =
    subst (λ es. AreEnds begin es end) cut (subst (λ b. AreEnds b (drop from first) end) begin_is (AreEnds-drop 0 first end from taken some)) in
    let range : slice_range all from to ≡ parts_from begin (slice_range ends from to) values =
    sym (drop-take from (to - from) all)
    ∙ ap (λ n. drop from (take n all)) many
    ∙ ap (drop from) (take-parts_from 0 ends values to)
    ∙ drop-parts_from 0 first values from some
    ∙ ap (λ b. parts_from b (drop from first) values) begin_is
    ∙ ap (λ es. parts_from begin es values) cut in
    record {
      within = within;
      held = subst (AreEnds begin (slice_range ends from to)) (sym (length-take-le end values within)) held;
      parts = parts_from-take begin (slice_range ends from to) values end held within ∙ sym range;
    }
