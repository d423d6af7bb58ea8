-- How many turns a search by halves takes.
use Rattle.std.proofs.Common.{◌≡◌, ℕ, zero, suc, ◌+◌, ◌*◌, ◌/◌, ◌^◌, ◌<◌, ◌≤◌, length, refl, subst, arith, add-one}
use Rattle.std.specs.Int.Digits.{digits_of}
use Rattle.std.proofs.lemmas.Int.Digits.{length-digits_of_step}

-- so many turns at most are left, and their cost still fits what is allowed
pub record AreTurnsPaid (width spent cost allowed : ℕ) : Type 0 where
  pub turns : ℕ
  pub narrow : width ≤ 2 ^ turns
  pub paid : spent + turns * cost ≤ allowed

no_turns : (t w : ℕ) → 1 < w → w ≤ 2 ^ t → (n : ℕ) × (t ≡ suc n)
no_turns zero w wide h = absurd (omega (arith, wide, h))
no_turns (suc n) w wide h = (n, refl)

turn_before : (t spent cost allowed width width' spent' : ℕ) → width ≤ 2 ^ suc t → spent + suc t * cost ≤ allowed
    → width' + width' ≤ width + 1 → spent' ≤ spent + cost → AreTurnsPaid width' spent' cost allowed
turn_before t spent cost allowed width width' spent' narrow paid half more = record {
  turns = t;
  narrow = let e : 2 ^ suc t ≡ 2 ^ t + 2 ^ t = grind arith in omega (arith, e, narrow, half);
  paid = let e : suc t * cost ≡ cost + t * cost = grind arith in omega (arith, e, paid, more);
}

pub after_turn : (width spent cost allowed width' spent' : ℕ) → AreTurnsPaid width spent cost allowed
    → 1 < width → width' + width' ≤ width + 1 → spent' ≤ spent + cost → AreTurnsPaid width' spent' cost allowed
after_turn width spent cost allowed width' spent' h wide half more =
    let t : (n : ℕ) × (h.turns ≡ suc n) = no_turns h.turns width wide h.narrow in
    turn_before t.0 spent cost allowed width width' spent'
    (subst (λ (n : ℕ). width ≤ 2 ^ n) t.1 h.narrow)
    (subst (λ (n : ℕ). spent + n * cost ≤ allowed) t.1 h.paid)
    half more

double : (m : ℕ) → 2 ^ (m + 1) ≡ 2 ^ m + 2 ^ m
double m = rw (add-one m) (grind arith)

below_power : (fuel n : ℕ) → n ≤ fuel → n < 2 ^ length (digits_of 2 n)
below_power fuel zero h = omega arith
below_power zero (suc n) h = absurd (omega (arith, h))
below_power (suc fuel) (suc n) h =
    let e : length (digits_of 2 (suc n)) ≡ length (digits_of 2 (suc n / 2)) + 1 = length-digits_of_step 2 (suc n) (omega arith) (omega arith) in
    let r : suc n / 2 < 2 ^ length (digits_of 2 (suc n / 2)) = below_power fuel (suc n / 2) (omega (arith, h)) in
    let p = double (length (digits_of 2 (suc n / 2))) in
    rw e (rw p (omega (arith, r)))

pub digits_above : (n : ℕ) → n < 2 ^ length (digits_of 2 n)
digits_above n = below_power n n (omega arith)
