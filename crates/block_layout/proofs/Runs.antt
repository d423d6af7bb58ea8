-- Where bytes that stand behind one another go on, run by run between block headers.
use Rattle.std.proofs.Common.{◌≡◌, ◌≢◌, ◌∙◌, ℕ, ◌+◌, ◌-◌, ◌%◌, ◌<◌, ◌≤◌, sym, ap, subst, inl, inr, arith}
use Rattle.std.proofs.lemmas.Bool.{cases_eq}
use Rattle.block_layout.specs.Layout.{room, end_of}
use Rattle.block_layout.specs.NextPlaces.{IsOnBoundary, IsNextPlace, usable_from}
use Rattle.block_layout.proofs.Room.{room-closed}
use Rattle.block_layout.proofs.Ends.{end_of-zero, end_of-some, end_of-more, end_of_above, end_of_is_end}

-- no room up to the least usable position
pub room-usable_from : (p : ℕ) → room p (usable_from p) ≡ 0
room-usable_from p = omega (arith, room-closed p (usable_from p))

-- which is the place itself, but at a block
pub usable_from-is : (p : ℕ) → IsNextPlace p → p % 65536 ≢ 0 → usable_from p ≡ p
usable_from-is p next inside = let past : 24 ≤ p % 65536 = next (omega arith) in omega arith

pub usable_from-block : (p : ℕ) → p % 65536 ≡ 0 → usable_from p ≡ p + 24
usable_from-block p block = omega arith

-- from there bytes up to the next block end right behind as many positions
pub end_of-run : (p n : ℕ) → 1 ≤ n → IsNextPlace p → usable_from p % 65536 + n ≤ 65536 → end_of p n ≡ usable_from p + n
end_of-run p n some next fits =
    elim (cases_eq (p % 65536) 0) [
      | inl block ↦ omega (arith, end_of-some p n some)
      | inr inside ↦ omega (arith, next (omega arith), end_of-some p n some)
    ]

-- which lies before the end of bytes
pub usable_from-le-end_of : (p n : ℕ) → 1 ≤ n → usable_from p ≤ end_of p n
usable_from-le-end_of p n some = omega (arith, end_of-some p n some)

-- before an end that is a boundary there is such a position
pub usable_from-before : (p end : ℕ) → p < end → IsNextPlace p → IsOnBoundary end → usable_from p < end
usable_from-before p end before next boundary = grind arith

-- where bytes end, the next ones can go on
pub end_of-next_place : (p n : ℕ) → IsNextPlace p → IsNextPlace (end_of p n)
end_of-next_place p n next =
    elim (cases_eq n 0) [
      | inl none ↦ subst IsNextPlace (sym (ap (end_of p) none ∙ end_of-zero p)) next
      | inr some ↦ λ h. omega (arith, h, end_of-some p n (omega arith))
    ]

-- the rest of some bytes ends where all of them do
pub end_of-rest : (place at size : ℕ) → at ≤ size → end_of (end_of place at) (size - at) ≡ end_of place size
end_of-rest place at size within =
    let all : at + (size - at) ≡ size = omega arith in
    end_of-more place at (size - at) ∙ ap (end_of place) all

-- and fewer bytes end before
pub end_of_strict : (place at size : ℕ) → at < size → end_of place at < end_of place size
end_of_strict place at size less = omega (arith, end_of_above (end_of place at) (size - at) (omega arith), end_of-rest place at size (omega arith))

-- there is room for bytes up to their end
pub room-end_of : (place n : ℕ) → room place (end_of place n) ≡ n
room-end_of place n = (end_of_is_end place n).holds
