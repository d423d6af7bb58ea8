-- Pieces in the order of their places, which hold each number below some number once.
use Rattle.std.proofs.Common.{◌≡◌, ℕ, ◌+◌, ◌-◌, ◌<◌, ◌≤◌, List, [], ◌∷◌, map, refl, ap, subst, inl, inr, arith}
use Rattle.std.specs.List.{AllByRecursion}
use Rattle.std.proofs.lemmas.Bool.{cases_lt}
use Rattle.std.proofs.lemmas.List.Sums.{sum_by-cons}
use Rattle.number_shares.proofs.Counting.{once_below, once_below-yes, once_below-no}
use Rattle.number_shares.specs.declared.table.Piece.{Piece}
use Rattle.record_collect.specs.declared.placed.Placed.{Placed}
use Rattle.number_shares.specs.Machine.{IsMine, IsPast}
use Rattle.record_collect.specs.Limits.{limit}
use Rattle.record_collect.specs.Puts.{puts}
use Rattle.simple_chunk.specs.Costs.{cost_of}
use Rattle.record_collect.specs.Orders.{ReceiptsAddUp, cost_of_placed, piece_at}
use Rattle.number_shares.proofs.PastPieces.{once-le, once-below, once-past, held-grows}
use Rattle.number_shares.proofs.Pieces.{covers, held, held-cons, times-range-below, times-range-inside, times-range-more}

-- batches in the order of their receipts
abbrev pub IsOrdered : List Placed → Type 0
IsOrdered [] = Unit {0}
IsOrdered (e ∷ es) = AllByRecursion (λ f. e.at ≤ f.at) es × IsOrdered es

-- a number before all places is held by no piece
held-before : (p q : ℕ) (es : List Placed) → p < q → AllByRecursion (λ f. q ≤ f.at) es → held p (map piece_at es) ≡ 0
held-before p q [] below all = refl
held-before p q (e ∷ es) below all =
    omega (arith, held-cons p (piece_at e) (map piece_at es), times-range-below p e.at (cost_of e.records) (omega (arith, all.0)), held-before p q es below all.1)

-- what is known of batches in order: each has as its receipt what those before it cost, and the pieces that end above the limit hold the rest
pub record IsTiled (from to : ℕ) (es : List Placed) (past : List Piece) : Type 0 where
  pub laid : ReceiptsAddUp from es
  pub within : from + cost_of_placed es ≤ to
  pub rest : (p : ℕ) → held p past + once_below (from + cost_of_placed es) p ≡ once_below to p

-- the first batch stands where the numbers begin
first_at : (from to : ℕ) (e : Placed) (es : List Placed) (past : List Piece) → from ≤ to
    → AllByRecursion (λ f. e.at ≤ f.at) es → IsMine puts (piece_at e) → AllByRecursion (IsPast puts) past
    → ((p : ℕ) → held p (map piece_at (e ∷ es)) + held p past + once_below from p ≡ once_below to p)
    → e.at ≡ from
first_at from to e es past up ordered mine over each =
    let own : ℕ = cost_of e.records in
    let here : covers e.at (piece_at e) ≡ 1 = times-range-inside e.at e.at own (omega arith) (omega (arith, mine.some)) in
    let cut : held e.at (map piece_at (e ∷ es)) ≡ covers e.at (piece_at e) + held e.at (map piece_at es) = held-cons e.at (piece_at e) (map piece_at es) in
    let alone : (once_below to e.at ≡ 1) × (once_below from e.at ≡ 0) × (held e.at past ≡ 0) =
    (omega (arith, each e.at, once-le to e.at), omega (arith, each e.at, once-le to e.at), omega (arith, each e.at, once-le to e.at)) in
    let begins : from ≤ e.at = once-past from e.at alone.1 in
    let stops : e.at < to = once-below to e.at (omega (arith, alone.0)) in
    elim (cases_lt from e.at) [
      | inl later ↦
          let none_here : covers from (piece_at e) ≡ 0 = times-range-below from e.at own later in
          let none_after : held from (map piece_at es) ≡ 0 = held-before from e.at es later ordered in
          let cut' : held from (map piece_at (e ∷ es)) ≡ covers from (piece_at e) + held from (map piece_at es) = held-cons from (piece_at e) (map piece_at es) in
          absurd (omega (arith, each from, once_below-no from from (omega arith), once_below-yes to from (omega arith), held-grows puts from e.at past (omega arith) (omega (arith, mine.ends)) over, alone.2))
      | inr same ↦ omega arith
    ]

pub tiled : (from to : ℕ) (es : List Placed) (past : List Piece) → from ≤ to → IsOrdered es → AllByRecursion (λ e. IsMine puts (piece_at e)) es → AllByRecursion (IsPast puts) past
    → ((p : ℕ) → held p (map piece_at es) + held p past + once_below from p ≡ once_below to p)
    → IsTiled from to es past
tiled from to [] past up ordered mine over each =
    let none : from ≡ from + cost_of_placed [] = omega arith in
    record { laid = tt; within = omega arith; rest = λ p. subst (λ (n : ℕ). held p past + once_below n p ≡ once_below to p) none (omega (arith, each p)) }
tiled from to (e ∷ es) past up ordered mine over each =
    let own : ℕ = cost_of e.records in
    let at : e.at ≡ from = first_at from to e es past up ordered.0 mine.0 over each in
    let last : ℕ = e.at + (own - 1) in
    let big : 8 ≤ own = mine.0.some in
    let stops : last < to = once-below to last (omega (arith, each last, held-cons last (piece_at e) (map piece_at es), times-range-inside last e.at own (omega arith) (omega arith))) in
    let after : (p : ℕ) → held p (map piece_at es) + held p past + once_below (from + own) p ≡ once_below to p =
    λ p. omega (arith, each p, held-cons p (piece_at e) (map piece_at es), times-range-more p e.at own, ap (λ n. once_below n p) at, ap (λ n. once_below (n + own) p) at) in
    let t : IsTiled (from + own) to es past = tiled (from + own) to es past (omega arith) ordered.1 mine.1 over after in
    let sum : cost_of_placed (e ∷ es) ≡ own + cost_of_placed es = sum_by-cons (λ (f : Placed). cost_of f.records) e es in
    let total : from + own + cost_of_placed es ≡ from + cost_of_placed (e ∷ es) = omega arith in
    record {
      laid = (at, t.laid);
      within = omega (arith, t.within);
      rest = λ p. subst (λ (n : ℕ). held p past + once_below n p ≡ once_below to p) total (t.rest p);
    }

-- they end at or below the limit
pub laid_most : (at : ℕ) (es : List Placed) → at ≤ limit → ReceiptsAddUp at es → AllByRecursion (λ e. IsMine puts (piece_at e)) es → at + cost_of_placed es ≤ limit
laid_most at [] low laid mine = omega arith
laid_most at (e ∷ es) low laid mine =
    omega (arith, sum_by-cons (λ (f : Placed). cost_of f.records) e es, laid_most (at + cost_of e.records) es (omega (arith, laid.0, mine.0.ends)) laid.1 mine.1)
