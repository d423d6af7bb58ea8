-- What a sort makes of the batches of all passes.
use Rattle.std.proofs.Common.{◌≡◌, ◌∙◌, ℕ, zero, suc, ◌+◌, ◌<◌, ◌≤◌, ◌⊎◌, Bool, true, false, cond, List, [], ◌∷◌, map, All, refl, sym, ap, subst, inl, inr, arith}
use Rattle.std.specs.List.{AllByRecursion, filter, slice_index}
use Rattle.std.specs.List.Sorted.{IsPermutation, IsNonDecreasingBy}
use Rattle.std.proofs.Math.Dec.{eqb}
use Rattle.std.proofs.lemmas.List.Sorted.{All-permutation, IsPermutation-map, IsPermutation-sym, sum_by-IsPermutation}
use mathlib.Core.Option.{some}
use lib.ListN.{get_elem?}
use Rattle.atomic_table.specs.Table.{State}
use Rattle.simple_chunk.specs.Costs.{cost_of}
use Rattle.number_shares.specs.Once.{HasEachBelow}
use Rattle.number_shares.proofs.Counting.{once_below, once_below-no, times-each_below}
use Rattle.number_shares.proofs.Lists.{all_map}
use Rattle.number_shares.specs.declared.table.SeatView.{SeatView}
use Rattle.number_shares.specs.declared.table.Terms.{Terms}
use Rattle.record_collect.specs.declared.collector.Batch.{Batch}
use Rattle.record_collect.specs.declared.placed.Placed.{Placed}
use Rattle.number_shares.specs.Machine.{IsHand, IsMine, numbers_taken}
use Rattle.record_collect.specs.Puts.{puts}
use Rattle.number_shares.specs.declared.table.Bounds.{Bounds}
use Rattle.number_shares.specs.Rule.{IsKept, hand_of}
use Rattle.record_collect.specs.Passes.{Rises}
use Rattle.record_collect.specs.Orders.{ReceiptsAddUp, of_pass, piece_at, place_in}
use Rattle.number_shares.proofs.Pieces.{covers, held, held-append, held-sum}
use Rattle.record_collect.proofs.PassLemmas.{all_of_map, all_to_map}
use Rattle.number_shares.proofs.Tables.{closed}
use Rattle.record_collect.proofs.Laid.{IsOrdered, IsTiled, tiled}

-- the two ways to say what holds of each element
to_all : {X : Type 0} (P : X → Type 0) (xs : List X) → AllByRecursion P xs → All P xs
to_all P [] all k d within = absurd (omega arith)
to_all P (x ∷ xs) all zero d within = all.0
to_all P (x ∷ xs) all (suc k) d within = to_all P xs all.1 k d (omega arith)

of_all : {X : Type 0} (P : X → Type 0) (xs : List X) → All P xs → AllByRecursion P xs
of_all P [] all = tt
of_all P (x ∷ xs) all = (all 0 x (omega arith), of_all P xs (λ k d within. all (suc k) d (omega arith)))

pub all_permuted : {X : Type 0} (P : X → Type 0) (xs ys : List X) → IsPermutation xs ys → AllByRecursion P xs → AllByRecursion P ys
all_permuted P xs ys moved all = of_all P ys (All-permutation P xs ys moved (to_all P xs all))

ordered : (es : List Placed) → IsNonDecreasingBy (λ e. e.at) es → IsOrdered es
ordered [] up = tt
ordered (e ∷ es) up = (
  of_all (λ (f : Placed). e.at ≤ f.at) es (λ k d within. up 0 (suc k) d (omega arith) (omega arith)),
  ordered es (λ i j d le lt. up (suc i) (suc j) d (omega arith) (omega arith)),
)

-- what a sort of the batches makes, where the table was closed
pub record IsSortedOut (word : ℕ) (es : List Placed) (v : SeatView) : Type 0 where
  pub tiles : IsTiled 0 word es v.past
  pub mine : AllByRecursion (λ e. IsMine puts (piece_at e)) es
  pub hand : IsHand puts (hand_of v)

pub sorted_out : (terms : Terms) (s : State (Unit {0}) SeatView) (id : ℕ) (v : SeatView) (all es : List Placed)
    → terms.bounds ≡ puts → IsKept terms s → get_elem? s.views id ≡ some v → v.weight ≡ terms.seats → v.mine ≡ map piece_at all → IsPermutation all es → IsNonDecreasingBy (λ e. e.at) es
    → IsSortedOut (slice_index s.words 0) es v
sorted_out terms s id v all es bounds h at whole pieces moved up =
    let word : ℕ = slice_index s.words 0 in
    let end : IsHand puts (hand_of v) × HasEachBelow word (numbers_taken (hand_of v)) =
    subst (λ (b : Bounds). IsHand b (hand_of v) × HasEachBelow word (numbers_taken (hand_of v))) bounds (closed terms s id v h at whole) in
    let mine : AllByRecursion (λ e. IsMine puts (piece_at e)) es =
    all_permuted (λ (e : Placed). IsMine puts (piece_at e)) all es moved (all_of_map (IsMine puts) piece_at all (subst (AllByRecursion (IsMine puts)) pieces end.0.mine)) in
    let each : (p : ℕ) → held p (map piece_at es) + held p v.past + once_below 0 p ≡ once_below word p =
    λ p. omega (
      arith,
      held-append p v.mine v.past,
      times-each_below word p (numbers_taken (hand_of v)) end.1,
      ap (held p) pieces,
      held-sum p (map piece_at all),
      held-sum p (map piece_at es),
      sum_by-IsPermutation (covers p) (map piece_at all) (map piece_at es) (IsPermutation-map piece_at all es moved),
      once_below-no 0 p (omega arith),
    ) in
    record { tiles = tiled 0 word es v.past (omega arith) (ordered es up) mine end.0.past each; mine = mine; hand = end.0 }

-- receipts that rise, in the list of all
abbrev AllRise : List Placed → Type 0
AllRise [] = Unit {0}
AllRise (e ∷ es) = AllByRecursion (λ f. e.at < f.at) es × AllRise es

laid_from : (at : ℕ) (es : List Placed) → ReceiptsAddUp at es → AllByRecursion (λ f. at ≤ f.at) es
laid_from at [] laid = tt
laid_from at (e ∷ es) laid = (omega (arith, laid.0), all_map (λ f. at + cost_of e.records ≤ f.at) (λ f. at ≤ f.at) es (λ f g. omega (arith, g)) (laid_from (at + cost_of e.records) es laid.1))

laid_rises : (at : ℕ) (es : List Placed) → ReceiptsAddUp at es → AllByRecursion (λ e. IsMine puts (piece_at e)) es → AllRise es
laid_rises at [] laid mine = tt
laid_rises at (e ∷ es) laid mine = (
  all_map (λ f. at + cost_of e.records ≤ f.at) (λ f. e.at < f.at) es (λ f g. omega (arith, g, laid.0, mine.0.some)) (laid_from (at + cost_of e.records) es laid.1),
  laid_rises (at + cost_of e.records) es laid.1 mine.1,
)

mine_rises : (i : ℕ) (bs : List Batch) → Rises bs → AllByRecursion (λ e. IsMine puts (piece_at e)) (map (place_in i) bs) → AllRise (map (place_in i) bs)
mine_rises i [] rises mine = tt
mine_rises i (b ∷ bs) rises mine = (
  all_to_map (λ e. b.at < e.at) (place_in i) bs
      (all_map (λ c. b.at + cost_of b.records ≤ c.at) (λ c. b.at < c.at) bs (λ c g. omega (arith, g, mine.0.some)) rises.0),
  mine_rises i bs rises.1 mine.1,
)

-- what passes a test
all_filter : (P : Placed → Type 0) (test : Placed → Bool) (es : List Placed) → AllByRecursion P es → AllByRecursion P (filter test es)
all_filter P test [] all = tt
all_filter P test (e ∷ es) all = by (test e) (all_filter P test es all.1)
  where
    by : (b : Bool) → AllByRecursion P (filter test es) → AllByRecursion P (cond b (e ∷ filter test es) (filter test es))
    by true rest = (all.0, rest)
    by false rest = rest

rises_filter : (test : Placed → Bool) (es : List Placed) → AllRise es → AllRise (filter test es)
rises_filter test [] rises = tt
rises_filter test (e ∷ es) rises = by (test e) (rises_filter test es rises.1)
  where
    by : (b : Bool) → AllRise (filter test es) → AllRise (cond b (e ∷ filter test es) (filter test es))
    by true rest = (all_filter (λ f. e.at < f.at) test es rises.0, rest)
    by false rest = rest

tested : (P : Placed → Type 0) (test : Placed → Bool) (es : List Placed) → AllByRecursion P (filter test es) → AllByRecursion (λ e. test e ≡ true → P e) es
tested P test [] all = tt
tested P test (e ∷ es) all = by (test e) refl all (λ rest. tested P test es rest)
  where
    by : (b : Bool) → test e ≡ b → AllByRecursion P (cond b (e ∷ filter test es) (filter test es)) → (AllByRecursion P (filter test es) → AllByRecursion (λ f. test f ≡ true → P f) es)
        → (test e ≡ true → P e) × AllByRecursion (λ f. test f ≡ true → P f) es
    by true is all on = (λ _. all.0, on all.1)
    by false is all on = (λ yes. (let no : false ≡ true = sym is ∙ yes in cc), on all)

untested : (P : Placed → Type 0) (test : Placed → Bool) (es : List Placed) → AllByRecursion (λ e. test e ≡ true → P e) es → AllByRecursion P (filter test es)
untested P test [] all = tt
untested P test (e ∷ es) all = by (test e) refl (untested P test es all.1)
  where
    by : (b : Bool) → test e ≡ b → AllByRecursion P (filter test es) → AllByRecursion P (cond b (e ∷ filter test es) (filter test es))
    by true is rest = (all.0 is, rest)
    by false is rest = rest

-- two lists that rise and have the same elements are the same
same_rising : (xs ys : List Placed) → AllRise xs → AllRise ys
    → ((P : Placed → Type 0) → AllByRecursion P xs → AllByRecursion P ys) → ((P : Placed → Type 0) → AllByRecursion P ys → AllByRecursion P xs) → xs ≡ ys
same_rising [] [] up up' to back = refl
same_rising [] (y ∷ ys) up up' to back = let no : y.at < y.at = (to (λ e. e.at < e.at) tt).0 in absurd (omega (arith, no))
same_rising (x ∷ xs) [] up up' to back = let no : x.at < x.at = (back (λ e. e.at < e.at) tt).0 in absurd (omega (arith, no))
same_rising (x ∷ xs) (y ∷ ys) up up' to back =
    let low : x.at ≤ y.at = (to (λ e. x.at ≤ e.at) (omega arith, all_map (λ e. x.at < e.at) (λ e. x.at ≤ e.at) xs (λ e g. omega (arith, g)) up.0)).0 in
    let high : y.at ≤ x.at = (back (λ e. y.at ≤ e.at) (omega arith, all_map (λ e. y.at < e.at) (λ e. y.at ≤ e.at) ys (λ e g. omega (arith, g)) up'.0)).0 in
    let either : (y ≡ x) ⊎ (x.at < y.at) = (to (λ e. (e ≡ x) ⊎ (x.at < e.at)) (inl refl, all_map (λ e. x.at < e.at) (λ e. (e ≡ x) ⊎ (x.at < e.at)) xs (λ e g. inr g) up.0)).0 in
    let head : y ≡ x = elim either [ inl same ↦ same | inr later ↦ absurd (omega arith) ] in
    let tail : xs ≡ ys = same_rising xs ys up.1 up'.1
    (λ P all. rest P x.at ys (all_map (λ e. y.at < e.at) (λ e. x.at < e.at) ys (λ e g. omega (arith, g)) up'.0)
    (to (λ e. (e.at ≡ x.at) ⊎ P e) (inl refl, all_map P (λ e. (e.at ≡ x.at) ⊎ P e) xs (λ e g. inr g) all)).1)
    (λ P all. rest P y.at xs (all_map (λ e. x.at < e.at) (λ e. y.at < e.at) xs (λ e g. omega (arith, g)) up.0)
    (back (λ e. (e.at ≡ y.at) ⊎ P e) (inl refl, all_map P (λ e. (e.at ≡ y.at) ⊎ P e) ys (λ e g. inr g) all)).1) in
    ap (λ (e : Placed). e ∷ xs) (sym head) ∙ ap (λ (l : List Placed). y ∷ l) tail
  where
    rest : (P : Placed → Type 0) (n : ℕ) (es : List Placed) → AllByRecursion (λ e. n < e.at) es → AllByRecursion (λ e. (e.at ≡ n) ⊎ P e) es → AllByRecursion P es
    rest P n [] later all = tt
    rest P n (e ∷ es) later all = (elim all.0 [ inl same ↦ absurd (omega (arith, later.0)) | inr holds ↦ holds ], rest P n es later.1 all.1)

pub of_pass_sorted : (i : ℕ) (mine : List Batch) (all es : List Placed) → of_pass i all ≡ map (place_in i) mine → Rises mine
    → ReceiptsAddUp 0 es → AllByRecursion (λ e. IsMine puts (piece_at e)) es → IsPermutation all es → of_pass i es ≡ map (place_in i) mine
of_pass_sorted i mine all es placed rises laid pieces moved =
    let test : Placed → Bool = λ e. eqb e.pass i in
    let own : AllByRecursion (λ e. IsMine puts (piece_at e)) (map (place_in i) mine) =
    subst (AllByRecursion (λ (e : Placed). IsMine puts (piece_at e))) placed
    (all_filter (λ e. IsMine puts (piece_at e)) test all (all_permuted (λ e. IsMine puts (piece_at e)) es all (IsPermutation-sym all es moved) pieces)) in
    same_rising (of_pass i es) (map (place_in i) mine) (rises_filter test es (laid_rises 0 es laid pieces)) (mine_rises i mine rises own)
    (λ P h. subst (AllByRecursion P) placed (untested P test all (all_permuted (λ e. test e ≡ true → P e) es all (IsPermutation-sym all es moved) (tested P test es h))))
    (λ P h. untested P test es (all_permuted (λ e. test e ≡ true → P e) all es moved (tested P test all (subst (AllByRecursion P) (sym placed) h))))
