-- Records that are grouped before more of them come: which groups stay.
use Rattle.std.proofs.Common.{◌≡◌, ◌≢◌, ◌∙◌, ℕ, suc, ◌-◌, Bool, true, false, Option, List, [], ◌∷◌, ◌++◌, length, take, drop, refl, sym, ap, append-nil, append_assoc, arith}
use Rattle.std.proofs.Math.Dec.{eqb}
use Rattle.std.proofs.lemmas.Bool.{cond_both, cond-true, cond-false, eqb-true}
use Rattle.std.proofs.lemmas.Grind.{flat_map-append}
use Rattle.std.proofs.lemmas.List.{nil_from_length, take-append-drop, take_all, take_at, drop_at}
use Rattle.record_group.specs.Groups.{closes_before, groups_after, groups}
use Rattle.record_group.proofs.Grouping.{joined, joined-groups}
use Rattle.riegeli_c.specs.Writes.{groups_laid, records_laid}

-- a list with one more is not empty
push-some : {X : Type 0} (xs : List X) (x : X) → xs ++ x ∷ [] ≢ []
push-some [] x = λ is. cc is
push-some (y ∷ xs) x = λ is. cc is

-- an open group that isn't empty is followed by a group
pub groups_after-some : (size : ℕ) (every : Option ℕ) (group records : List (List ℕ)) → group ≢ [] → groups_after size every group records ≢ []
groups_after-some size every group [] some =
    cond_both (eqb (length group) 0) [] (group ∷ []) (λ (gs : List (List (List ℕ))). gs ≢ [])
    (λ e. absurd (some (nil_from_length group (eqb-true (length group) 0 e))))
    (λ e is. cc is)
groups_after-some size every group (record_bytes ∷ records) some =
    cond_both (closes_before size every group record_bytes) _ _ (λ (gs : List (List (List ℕ))). gs ≢ [])
    (λ closed is. cc is)
    (λ stays. groups_after-some size every (group ++ record_bytes ∷ []) records (push-some group record_bytes))

-- of groups behind one more, those that are laid and those that are held are the same
counted : {X : Type 0} (x y : X) (xs : List X) → length (x ∷ y ∷ xs) - 1 ≡ suc (length (y ∷ xs) - 1)
counted x y xs = omega arith

pub laid-cons : (last : Bool) (group : List (List ℕ)) (gs : List (List (List ℕ))) → gs ≢ [] → groups_laid last (group ∷ gs) ≡ group ∷ groups_laid last gs
laid-cons true group gs some = refl
laid-cons false group [] some = absurd (some refl)
laid-cons false group (next ∷ gs) some = ap (λ (n : ℕ). take n (group ∷ next ∷ gs)) (counted group next gs)

held-cons : (group : List (List ℕ)) (gs : List (List (List ℕ))) → gs ≢ [] → drop (length (group ∷ gs) - 1) (group ∷ gs) ≡ drop (length gs - 1) gs
held-cons group [] some = absurd (some refl)
held-cons group (next ∷ gs) some = ap (λ (n : ℕ). drop n (group ∷ next ∷ gs)) (counted group next gs)

-- behind groups that closed
longer-some : {X : Type 0} (xs ys : List X) → ys ≢ [] → xs ++ ys ≢ []
longer-some [] ys some = some
longer-some (x ∷ xs) ys some = λ is. cc is

pub laid-append : (closed behind : List (List (List ℕ))) → behind ≢ [] → groups_laid false (closed ++ behind) ≡ closed ++ groups_laid false behind
laid-append [] behind some = refl
laid-append (group ∷ closed) behind some =
    laid-cons false group (closed ++ behind) (longer-some closed behind some)
    ∙ ap (λ (gs : List (List (List ℕ))). group ∷ gs) (laid-append closed behind some)

-- the records of the group that is held
abbrev pub held : List (List (List ℕ)) → List (List ℕ)
held gs = joined (drop (length gs - 1) gs)

-- an open group is built anew by its records
abbrev Builds : (size : ℕ) (every : Option ℕ) (group : List (List ℕ)) → Type 0
Builds size every group = (more : List (List ℕ)) → groups_after size every [] (group ++ more) ≡ groups_after size every group more

Builds-one : (size : ℕ) (every : Option ℕ) (record_bytes : List ℕ) → Builds size every (record_bytes ∷ [])
Builds-one size every record_bytes = λ more. refl

Builds-push : (size : ℕ) (every : Option ℕ) (group : List (List ℕ)) (record_bytes : List ℕ)
    → closes_before size every group record_bytes ≡ false → Builds size every group → Builds size every (group ++ record_bytes ∷ [])
Builds-push size every group record_bytes stays builds = λ more.
    ap (λ (records : List (List ℕ)). groups_after size every [] records) (append_assoc group (record_bytes ∷ []) more)
    ∙ builds (record_bytes ∷ more)
    ∙ cond-false _ _ _ stays

-- so the groups of records and more behind them are those that are laid of the records alone, and behind them the groups of what
-- is held and of those
abbrev Splits : (size : ℕ) (every : Option ℕ) (last : Bool) (more : List (List ℕ)) (all : List (List (List ℕ))) → List (List (List ℕ)) → Type 0
Splits size every last more all gs =
    groups_laid last all ≡ groups_laid false gs ++ groups_laid last (groups_after size every [] (held gs ++ more))

splits : (size : ℕ) (every : Option ℕ) (last : Bool) (group records more : List (List ℕ)) → Builds size every group
    → Splits size every last more (groups_after size every group (records ++ more)) (groups_after size every group records)
splits size every last group [] more builds =
    cond_both (eqb (length group) 0) [] (group ∷ []) (Splits size every last more (groups_after size every group more))
    (λ e. ap (λ (g : List (List ℕ)). groups_laid last (groups_after size every g more)) (nil_from_length group (eqb-true (length group) 0 e)))
    (λ e.
    ap (groups_laid last)
    (sym (builds more)
    ∙ ap (λ (g : List (List ℕ)). groups_after size every [] (g ++ more)) (sym (append-nil group))))
splits size every last group (record_bytes ∷ records) more builds =
    cond_both (closes_before size every group record_bytes) _ _
    (Splits size every last more (groups_after size every group (record_bytes ∷ (records ++ more))))
    (λ closed.
    let one : record_bytes ∷ [] ≢ [] = λ is. cc is in
    let rest : List (List (List ℕ)) = groups_after size every (record_bytes ∷ []) records in
    let some : rest ≢ [] = groups_after-some size every (record_bytes ∷ []) records one in
    ap (groups_laid last) (cond-true _ _ _ closed)
    ∙ laid-cons last group (groups_after size every (record_bytes ∷ []) (records ++ more)) (groups_after-some size every (record_bytes ∷ []) (records ++ more) one)
    ∙ ap (λ (gs : List (List (List ℕ))). group ∷ gs) (splits size every last (record_bytes ∷ []) records more (Builds-one size every record_bytes))
    ∙ ap (λ (gs : List (List (List ℕ))). gs ++ groups_laid last (groups_after size every [] (held rest ++ more))) (sym (laid-cons false group rest some))
    ∙ ap (λ (gs : List (List (List ℕ))). groups_laid false (group ∷ rest) ++ groups_laid last (groups_after size every [] (joined gs ++ more)))
    (sym (held-cons group rest some)))
    (λ stays.
    ap (groups_laid last) (cond-false _ _ _ stays)
    ∙ splits size every last (group ++ record_bytes ∷ []) records more (Builds-push size every group record_bytes stays builds))

-- records are those that are laid, and those that are held
pub laid-held : (records : List (List ℕ)) (size : ℕ) (every : Option ℕ)
    → records ≡ records_laid records size every false ++ held (groups records size every)
laid-held records size every =
    let gs : List (List (List ℕ)) = groups records size every in
    sym (joined-groups records size every)
    ∙ ap joined (sym (take-append-drop (length gs - 1) gs))
    ∙ flat_map-append (λ group. group) (take (length gs - 1) gs) (drop (length gs - 1) gs)

-- those that are held are what is left of them
pub held-is : (records : List (List ℕ)) (size : ℕ) (every : Option ℕ)
    → drop (length (records_laid records size every false)) records ≡ held (groups records size every)
held-is records size every =
    let laid : List (List ℕ) = records_laid records size every false in
    let rest : List (List ℕ) = held (groups records size every) in
    ap (drop (length laid)) (laid-held records size every) ∙ drop_at laid rest (length laid) refl

pub laid-all : (records : List (List ℕ)) (size : ℕ) (every : Option ℕ) → records_laid records size every true ≡ records
laid-all records size every = joined-groups records size every

-- those that are laid are a front
pub laid-front : (records : List (List ℕ)) (size : ℕ) (every : Option ℕ) (last : Bool)
    → take (length (records_laid records size every last)) records ≡ records_laid records size every last
laid-front records size every true =
    ap (λ (rs : List (List ℕ)). take (length rs) records) (laid-all records size every)
    ∙ take_all (length records) records (omega arith)
    ∙ sym (laid-all records size every)
laid-front records size every false =
    let laid : List (List ℕ) = records_laid records size every false in
    let rest : List (List ℕ) = held (groups records size every) in
    ap (take (length laid)) (laid-held records size every) ∙ take_at laid rest (length laid) refl

-- the groups of records and more
pub groups-more : (records more : List (List ℕ)) (size : ℕ) (every : Option ℕ) (last : Bool)
    → groups_laid last (groups (records ++ more) size every)
    ≡ groups_laid false (groups records size every)
    ++ groups_laid last (groups (drop (length (records_laid records size every false)) records ++ more) size every)
unfolding groups
groups-more records more size every last =
    splits size every last [] records more (λ more. refl)
    ∙ ap (λ (rest : List (List ℕ)). groups_laid false (groups_after size every [] records) ++ groups_laid last (groups_after size every [] (rest ++ more)))
    (sym (held-is records size every))

pub laid-more : (records more : List (List ℕ)) (size : ℕ) (every : Option ℕ) (last : Bool)
    → records_laid (records ++ more) size every last
    ≡ records_laid records size every false
    ++ records_laid (drop (length (records_laid records size every false)) records ++ more) size every last
laid-more records more size every last =
    ap joined (groups-more records more size every last)
    ∙ flat_map-append (λ group. group) (groups_laid false (groups records size every)) _
