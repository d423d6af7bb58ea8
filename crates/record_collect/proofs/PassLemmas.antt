-- Accepted batches, and the pieces that they took.
use Rattle.std.proofs.Common.{◌≡◌, ◌∙◌, ℕ, ◌+◌, ◌≤◌, Option, Some, None, List, [], ◌∷◌, ◌++◌, map, refl, sym, ap, subst}
use Rattle.std.specs.List.{AllByRecursion}
use Rattle.std.specs.Option.{option_to_list}
use Rattle.atomic_table.specs.Seated.{TableId}
use Rattle.number_shares.proofs.Lists.{all_push}
use Rattle.number_shares.specs.declared.table.Piece.{Piece}
use Rattle.record_collect.specs.declared.collector.Batch.{Batch}
use Rattle.simple_chunk.specs.Costs.{cost_of}
use Rattle.record_collect.specs.Passes.{PassValue, Rises}
use Rattle.record_collect.specs.Puts.{batch_piece}

pub no_past : (o : Option ℕ) (past : List Piece) → map (λ (x : Piece). x.at) past ≡ option_to_list o → o ≡ None → past ≡ []
no_past None [] told none = refl
no_past None (x ∷ past) told none = cc
no_past (Some n) past told none = cc

pub map-push : {X Y : Type 0} (f : X → Y) (xs : List X) (x : X) → map f (xs ++ x ∷ []) ≡ map f xs ++ f x ∷ []
map-push f [] x = refl
map-push f (y ∷ xs) x = ap (λ l. f y ∷ l) (map-push f xs x)

pub all_of_map : {X Y : Type 0} (P : Y → Type 0) (f : X → Y) (xs : List X) → AllByRecursion P (map f xs) → AllByRecursion (λ x. P (f x)) xs
all_of_map P f [] all = tt
all_of_map P f (x ∷ xs) all = (all.0, all_of_map P f xs all.1)

pub all_to_map : {X Y : Type 0} (P : Y → Type 0) (f : X → Y) (xs : List X) → AllByRecursion (λ x. P (f x)) xs → AllByRecursion P (map f xs)
all_to_map P f [] all = tt
all_to_map P f (x ∷ xs) all = (all.0, all_to_map P f xs all.1)

pub same_pass : (v w : PassValue) → v.table ≡ w.table → v.mine ≡ w.mine → v.ended ≡ w.ended → v ≡ w
same_pass v w table mine ended =
    ap (λ (t : TableId). let u : PassValue = record { table = t; mine = v.mine; ended = v.ended } in u) table
    ∙ ap (λ (m : List Batch). let u : PassValue = record { table = w.table; mine = m; ended = v.ended } in u) mine
    ∙ ap (λ (o : Option ℕ). let u : PassValue = record { table = w.table; mine = w.mine; ended = o } in u) ended

-- batches that rise still do with one more that is above all
pub Rises-push : (bs : List Batch) (b : Batch) → AllByRecursion (λ c. c.at + cost_of c.records ≤ b.at) bs → Rises bs → Rises (bs ++ b ∷ [])
Rises-push [] b above rises = (tt, tt)
Rises-push (c ∷ bs) b above rises = (all_push (λ d. c.at + cost_of c.records ≤ d.at) bs b above.0 rises.0, Rises-push bs b above.1 rises.1)

pub map-append : {X Y : Type 0} (f : X → Y) (xs ys : List X) → map f (xs ++ ys) ≡ map f xs ++ map f ys
map-append f [] ys = refl
map-append f (x ∷ xs) ys = ap (λ l. f x ∷ l) (map-append f xs ys)

-- what is above all pieces of batches is above the batches
pub pieces_above : (at : ℕ) (bs : List Batch) (mine : List Piece) → mine ≡ map batch_piece bs → AllByRecursion (λ x. x.at + x.cost ≤ at) mine
    → AllByRecursion (λ b. b.at + cost_of b.records ≤ at) bs
pieces_above at bs mine are above = all_of_map (λ (x : Piece). x.at + x.cost ≤ at) batch_piece bs (subst (AllByRecursion (λ (x : Piece). x.at + x.cost ≤ at)) are above)

-- one piece more is that of one batch more
pub pieces_push : (bs : List Batch) (b : Batch) (mine : List Piece) → mine ≡ map batch_piece bs → mine ++ batch_piece b ∷ [] ≡ map batch_piece (bs ++ b ∷ [])
pieces_push bs b mine are = ap (λ (xs : List Piece). xs ++ batch_piece b ∷ []) are ∙ sym (map-push batch_piece bs b)
