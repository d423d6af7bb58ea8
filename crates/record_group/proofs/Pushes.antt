-- The groups that pushes give, and those that are still to come, are all groups.
use Rattle.std.proofs.Common.{◌≡◌, ◌∙◌, ℕ, Option, Some, None, List, [], ◌∷◌, ◌++◌, refl, sym, ap, append-nil}
use Rattle.std.specs.Option.{option_to_list}
use Rattle.std.proofs.lemmas.Bool.{cond-true, cond-false}
use Rattle.std.proofs.lemmas.List.{append_assoc}
use Rattle.record_group.specs.Groups.{groups}
use Rattle.record_group.specs.Groupings.{Grouping, new_grouping, groups_from, IsPush, ArePushes}

-- a group that is given was the next to come
pub groups_from-push : (old new : Grouping) (record_bytes : List ℕ) (given : Option (List (List ℕ))) (records : List (List ℕ))
    → IsPush old record_bytes given new → groups_from old (record_bytes ∷ records) ≡ option_to_list given ++ groups_from new records
groups_from-push old new record_bytes None records h =
    cond-false _ _ _ h.0 ∙ ap (λ (grouping : Grouping). groups_from grouping records) (sym h.1)
groups_from-push old new record_bytes (Some given) records h =
    cond-true _ _ _ h.0
    ∙ ap (λ (group : List (List ℕ)). group ∷ groups_from (record old { group = record_bytes ∷ [] }) records) (sym h.1)
    ∙ ap (λ (grouping : Grouping). given ∷ groups_from grouping records) (sym h.2)

-- what a loop over records keeps: where the groups given and those to come are all, they are so after one more record
pub all_pushed : (all given : List (List (List ℕ))) (closed : Option (List (List ℕ))) (old new : Grouping) (record_bytes : List ℕ) (records : List (List ℕ))
    → all ≡ given ++ groups_from old (record_bytes ∷ records)
    → groups_from old (record_bytes ∷ records) ≡ option_to_list closed ++ groups_from new records
    → all ≡ (given ++ option_to_list closed) ++ groups_from new records
all_pushed all given closed old new record_bytes records so_far pushed =
    so_far
    ∙ ap (λ (rest : List (List (List ℕ))). given ++ rest) pushed
    ∙ sym (append_assoc given (option_to_list closed) (groups_from new records))

-- so they are after all records
all_pushes : (all given more : List (List (List ℕ))) (old new : Grouping) (records : List (List ℕ))
    → all ≡ given ++ groups_from old records → ArePushes old records more new → all ≡ (given ++ more) ++ groups_from new []
all_pushes all given more old new [] so_far (none, same) = rw (none, append-nil given, same) so_far
all_pushes all given more old new (record_bytes ∷ records) so_far (closed, next, rest, push, pushes, is) =
    rw (is, ← append_assoc given (option_to_list closed) rest)
    (all_pushes all (given ++ option_to_list closed) rest next new records
    (all_pushed all given closed old next record_bytes records so_far (groups_from-push old next record_bytes closed records push))
    pushes)

-- and from a new grouping on these are the groups of the records
pub groups-pushes : (records : List (List ℕ)) (size : ℕ) (every : Option ℕ) (given : List (List (List ℕ))) (last : Grouping)
    → ArePushes (new_grouping size every) records given last → groups records size every ≡ given ++ groups_from last []
unfolding groups
groups-pushes records size every given last pushes =
    all_pushes (groups_from (new_grouping size every) records) [] given (new_grouping size every) last records refl pushes
