-- The groups of records: that they are the records again, what each keeps, and how much it costs.
use Rattle.std.proofs.Common.{◌≡◌, ◌∙◌, ℕ, ◌+◌, ◌^◌, ◌≤◌, ◌⊎◌, false, true, not, ◌||◌, Option, Some, None, List, [], ◌∷◌, ◌++◌, length, ltb, refl, sym, ap, subst, inl, inr, arith}
use Rattle.std.proofs.Math.Dec.{eqb}
use Rattle.std.specs.Option.{IfSome}
use Rattle.std.specs.List.{AllByRecursion, flat_map}
use Rattle.std.proofs.lemmas.Bool.{cond_both, and_cases, and_parts, or_parts, not-true, not-false, eqb-true, eqb-false, ltb-false}
use Rattle.std.proofs.lemmas.List.{append_assoc, append-nil, nil_from_length, length-append}
use Rattle.std.proofs.lemmas.List.Sums.{sum_by_push}
use Rattle.simple_chunk.specs.Costs.{cost, cost_of}
use Rattle.record_group.specs.Groups.{is_full, closes_before, groups_after, groups}
use Rattle.record_group.specs.Groupings.{KeepsLimits}
use Rattle.record_group.specs.Records.{IsRecord, AreRecords}

-- the records of groups, joined again
abbrev pub joined : List (List (List ℕ)) → List (List ℕ)
joined = flat_map (λ group. group)

-- what holds of the groups that follow an open group: that group closes before the next record, or takes it
step : (P : List (List (List ℕ)) → Type 0) (size : ℕ) (every : Option ℕ) (group : List (List ℕ)) (record_bytes : List ℕ) (records : List (List ℕ))
    → (closes_before size every group record_bytes ≡ true → P (group ∷ groups_after size every (record_bytes ∷ []) records))
    → (closes_before size every group record_bytes ≡ false → P (groups_after size every (group ++ record_bytes ∷ []) records))
    → P (groups_after size every group (record_bytes ∷ records))
step P size every group record_bytes records closed stays =
    cond_both (closes_before size every group record_bytes) _ _ P closed stays

-- and of the last one: it is left out where it is empty
last : (P : List (List (List ℕ)) → Type 0) (size : ℕ) (every : Option ℕ) (group : List (List ℕ))
    → (group ≡ [] → P []) → (¬ (group ≡ []) → P (group ∷ [])) → P (groups_after size every group [])
last P size every group empty some =
    cond_both (eqb (length group) 0) [] (group ∷ []) P
    (λ e. empty (nil_from_length group (eqb-true (length group) 0 e)))
    (λ e. some (λ none. eqb-false (length group) 0 e (ap length none)))

joined-groups_after : (size : ℕ) (every : Option ℕ) (group records : List (List ℕ)) → joined (groups_after size every group records) ≡ group ++ records
joined-groups_after size every group [] =
    last (λ gs. joined gs ≡ group ++ []) size every group (λ empty. sym (append-nil group ∙ empty)) (λ some. refl)
joined-groups_after size every group (record_bytes ∷ records) =
    step (λ gs. joined gs ≡ group ++ record_bytes ∷ records) size every group record_bytes records
    (λ closed. ap (λ (rest : List (List ℕ)). group ++ rest) (joined-groups_after size every (record_bytes ∷ []) records))
    (λ stays. joined-groups_after size every (group ++ record_bytes ∷ []) records ∙ append_assoc group (record_bytes ∷ []) records)

-- no record is lost, added or moved
pub joined-groups : (records : List (List ℕ)) (size : ℕ) (every : Option ℕ) → joined (groups records size every) ≡ records
unfolding groups
joined-groups records size every = joined-groups_after size every [] records

-- an open group that stays open before a record is empty, or has room for it
record HasRoom (size : ℕ) (every : Option ℕ) (group : List (List ℕ)) (record_bytes : List ℕ) : Type 0 where
  cost : cost_of group + cost record_bytes ≤ size
  count : is_full every (length group) ≡ false

stays_open : (size : ℕ) (every : Option ℕ) (group : List (List ℕ)) (record_bytes : List ℕ) → closes_before size every group record_bytes ≡ false
    → (group ≡ []) ⊎ HasRoom size every group record_bytes
stays_open size every group record_bytes stays =
    elim (and_cases (not (eqb (length group) 0)) (ltb size (cost_of group + cost record_bytes) || is_full every (length group)) stays) [
      | inl empty ↦ inl (nil_from_length group (eqb-true (length group) 0 (not-false (eqb (length group) 0) empty)))
      | inr room ↦
          let parts = or_parts (ltb size (cost_of group + cost record_bytes)) (is_full every (length group)) room in
          inr (record { cost = ltb-false size (cost_of group + cost record_bytes) parts.0; count = parts.1 })
    ]

-- a group that closes before a record is not empty
pub closed_some : (size : ℕ) (every : Option ℕ) (group : List (List ℕ)) (record_bytes : List ℕ) → closes_before size every group record_bytes ≡ true
    → ¬ (group ≡ [])
closed_some size every group record_bytes closed none =
    let parts = and_parts (not (eqb (length group) 0)) (ltb size (cost_of group + cost record_bytes) || is_full every (length group)) closed in
    eqb-false (length group) 0 (not-true (eqb (length group) 0) parts.0) (ap length none)

-- a group of records that costs at most this: no more than the size, or one record alone
pub record IsGroup (group : List (List ℕ)) : Type 0 where
  pub records : AreRecords group
  pub costs : cost_of group ≤ 2 ^ 24 + 8

AreRecords-push : (group : List (List ℕ)) (record_bytes : List ℕ) → AreRecords group → IsRecord record_bytes → AreRecords (group ++ record_bytes ∷ [])
AreRecords-push [] record_bytes h g = (g, tt)
AreRecords-push (first ∷ group) record_bytes h g = (h.0, AreRecords-push group record_bytes h.1 g)

-- a record that does not close the group goes into it
grown : (size : ℕ) (every : Option ℕ) (group : List (List ℕ)) (record_bytes : List ℕ) → size ≤ 2 ^ 24 → IsRecord record_bytes
    → (group ≡ []) ⊎ HasRoom size every group record_bytes → cost_of group + cost record_bytes ≤ 2 ^ 24 + 8
grown size every group record_bytes small h (inl empty) =
    let free : cost_of group ≡ 0 = ap cost_of empty in
    omega (arith, h.at_most)
grown size every group record_bytes small h (inr room) = omega (arith, room.cost)

groups_after-are : (size : ℕ) (every : Option ℕ) (group records : List (List ℕ)) → size ≤ 2 ^ 24 → IsGroup group → AreRecords records
    → AllByRecursion IsGroup (groups_after size every group records)
groups_after-are size every group [] small h each =
    last (AllByRecursion IsGroup) size every group (λ _. tt) (λ _. (h, tt))
groups_after-are size every group (record_bytes ∷ records) small h each =
    step (AllByRecursion IsGroup) size every group record_bytes records
    (λ closed. (
      h,
      groups_after-are size every (record_bytes ∷ []) records small
          (record { records = (each.0, tt); costs = omega (arith, each.0.at_most) })
          each.1,
    ))
    (λ stays. groups_after-are size every (group ++ record_bytes ∷ []) records small
    (record {
      records = AreRecords-push group record_bytes h.records each.0;
      costs = omega (arith, sum_by_push cost group record_bytes, grown size every group record_bytes small each.0 (stays_open size every group record_bytes stays));
    })
    each.1)

-- each group of records is one, for a size of at most 2 ^ 24
pub groups-are : (records : List (List ℕ)) (size : ℕ) (every : Option ℕ) → size ≤ 2 ^ 24 → AreRecords records → AllByRecursion IsGroup (groups records size every)
unfolding groups
groups-are records size every small each =
    let none : IsGroup [] = record { records = tt; costs = omega arith } in
    groups_after-are size every [] records small none each

-- what an open group keeps, which may be empty
record IsOpen (size : ℕ) (every : Option ℕ) (group : List (List ℕ)) : Type 0 where
  count : IfSome every (λ most. 1 ≤ most → length group ≤ most)
  costs : 2 ≤ length group → cost_of group ≤ size

keeps : (size : ℕ) (every : Option ℕ) (group : List (List ℕ)) → IsOpen size every group → ¬ (group ≡ []) → KeepsLimits size every group
keeps size every group h some = record { some = some; count = h.count; costs = h.costs }

-- where there are fewer records than are wanted, there is a place for one more
room_for_one : (every : Option ℕ) (count : ℕ) → IfSome every (λ most. 1 ≤ most → count ≤ most) → is_full every count ≡ false
    → IfSome every (λ most. 1 ≤ most → count + 1 ≤ most)
room_for_one None count h room = tt
room_for_one (Some most) count h room = λ wanted. omega (arith, h wanted, eqb-false count most room)

-- a record alone passes no limit
alone_count : (every : Option ℕ) → IfSome every (λ most. 1 ≤ most → 1 ≤ most)
alone_count None = tt
alone_count (Some most) = λ wanted. wanted

alone : (size : ℕ) (every : Option ℕ) (record_bytes : List ℕ) → IsOpen size every (record_bytes ∷ [])
alone size every record_bytes = record { count = alone_count every; costs = λ two. absurd (omega arith) }

-- nor does a group that has room for the record
pushed : (size : ℕ) (every : Option ℕ) (group : List (List ℕ)) (record_bytes : List ℕ) → IsOpen size every group
    → (group ≡ []) ⊎ HasRoom size every group record_bytes → IsOpen size every (group ++ record_bytes ∷ [])
pushed size every group record_bytes h (inl empty) =
    subst (λ (g : List (List ℕ)). IsOpen size every (g ++ record_bytes ∷ [])) (sym empty) (alone size every record_bytes)
pushed size every group record_bytes h (inr room) = record {
  count = subst (λ (n : ℕ). IfSome every (λ most. 1 ≤ most → n ≤ most))
      (sym (length-append group (record_bytes ∷ [])))
      (room_for_one every (length group) h.count room.count);
  costs = λ two. omega (arith, sum_by_push cost group record_bytes, room.cost);
}

groups_after-keep : (size : ℕ) (every : Option ℕ) (group records : List (List ℕ)) → IsOpen size every group
    → AllByRecursion (KeepsLimits size every) (groups_after size every group records)
groups_after-keep size every group [] h =
    last (AllByRecursion (KeepsLimits size every)) size every group (λ _. tt) (λ some. (keeps size every group h some, tt))
groups_after-keep size every group (record_bytes ∷ records) h =
    step (AllByRecursion (KeepsLimits size every)) size every group record_bytes records
    (λ closed. (
      keeps size every group h (closed_some size every group record_bytes closed),
      groups_after-keep size every (record_bytes ∷ []) records (alone size every record_bytes),
    ))
    (λ stays. groups_after-keep size every (group ++ record_bytes ∷ []) records
    (pushed size every group record_bytes h (stays_open size every group record_bytes stays)))

none_count : (every : Option ℕ) → IfSome every (λ most. 1 ≤ most → 0 ≤ most)
none_count None = tt
none_count (Some most) = λ wanted. omega arith

-- each group keeps the limits
pub groups-keep : (records : List (List ℕ)) (size : ℕ) (every : Option ℕ) → AllByRecursion (KeepsLimits size every) (groups records size every)
unfolding groups
groups-keep records size every =
    groups_after-keep size every [] records (record { count = none_count every; costs = λ two. absurd (omega arith) })

-- a record alone is a group
pub groups-alone : (record_bytes : List ℕ) (size : ℕ) (every : Option ℕ) → groups (record_bytes ∷ []) size every ≡ (record_bytes ∷ []) ∷ []
unfolding groups
groups-alone record_bytes size every = refl
