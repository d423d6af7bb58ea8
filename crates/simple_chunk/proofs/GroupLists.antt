-- Groups of records that lie in one list: one more record, one more group, and one of the groups.
use Rattle.std.proofs.Common.{◌≡◌, ◌∙◌, ℕ, ◌+◌, ◌^◌, ◌<◌, ◌≤◌, List, [], ◌∷◌, ◌++◌, length, drop, get_or, Some, sym, ap, subst, arith, slice_range}
use Rattle.std.specs.Prelude.{slice_get}
use Rattle.std.proofs.lemmas.List.{length-append, drop_all, drop-append-le, take_rest}
use Rattle.simple_chunk.specs.Records.{parts_from, last_end, record_begin, AreEnds}
use Rattle.simple_chunk.specs.RecordGroups.{AreHeldCuts, GroupsValue, cut_at, value_of}
use Rattle.simple_chunk.proofs.Parts.{AreEnds-at, AreEnds-push, last_end-push, length-parts_from, parts_from-append, parts_from-push, slice_get-parts_from}

-- one more record goes behind the groups
pub record_pushed : (cuts : List ℕ) (records : List (List ℕ)) (rec : List ℕ) → AreHeldCuts cuts (length records)
    → cut_at cuts (records ++ rec ∷ []) ≡ value_of (cut_at cuts records).groups ((cut_at cuts records).ungrouped ++ rec ∷ [])
record_pushed cuts records rec h =
    ap (λ groups. value_of groups (drop (last_end 0 cuts) (records ++ rec ∷ []))) (parts_from-append 0 cuts records (rec ∷ []) (last_end 0 cuts) h.order h.within)
    ∙ ap (value_of (parts_from 0 cuts records)) (drop-append-le (last_end 0 cuts) records (rec ∷ []) h.within)

-- the records behind the groups become one
pub record IsClosed (cuts : List ℕ) (records : List (List ℕ)) (new_cuts : List ℕ) : Type 0 where
  pub held : AreHeldCuts new_cuts (length records)
  pub value : cut_at new_cuts records ≡ value_of ((cut_at cuts records).groups ++ (cut_at cuts records).ungrouped ∷ []) []

pub group_closed : (cuts : List ℕ) (records : List (List ℕ)) (new_cuts : List ℕ) → AreHeldCuts cuts (length records)
    → new_cuts ≡ cuts ++ length records ∷ [] → length cuts + 1 < 2 ^ 32 → IsClosed cuts records new_cuts
group_closed cuts records new_cuts h is few =
    let begin = last_end 0 cuts in
    let last : last_end 0 new_cuts ≡ length records = ap (last_end 0) is ∙ last_end-push 0 cuts (length records) in
    let groups : parts_from 0 new_cuts records ≡ parts_from 0 cuts records ++ drop begin records ∷ [] =
    ap (λ cs. parts_from 0 cs records) is
    ∙ parts_from-push 0 cuts records (length records)
    ∙ ap (λ part. parts_from 0 cuts records ++ part ∷ []) (take_rest records begin) in
    record {
      held = record {
        order = subst (AreEnds 0 new_cuts) (sym last)
            (subst (λ cs. AreEnds 0 cs (length records)) (sym is) (AreEnds-push 0 cuts begin (length records) h.order h.within));
        within = omega (arith, last);
        few = omega (arith, ap length is, length-append cuts (length records ∷ []), few);
      };
      value =
          ap (λ gs. value_of gs (drop (last_end 0 new_cuts) records)) groups
          ∙ ap (value_of (parts_from 0 cuts records ++ drop begin records ∷ [])) (drop_all (last_end 0 new_cuts) records (omega (arith, last)));
    }

-- there are as many groups as cuts
pub length-groups : (cuts : List ℕ) (records : List (List ℕ)) (g : GroupsValue) → cut_at cuts records ≡ g → length g.groups ≡ length cuts
length-groups cuts records g view = ap (λ v. length v.groups) (sym view) ∙ length-parts_from 0 cuts records

-- one of the groups is what lies between two cuts
pub record IsGroup (records : List (List ℕ)) (groups : List (List (List ℕ))) (i from to : ℕ) : Type 0 where
  pub order : from ≤ to
  pub within : to ≤ length records
  pub is : slice_get groups i ≡ Some (slice_range records from to)

pub group_at : (cuts : List ℕ) (records : List (List ℕ)) (g : GroupsValue) (i from to : ℕ) → cut_at cuts records ≡ g
    → AreHeldCuts cuts (length records) → i < length cuts → from ≡ record_begin 0 cuts i → to ≡ get_or cuts i 0
    → IsGroup records g.groups i from to
group_at cuts records g i from to view h few begins ends_at =
    let at = AreEnds-at 0 cuts (last_end 0 cuts) i h.order few in
    record {
      order = omega (arith, at.0, begins, ends_at);
      within = omega (arith, at.1, ends_at, h.within);
      is = rw (← view, begins, ends_at) (slice_get-parts_from 0 cuts records i few);
    }
