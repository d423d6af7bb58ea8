-- The chunks of groups that are laid as records come.
use Rattle.std.proofs.Common.{◌≡◌, ◌≢◌, ◌∙◌, ℕ, ◌+◌, ◌-◌, ◌^◌, ◌≤◌, Bool, true, false, Option, Some, None, List, [], ◌∷◌, ◌++◌, length, drop, refl, sym, ap, subst, append-nil, append_assoc, length-append, arith}
use Rattle.std.proofs.Math.Dec.{eqb}
use Rattle.std.specs.Option.{IfSome, option_to_list}
use Rattle.std.proofs.lemmas.Bool.{cond_both, cond-true, eqb-true}
use Rattle.std.proofs.lemmas.Grind.{flat_map-append}
use Rattle.std.proofs.lemmas.List.{nil_from_length, map-append, take-append-drop}
use Rattle.record_io.specs.Outside.{TakesShort}
use Rattle.chunk_header.specs.Chunks.{ChunkValue}
use Rattle.chunk_header.specs.SimpleChunks.{simple_chunk}
use Rattle.meta_chunk.specs.Files.{laid_each}
use Rattle.ordered_writer.specs.Writers.{Writer}
use Rattle.record_group.specs.Groups.{closes_before, groups_after, groups}
use Rattle.record_group.specs.Groupings.{Grouping, IsPush, groups_from, new_grouping}
use Rattle.record_group.proofs.Grouping.{joined, joined-groups}
use Rattle.record_group.proofs.Pushes.{groups_from-push, all_pushed}
use Rattle.record_writer.specs.MadeFiles.{chunks_of_groups, reach_of}
use Rattle.record_writer.proofs.Reaches.{reach_of-push}
use Rattle.riegeli_c.specs.Laying.{AreLaidBy}
use Rattle.riegeli_c.specs.Writes.{groups_laid, records_laid}
use Rattle.riegeli_c.proofs.HeldGroups.{groups_after-some, laid-append, laid-cons}
use Rattle.riegeli_c.proofs.LaidBy.{laid-then, short-then, short-longer, position}

-- chunks of groups that closed were laid, and the groups of all records are these and those still to come; before the first record
-- none closed
pub record AreClosed (a b : Option (List ℕ)) (u v : Writer) (all : List (List (List ℕ))) (grouping : Grouping) (records : List (List ℕ)) : Type 0 where
  pub closed : List (List (List ℕ))
  pub laid : AreLaidBy a b u v (chunks_of_groups closed)
  pub groups_are : all ≡ closed ++ groups_from grouping records
  pub first : grouping.group ≡ [] → closed ≡ []

-- a group that closes isn't empty
closed-some : (size : ℕ) (every : Option ℕ) (group : List (List ℕ)) (record_bytes : List ℕ) → closes_before size every group record_bytes ≡ true → group ≢ []
closed-some size every group record_bytes closed = λ none.
    let no : false ≡ true = sym (ap (λ (g : List (List ℕ)). closes_before size every g record_bytes) none) ∙ closed in
    absurd (cc no)

given-some : (old new : Grouping) (record_bytes : List ℕ) (given : Option (List (List ℕ))) → IsPush old record_bytes given new → IfSome given (λ group. group ≢ [])
given-some old new record_bytes None push = tt
given-some old new record_bytes (Some group) push =
    λ none. closed-some old.size old.every old.group record_bytes push.0 (sym push.1 ∙ none)

-- behind a push a group is open
open-some : (old new : Grouping) (record_bytes : List ℕ) (given : Option (List (List ℕ))) → IsPush old record_bytes given new → new.group ≢ []
open-some old new record_bytes None push = λ none.
    let many : length (old.group ++ record_bytes ∷ []) ≡ 0 = ap length (sym (ap (λ (g : Grouping). g.group) push.1) ∙ none) in
    omega (arith, many, length-append old.group (record_bytes ∷ []))
open-some old new record_bytes (Some group) push = λ none.
    let one : record_bytes ∷ [] ≡ [] = sym (ap (λ (g : Grouping). g.group) push.2) ∙ none in
    cc one

-- one more record
pub closed-push : (a b c : Option (List ℕ)) (u v w : Writer) (all : List (List (List ℕ))) (old new : Grouping) (record_bytes : List ℕ) (records : List (List ℕ))
    (given : Option (List (List ℕ))) → AreClosed a b u v all old (record_bytes ∷ records) → IsPush old record_bytes given new
    → AreLaidBy b c v w (chunks_of_groups (option_to_list given)) → AreClosed a c u w all new records
closed-push a b c u v w all old new record_bytes records given h push laid = record {
  closed = h.closed ++ option_to_list given;
  laid = subst (λ (ks : List ChunkValue). AreLaidBy a c u w ks) (sym (map-append simple_chunk h.closed (option_to_list given)))
      (laid-then a b c u v w (chunks_of_groups h.closed) (chunks_of_groups (option_to_list given)) h.laid laid);
  groups_are = all_pushed all h.closed given old new record_bytes records h.groups_are (groups_from-push old new record_bytes given records push);
  first = λ none. absurd (open-some old new record_bytes given push none);
}

-- where the sink fails at one of the chunks, it took not all of those of the groups that close
pub closed-short : (a b c : Option (List ℕ)) (u v : Writer) (all : List (List (List ℕ))) (old : Grouping) (record_bytes : List ℕ) (records : List (List ℕ))
    → AreClosed a b u v all old (record_bytes ∷ records) → closes_before old.size old.every old.group record_bytes ≡ true
    → TakesShort b c (laid_each v.position (chunks_of_groups (old.group ∷ [])))
    → TakesShort a c (laid_each u.position (chunks_of_groups (groups_laid false all)))
closed-short a b c u v all old record_bytes records h closes short =
    let behind : List (List (List ℕ)) = groups_after old.size old.every (record_bytes ∷ []) records in
    let some : behind ≢ [] = groups_after-some old.size old.every (record_bytes ∷ []) records (λ is. cc is) in
    let is : groups_laid false all ≡ h.closed ++ (old.group ∷ groups_laid false behind) =
    ap (groups_laid false) (h.groups_are ∙ ap (λ (gs : List (List (List ℕ))). h.closed ++ gs) (cond-true _ _ _ closes))
    ∙ laid-append h.closed (old.group ∷ behind) (λ is. cc is)
    ∙ ap (λ (gs : List (List (List ℕ))). h.closed ++ gs) (laid-cons false old.group behind some) in
    let chunks : chunks_of_groups (groups_laid false all)
    ≡ (chunks_of_groups h.closed ++ chunks_of_groups (old.group ∷ [])) ++ chunks_of_groups (groups_laid false behind) =
    ap chunks_of_groups is
    ∙ map-append simple_chunk h.closed (old.group ∷ groups_laid false behind)
    ∙ sym (append_assoc (chunks_of_groups h.closed) (chunks_of_groups (old.group ∷ [])) (chunks_of_groups (groups_laid false behind))) in
    subst (λ (ks : List ChunkValue). TakesShort a c (laid_each u.position ks)) (sym chunks)
    (short-longer a c u.position (chunks_of_groups h.closed ++ chunks_of_groups (old.group ∷ [])) (chunks_of_groups (groups_laid false behind))
    (short-then a b c u v (chunks_of_groups h.closed) (chunks_of_groups (old.group ∷ [])) h.laid short))

-- once no record is left, all groups but the open one closed
closed-all : (all closed : List (List (List ℕ))) (grouping : Grouping) → all ≡ closed ++ groups_from grouping [] → (grouping.group ≡ [] → closed ≡ [])
    → closed ≡ groups_laid false all
closed-all all closed grouping is first =
    cond_both (eqb (length grouping.group) 0) [] (grouping.group ∷ [])
    (λ (gs : List (List (List ℕ))). all ≡ closed ++ gs → closed ≡ groups_laid false all)
    (λ e is.
    let none : closed ≡ [] = first (nil_from_length grouping.group (eqb-true (length grouping.group) 0 e)) in
    none ∙ sym (ap (groups_laid false) (is ∙ append-nil closed ∙ none)))
    (λ e is. sym (ap (groups_laid false) is ∙ laid-append closed (grouping.group ∷ []) (λ is. cc is) ∙ append-nil closed))
    is

pub closed-laid : (a b : Option (List ℕ)) (u v : Writer) (all : List (List (List ℕ))) (grouping : Grouping) → AreClosed a b u v all grouping []
    → AreLaidBy a b u v (chunks_of_groups (groups_laid false all)) × (all ≡ groups_laid false all ++ groups_from grouping [])
closed-laid a b u v all grouping h =
    let is : h.closed ≡ groups_laid false all = closed-all all h.closed grouping h.groups_are h.first in (
      subst (λ (gs : List (List (List ℕ))). AreLaidBy a b u v (chunks_of_groups gs)) is h.laid,
      h.groups_are ∙ ap (λ (gs : List (List (List ℕ))). gs ++ groups_from grouping []) is,
    )

-- how far the chunks reach
pub reach-push : (b c : Option (List ℕ)) (v w : Writer) (old new : Grouping) (record_bytes : List ℕ) (given : Option (List (List ℕ))) (bound now : ℕ)
    → IsPush old record_bytes given new → AreLaidBy b c v w (chunks_of_groups (option_to_list given)) → now + length record_bytes + 1 ≤ bound
    → reach_of v.position old bound ≤ 2 ^ 61 → reach_of w.position new now ≤ 2 ^ 61
reach-push b c v w old new record_bytes given bound now push laid lowers reach =
    omega (
      arith,
      reach_of-push old new record_bytes given v.position push (given-some old new record_bytes given push),
      position b c v w (chunks_of_groups (option_to_list given)) laid,
      lowers,
      reach,
    )

-- where no group is open, all are laid
pub none-held : (last : Bool) (all : List (List (List ℕ))) → all ≡ groups_laid false all ++ [] → groups_laid false all ≡ groups_laid last all
none-held false all is = refl
none-held true all is = sym (is ∙ append-nil (groups_laid false all))

-- those that closed are a front of all that are laid
pub laid-parts : (last : Bool) (all : List (List (List ℕ))) → (rest : List (List (List ℕ))) × (groups_laid last all ≡ groups_laid false all ++ rest)
laid-parts false all = ([], sym (append-nil (groups_laid false all)))
laid-parts true all = (drop (length all - 1) all, sym (take-append-drop (length all - 1) all))

-- the chunks of groups, and that of one more
pub chunks-push : (all laid : List (List (List ℕ))) (group : List (List ℕ)) → all ≡ laid ++ group ∷ []
    → chunks_of_groups laid ++ simple_chunk group ∷ [] ≡ chunks_of_groups all
chunks-push all laid group is = sym (ap chunks_of_groups is ∙ map-append simple_chunk laid (group ∷ []))

-- how many records are held
pub count-none : (last : Bool) (records : List (List ℕ)) (size : ℕ) (every : Option ℕ)
    → groups records size every ≡ groups_laid false (groups records size every) ++ [] → length (records_laid records size every last) ≡ length records
count-none last records size every is =
    ap (λ (gs : List (List (List ℕ))). length (joined gs)) (sym (none-held last (groups records size every) is) ∙ sym (append-nil _) ∙ sym is)
    ∙ ap length (joined-groups records size every)

pub count-held : (records group : List (List ℕ)) (size : ℕ) (every : Option ℕ)
    → groups records size every ≡ groups_laid false (groups records size every) ++ group ∷ []
    → length group + length (records_laid records size every false) ≡ length records
count-held records group size every is =
    let laid : List (List (List ℕ)) = groups_laid false (groups records size every) in
    omega (
      arith,
      ap length (joined-groups records size every),
      ap (λ (gs : List (List (List ℕ))). length (joined gs)) is,
      ap length (flat_map-append (λ (g : List (List ℕ)). g) laid (group ∷ [])),
      length-append (joined laid) (joined (group ∷ [])),
      length-append group [],
    )

-- the groups that come from a new grouping are those of the records
pub new-groups : (grouping : Grouping) (records : List (List ℕ)) → grouping ≡ new_grouping grouping.size grouping.every
    → groups_from grouping records ≡ groups records grouping.size grouping.every
unfolding groups
new-groups grouping records is = ap (λ (g : Grouping). groups_after grouping.size grouping.every g.group records) is
