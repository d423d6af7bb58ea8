-- The groups that were given of a feed's records, and those still to come.
use Rattle.std.proofs.Common.{◌≡◌, ◌≢◌, ◌∙◌, ℕ, Option, Some, None, List, [], ◌∷◌, ◌++◌, length, sym, ap, subst, refl}
use Rattle.std.proofs.Math.Dec.{eqb}
use Rattle.std.specs.Option.{IfSome, option_to_list}
use Rattle.std.proofs.lemmas.Bool.{cond_both, eqb-true}
use Rattle.std.proofs.lemmas.List.{map-append, nil_from_length}
use Rattle.chunk_header.specs.Chunks.{ChunkValue}
use Rattle.chunk_header.specs.SimpleChunks.{simple_chunk}
use Rattle.record_group.specs.Groups.{groups}
use Rattle.record_group.specs.Groupings.{Grouping, groups_from, IsPush}
use Rattle.record_group.proofs.Pushes.{groups_from-push, all_pushed}
use Rattle.record_writer.specs.declared.feed.Stop.{Stop}
use Rattle.record_writer.specs.Feeds.{Rest}
use Rattle.record_writer.specs.FeedSteps.{GivesRecord}
use Rattle.record_writer.specs.MadeFiles.{MadeFileValue, AreGiven, Lays, LaysFront, chunks_of_groups}
use Rattle.record_writer.proofs.Layings.{Lays-append, LaysFront-behind, LaysFront-longer}

-- after one more record
pub AreGiven-push : (a b c : Option Rest) (old between new : Grouping) (given : List (List (List ℕ))) (record_bytes : List ℕ) (closed : Option (List (List ℕ)))
    → AreGiven a b old between given → GivesRecord b c record_bytes → IsPush between record_bytes closed new
    → AreGiven a c old new (given ++ option_to_list closed)
AreGiven-push None b c old between new given record_bytes closed h gives push = tt
AreGiven-push (Some all) b c old between new given record_bytes closed (rest, told, of) gives push =
    let next : GivesRecord (Some rest) c record_bytes = subst (λ (o : Option Rest). GivesRecord o c record_bytes) told gives in
    let later : Rest = next.0 in (
      later,
      next.1,
      record {
        stop = of.stop ∙ ap (λ (r : Rest). r.stop) next.2;
        groups = all_pushed (groups_from old all.records) given closed between new record_bytes later.records
            (of.groups ∙ ap (λ (r : Rest). given ++ groups_from between r.records) next.2)
            (groups_from-push between new record_bytes closed later.records push);
      },
    )

-- where no record follows, the open group is the last
pub groups_from-last : (grouping : Grouping) → grouping.group ≢ [] → groups_from grouping [] ≡ grouping.group ∷ []
groups_from-last grouping some =
    let group = grouping.group in
    cond_both (eqb (length group) 0) [] (group ∷ []) (λ (gs : List (List (List ℕ))). gs ≡ group ∷ [])
    (λ empty. absurd (some (nil_from_length group (eqb-true (length group) 0 empty))))
    (λ _. refl)

-- where none is left and a stop follows, or none
pub AreGiven-ended : (a b : Option Rest) (old new : Grouping) (given : List (List (List ℕ))) (stop : Option Stop)
    → AreGiven a b old new given → IfSome b (λ rest. rest ≡ record { records = []; stop = stop })
    → IfSome a (λ all. (all.stop ≡ stop) × (groups_from old all.records ≡ given ++ groups_from new []))
AreGiven-ended None b old new given stop h ended = tt
AreGiven-ended (Some all) b old new given stop (rest, told, of) ended =
    let is : rest ≡ record { records = []; stop = stop } =
    subst (λ (o : Option Rest). IfSome o (λ r. r ≡ record { records = []; stop = stop })) told ended in (
      of.stop ∙ ap (λ (r : Rest). r.stop) is,
      of.groups ∙ ap (λ (r : Rest). given ++ groups_from new r.records) is,
    )

-- the chunks of all groups are those of the groups that were given, and those of the others
pub chunks_of_groups-all : (all given more : List (List (List ℕ))) → all ≡ given ++ more → chunks_of_groups given ++ chunks_of_groups more ≡ chunks_of_groups all
chunks_of_groups-all all given more is = sym (ap chunks_of_groups is ∙ map-append simple_chunk given more)

-- where the groups still to come were put, all were
pub Lays-all : (a b c : Option (List ℕ)) (s t u : MadeFileValue) (all given more : List (List (List ℕ))) → all ≡ given ++ more
    → Lays a b s t (chunks_of_groups given) → Lays b c t u (chunks_of_groups more) → Lays a c s u (chunks_of_groups all)
Lays-all a b c s t u all given more is first then =
    subst (λ (ks : List ChunkValue). Lays a c s u ks) (chunks_of_groups-all all given more is)
    (Lays-append a b c s t u (chunks_of_groups given) (chunks_of_groups more) first then)

pub LaysFront-all : {F : Type 0} (a b c : Option (List ℕ)) (s t u : MadeFileValue) (all given more : List (List (List ℕ))) → all ≡ given ++ more
    → Lays a b s t (chunks_of_groups given) → LaysFront F b c t u (chunks_of_groups more) → LaysFront F a c s u (chunks_of_groups all)
LaysFront-all {F} a b c s t u all given more is first then =
    subst (λ (ks : List ChunkValue). LaysFront F a c s u ks) (chunks_of_groups-all all given more is)
    (LaysFront-behind a b c s t u (chunks_of_groups given) (chunks_of_groups more) first then)

-- a front of the chunks of groups is one of theirs and of those of groups behind them
pub LaysFront-more : {F : Type 0} (a b : Option (List ℕ)) (s t : MadeFileValue) (given more : List (List (List ℕ)))
    → LaysFront F a b s t (chunks_of_groups given) → LaysFront F a b s t (chunks_of_groups (given ++ more))
LaysFront-more {F} a b s t given more front =
    subst (λ (ks : List ChunkValue). LaysFront F a b s t ks) (chunks_of_groups-all (given ++ more) given more refl)
    (LaysFront-longer a b s t (chunks_of_groups given) (chunks_of_groups more) front)

-- where the groups that a grouper gives at first are put, those of the records are
pub Lays-all_groups : (ra : Option Rest) (old : Grouping) (size : ℕ) (every : Option ℕ) (a b : Option (List ℕ)) (s t : MadeFileValue)
    → ((records : List (List ℕ)) → groups_from old records ≡ groups records size every)
    → IfSome ra (λ rest. Lays a b s t (chunks_of_groups (groups_from old rest.records)))
    → IfSome ra (λ rest. Lays a b s t (chunks_of_groups (groups rest.records size every)))
Lays-all_groups None old size every a b s t all laid = tt
Lays-all_groups (Some rest) old size every a b s t all laid =
    subst (λ (gs : List (List (List ℕ))). Lays a b s t (chunks_of_groups gs)) (all rest.records) laid

pub LaysFront-all_groups : (F : Type 0) (ra : Option Rest) (old : Grouping) (size : ℕ) (every : Option ℕ) (a b : Option (List ℕ)) (s t : MadeFileValue)
    → ((records : List (List ℕ)) → groups_from old records ≡ groups records size every)
    → IfSome ra (λ rest. LaysFront F a b s t (chunks_of_groups (groups_from old rest.records)))
    → IfSome ra (λ rest. LaysFront F a b s t (chunks_of_groups (groups rest.records size every)))
LaysFront-all_groups F None old size every a b s t all front = tt
LaysFront-all_groups F (Some rest) old size every a b s t all front =
    subst (λ (gs : List (List (List ℕ))). LaysFront F a b s t (chunks_of_groups gs)) (all rest.records) front

-- what holds of whatever a feed has left
pub whatever_is_left : (ra : Option Rest) (P : Rest → Type 0) → ((rest : Rest) → P rest) → IfSome ra P
whatever_is_left None P h = tt
whatever_is_left (Some rest) P h = h rest
