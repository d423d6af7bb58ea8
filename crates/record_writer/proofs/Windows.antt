-- Groups that are taken of a feed, and then put together.
use Rattle.std.proofs.Common.{◌≡◌, ◌∙◌, ℕ, ◌+◌, ◌<◌, ◌≤◌, Bool, Option, Some, None, Result, Ok, Err, List, [], ◌∷◌, ◌++◌, length, take, drop, get_or, IfSome, OnOk, refl, sym, ap, subst, inl, inr, append_assoc, add-one, arith, rules}
use Rattle.std.proofs.Math.Seq.{take-suc}
use Rattle.std.proofs.lemmas.Option.{none-some}
use Rattle.std.proofs.lemmas.Result.{IfOk-at_ok}
use Rattle.std.proofs.lemmas.List.{append-nil, map-append, take-append-drop}
use Rattle.record_io.specs.Outside.{Rose}
use Rattle.record_io.specs.Calls.{OnlyCounts}
use Rattle.chunk_header.specs.Chunks.{ChunkValue}
use Rattle.chunk_header.specs.SimpleChunks.{simple_chunk}
use Rattle.meta_chunk.specs.Laid.{end_of_chunk}
use Rattle.meta_chunk.specs.Files.{end_of_chunks}
use Rattle.meta_chunk.proofs.Joins.{end_of_chunks-append, end_of_chunks_past}
use Rattle.record_group.specs.Groupings.{Grouping, groups_from}
use Rattle.record_writer.specs.declared.cut_off.CutOff.{CutOff}
use Rattle.record_writer.specs.declared.cut_off.CutOff.TheVariants as cut
use Rattle.record_writer.specs.declared.feed.Stop.{Stop}
use Rattle.record_writer.specs.declared.group_taker.FeedPart.{FeedPart}
use Rattle.record_writer.specs.declared.group_taker.FeedPart.TheVariants.{Window, All}
use Rattle.record_writer.specs.Feeds.{Rest}
use Rattle.record_writer.specs.FeedSteps.{nothing_left}
use Rattle.record_writer.specs.MadeFiles.{MadeFileValue, AreGiven, Lays, LaysFront, chunks_of_groups, reach_of}
use Rattle.record_writer.specs.Windows.{AreFront, AreTaken, TakesGroups}
use Rattle.record_writer.proofs.Layings.{Lays-append, LaysFront-behind, LaysFront-longer}
use Rattle.record_writer.proofs.Given.{AreGiven-ended, chunks_of_groups-all}

-- what is said of a call that didn't fail
pub where_done : {X E P : Type 0} (result : Result X E) (x : X) → result ≡ Ok x → OnOk result P → P
where_done {X} {E} {P} result x is h = IfOk-at_ok (λ _. P) is h

-- what cut off one call cut off another that hands it on
pub handed_on : {X Y : Type 0} (end other : CutOff) → ◌≡◌ {A = Result X CutOff} (Err end) (Err other) → ◌≡◌ {A = Result Y CutOff} (Err end) (Err other)
handed_on end other told = let same : end ≡ other = cc told in ap Err same

-- what holds anyway holds where a call didn't fail
pub OnOk-any : {X E P : Type 0} (result : Result X E) → P → OnOk result P
OnOk-any (Ok x) h = h
OnOk-any (Err e) h = tt

-- the chunks of the groups up to one, and that one's behind them
chunks-next : (groups : List (List (List ℕ))) (i : ℕ) (group : List (List ℕ)) → i < length groups → group ≡ get_or groups i group
    → chunks_of_groups (take i groups) ++ simple_chunk group ∷ [] ≡ chunks_of_groups (take (i + 1) groups)
chunks-next groups i group within is =
    rw add-one
    (sym (map-append simple_chunk (take i groups) (group ∷ []))
    ∙ ap (λ (group : List (List ℕ)). chunks_of_groups (take i groups ++ group ∷ [])) is
    ∙ ap chunks_of_groups (sym (take-suc groups i group within)))

-- the chunks of the first groups, and those of the others
chunks-split : (groups : List (List (List ℕ))) (i : ℕ) → chunks_of_groups (take i groups) ++ chunks_of_groups (drop i groups) ≡ chunks_of_groups groups
chunks-split groups i = chunks_of_groups-all groups (take i groups) (drop i groups) (sym (take-append-drop i groups))

-- it ends within them all
pub chunk-within : (place next limit : ℕ) (groups : List (List (List ℕ))) (i : ℕ) (group : List (List ℕ)) → i < length groups → group ≡ get_or groups i group
    → next ≡ end_of_chunks place (chunks_of_groups (take i groups)) → end_of_chunks place (chunks_of_groups groups) ≤ limit
    → end_of_chunk next (simple_chunk group) ≤ limit
chunk-within place next limit groups i group within is at reach =
    omega (
      arith,
      reach,
      ap (λ (place : ℕ). end_of_chunk place (simple_chunk group)) at,
      end_of_chunks-append place (chunks_of_groups (take i groups)) (simple_chunk group ∷ []),
      ap (λ (ks : List ChunkValue). end_of_chunks place ks) (chunks-next groups i group within is),
      end_of_chunks-append place (chunks_of_groups (take (i + 1) groups)) (chunks_of_groups (drop (i + 1) groups)),
      ap (λ (ks : List ChunkValue). end_of_chunks place ks) (chunks-split groups (i + 1)),
      end_of_chunks_past (end_of_chunks place (chunks_of_groups (take (i + 1) groups))) (chunks_of_groups (drop (i + 1) groups)),
    )

-- where those up to it were put, so are those up to the next
pub Lays-chunk : (a b c : Option (List ℕ)) (s t u : MadeFileValue) (groups : List (List (List ℕ))) (i : ℕ) (group : List (List ℕ))
    → i < length groups → group ≡ get_or groups i group
    → Lays a b s t (chunks_of_groups (take i groups)) → Lays b c t u (simple_chunk group ∷ []) → Lays a c s u (chunks_of_groups (take (i + 1) groups))
Lays-chunk a b c s t u groups i group within is first then =
    subst (λ (ks : List ChunkValue). Lays a c s u ks) (chunks-next groups i group within is)
    (Lays-append a b c s t u (chunks_of_groups (take i groups)) (simple_chunk group ∷ []) first then)

-- or a front of them all, where it failed
pub LaysFront-chunk : {F : Type 0} (a b c : Option (List ℕ)) (s t u : MadeFileValue) (groups : List (List (List ℕ))) (i : ℕ) (group : List (List ℕ))
    → i < length groups → group ≡ get_or groups i group
    → Lays a b s t (chunks_of_groups (take i groups)) → LaysFront F b c t u (simple_chunk group ∷ []) → LaysFront F a c s u (chunks_of_groups groups)
LaysFront-chunk {F} a b c s t u groups i group within is first then =
    subst (λ (ks : List ChunkValue). LaysFront F a c s u ks) (chunks-split groups (i + 1))
    (LaysFront-longer a c s u (chunks_of_groups (take (i + 1) groups)) (chunks_of_groups (drop (i + 1) groups))
    (subst (λ (ks : List ChunkValue). LaysFront F a c s u ks) (chunks-next groups i group within is)
    (LaysFront-behind a b c s t u (chunks_of_groups (take i groups)) (simple_chunk group ∷ []) first then)))

-- the groups that were given, and those given behind them
AreGiven-append : (a b c : Option Rest) (old between new : Grouping) (given more : List (List (List ℕ)))
    → AreGiven a b old between given → AreGiven b c between new more → AreGiven a c old new (given ++ more)
AreGiven-append None b c old between new given more h then = tt
AreGiven-append (Some all) b c old between new given more (rest, told, of) then =
    let next : AreGiven (Some rest) c between new more = subst (λ (o : Option Rest). AreGiven o c between new more) told then in (
      next.0,
      next.1,
      record {
        stop = of.stop ∙ next.2.stop;
        groups = of.groups
            ∙ ap (λ (gs : List (List (List ℕ))). given ++ gs) next.2.groups
            ∙ sym (append_assoc given more (groups_from new next.0.records));
      },
    )

-- or none
pub AreGiven-no_more : (a b c : Option Rest) (old between new : Grouping) (given : List (List (List ℕ)))
    → AreGiven a b old between given → AreGiven b c between new [] → AreGiven a c old new given
AreGiven-no_more a b c old between new given h then =
    subst (λ (groups : List (List (List ℕ))). AreGiven a c old new groups) (append-nil given) (AreGiven-append a b c old between new given [] h then)

-- they are a front of all
pub AreGiven-front : (a b : Option Rest) (old new : Grouping) (given : List (List (List ℕ))) → AreGiven a b old new given → AreFront a old given
AreGiven-front None b old new given h = tt
AreGiven-front (Some all) b old new given (rest, told, of) = (groups_from new rest.records, of.groups)

-- as are those that were taken, however that ended
AreTaken-front : (t : Result FeedPart CutOff) (a b : Option Rest) (old new : Grouping) (given : List (List (List ℕ))) → AreTaken t a b old new given → AreFront a old given
AreTaken-front (Ok Window) a b old new given h = AreGiven-front a b old new given h
AreTaken-front (Ok (All stop)) None b old new given h = tt
AreTaken-front (Ok (All stop)) (Some all) b old new given h = ([], h.1 ∙ sym (append-nil given))
AreTaken-front (Err end) a b old new given h = h

-- so where a front of their chunks was put, that is one of all
pub LaysFront-taken : {F : Type 0} (t : Result FeedPart CutOff) (ra rb : Option Rest) (old new : Grouping) (given : List (List (List ℕ))) (a b : Option (List ℕ)) (s u : MadeFileValue)
    → AreTaken t ra rb old new given → LaysFront F a b s u (chunks_of_groups given)
    → IfSome ra (λ rest. LaysFront F a b s u (chunks_of_groups (groups_from old rest.records)))
LaysFront-taken t None rb old new given a b s u taken front = tt
LaysFront-taken {F} t (Some all) rb old new given a b s u taken front =
    let rest = AreTaken-front t (Some all) rb old new given taken in
    subst (λ (ks : List ChunkValue). LaysFront F a b s u ks)
    (chunks_of_groups-all (groups_from old all.records) given rest.0 rest.1)
    (LaysFront-longer a b s u (chunks_of_groups given) (chunks_of_groups rest.0) front)

-- and where the chunks of all groups were put, so were those of the feed's records
pub Lays-taken : (stop : Option Stop) (ra rb : Option Rest) (old new : Grouping) (given : List (List (List ℕ))) (a b : Option (List ℕ)) (s u : MadeFileValue)
    → AreTaken (Ok (All stop)) ra rb old new given → Lays a b s u (chunks_of_groups given)
    → IfSome ra (λ rest. Lays a b s u (chunks_of_groups (groups_from old rest.records)))
Lays-taken stop None rb old new given a b s u taken laid = tt
Lays-taken stop (Some all) rb old new given a b s u taken laid = subst (λ (gs : List (List (List ℕ))). Lays a b s u (chunks_of_groups gs)) (sym taken.1) laid

-- a number that falls with each window
abbrev pub to_take : Result FeedPart CutOff → ℕ → ℕ
to_take (Ok Window) bound = bound + 1
to_take (Ok (All stop)) bound = 0
to_take (Err end) bound = 0

-- what holds of whatever a feed has left behind a window, where it shows that
IfSome-given : (a b : Option Rest) (old new : Grouping) (given : List (List (List ℕ))) (P : Type 0)
    → AreGiven a b old new given → IfSome b (λ _. P) → IfSome a (λ _. P)
IfSome-given None b old new given P h p = tt
IfSome-given (Some all) b old new given P (rest, told, of) p = subst (λ (o : Option Rest). IfSome o (λ _. P)) told p

-- groups that were taken behind a window
AreTaken-append : (t : Result FeedPart CutOff) (a b c : Option Rest) (old between new : Grouping) (given more : List (List (List ℕ)))
    → AreGiven a b old between given → AreTaken t b c between new more → AreTaken t a c old new (given ++ more)
AreTaken-append (Ok Window) a b c old between new given more h then = AreGiven-append a b c old between new given more h then
AreTaken-append (Ok (All stop)) None b c old between new given more h then = tt
AreTaken-append (Ok (All stop)) (Some all) b c old between new given more (rest, told, of) then =
    let ended = subst (λ (o : Option Rest). IfSome o (λ r. (r.stop ≡ stop) × (groups_from between r.records ≡ more))) told then in (
      of.stop ∙ ended.0,
      of.groups ∙ ap (λ (gs : List (List (List ℕ))). given ++ gs) ended.1,
    )
AreTaken-append (Err end) None b c old between new given more h then = tt
AreTaken-append (Err end) (Some all) b c old between new given more (rest, told, of) then =
    let front = subst (λ (o : Option Rest). AreFront o between more) told then in (
      front.0,
      of.groups
          ∙ ap (λ (gs : List (List (List ℕ))). given ++ gs) front.1
          ∙ sym (append_assoc given more front.0),
    )

-- a count that rose behind one that didn't fall
Rose-behind : (l m n : ℕ) → l ≤ m → Rose m n → Rose l n
Rose-behind l m n less (inl rose) = inl (omega (arith, less, rose))
Rose-behind l m n less (inr full) = inr full

-- an object that was used, without a fault that is told of, and then again
pub OnlyCounts-behind : {M L : Type 0} (lent : M → L) (faults : M → ℕ) (P Q : Type 0) (a b c : M) → OnlyCounts lent faults P a b → OnlyCounts lent faults Q b c
    → OnlyCounts lent faults Q a c
OnlyCounts-behind lent faults P Q a b c first then = record {
  same_lent = then.same_lent ∙ first.same_lent;
  cause = λ fails. Rose-behind (faults a) (faults b) (faults c) first.never_falls (then.cause fails);
  never_falls = omega (arith, first.never_falls, then.never_falls);
  small = λ below. then.small (first.small below);
}

-- all was taken, and this stop follows
abbrev all_taken : Option Stop → Result FeedPart CutOff
all_taken stop = Ok (All stop)

stop_in : Result FeedPart CutOff → Option Stop
stop_in (Ok Window) = None
stop_in (Ok (All stop)) = stop
stop_in (Err end) = None

-- at its end without a stop a feed has nothing left
drained-at_end : (a b c : Option Rest) (old between : Grouping) (given : List (List (List ℕ))) (stop : Option Stop)
    → AreGiven a b old between given → IfSome b (λ r. r ≡ record { records = []; stop = stop }) → (stop ≡ None → c ≡ b) → stop ≡ None
    → IfSome a (λ _. c ≡ Some nothing_left)
drained-at_end None b c old between given stop before ended kept none = tt
drained-at_end (Some all) b c old between given None (rest, told, of) ended kept none =
    kept refl ∙ told ∙ ap Some (subst (λ (o : Option Rest). IfSome o (λ r. r ≡ nothing_left)) told ended)
drained-at_end (Some all) b c old between given (Some stop) before ended kept none = absurd (none-some stop (sym none))

-- groups that were put, those that are held, and more behind them
groups-moved : (given made taken more held : List (List (List ℕ))) → held ≡ taken ++ more → (given ++ (made ++ taken)) ++ more ≡ (given ++ made) ++ held
groups-moved given made taken more held is =
    append_assoc given (made ++ taken) more
    ∙ ap (λ (gs : List (List (List ℕ))). given ++ gs) (append_assoc made taken more ∙ ap (λ (gs : List (List (List ℕ))). made ++ gs) (sym is))
    ∙ sym (append_assoc given made held)

module _ (L N : Type 0) (rest : L → Option Rest) (bound : L → ℕ) (going : L → Bool) (origin : L → N) (faults : L → ℕ) where
  -- a window of groups, and what was taken behind it
  pub TakesGroups-append : (a b c : L) (old between new : Grouping) (given more : List (List (List ℕ))) (t : Result FeedPart CutOff)
      → TakesGroups rest bound going origin faults a b old between given (Ok Window) → TakesGroups rest bound going origin faults b c between new more t
      → TakesGroups rest bound going origin faults a c old new (given ++ more) t
  TakesGroups-append a b c old between new given more t first then = record {
    given_of = AreTaken-append t (rest a) (rest b) (rest c) old between new given more first.given_of then.given_of;
    may_go_on = then.may_go_on;
    lowers = λ goes_on. omega (arith, first.lowers refl, then.lowers goes_on);
    in_reach = λ place.
        omega (
          arith,
          first.in_reach place,
          then.in_reach (end_of_chunks place (chunks_of_groups given)),
          end_of_chunks-append place (chunks_of_groups given) (chunks_of_groups more),
          ap (λ (ks : List ChunkValue). end_of_chunks place ks) (chunks_of_groups-all (given ++ more) given more refl),
        );
    drained = λ ended. IfSome-given (rest a) (rest b) old between given (rest c ≡ Some nothing_left) first.given_of (then.drained ended);
    counts = OnlyCounts-behind origin faults (Ok Window ≡ Err cut.Input) (t ≡ Err cut.Input) a b c first.counts then.counts;
    no_sink = then.no_sink;
  }

  -- where those that were made are put, and what was taken is held behind the others
  pub TakesGroups-moved : (a b c : L) (old between new : Grouping) (given made taken more held : List (List (List ℕ))) (t : Result FeedPart CutOff) → held ≡ taken ++ more
      → TakesGroups rest bound going origin faults a b old between (given ++ (made ++ taken)) (Ok Window) → TakesGroups rest bound going origin faults b c between new more t
      → TakesGroups rest bound going origin faults a c old new ((given ++ made) ++ held) t
  TakesGroups-moved a b c old between new given made taken more held t is first then =
      subst (λ (gs : List (List (List ℕ))). TakesGroups rest bound going origin faults a c old new gs t) (groups-moved given made taken more held is)
      (TakesGroups-append a b c old between new (given ++ (made ++ taken)) more t first then)

  -- where no record was left, and this stop followed, or none, and the last group was taken too
  pub TakesGroups-ended : (a b c : L) (old between new : Grouping) (given all : List (List (List ℕ))) (stop : Option Stop)
      → AreGiven (rest a) (rest b) old between given → IfSome (rest b) (λ r. r ≡ record { records = []; stop = stop }) → (stop ≡ None → rest c ≡ rest b)
      → all ≡ given ++ groups_from between []
      → ((place : ℕ) → reach_of (end_of_chunks place (chunks_of_groups all)) new (bound c) ≤ reach_of place old (bound a))
      → OnlyCounts origin faults (all_taken stop ≡ Err cut.Input) a c
      → TakesGroups rest bound going origin faults a c old new all (all_taken stop)
  unfolding stop_in
  TakesGroups-ended a b c old between new given all stop before ended kept last reach counts = record {
    given_of = subst (λ (gs : List (List (List ℕ))). AreTaken (all_taken stop) (rest a) (rest c) old new gs) (sym last)
        (AreGiven-ended (rest a) (rest b) old between given stop before ended);
    may_go_on = search rules;
    lowers = search rules;
    in_reach = reach;
    drained = λ at_end. drained-at_end (rest a) (rest b) (rest c) old between given stop before ended kept (ap stop_in at_end);
    counts = counts;
    no_sink = λ is. cc is;
  }
