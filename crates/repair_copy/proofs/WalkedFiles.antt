-- Files that are walked and copied, where their bytes may be shown.
use Rattle.std.proofs.Common.{◌≡◌, ◌≢◌, ◌∙◌, ℕ, ◌-◌, ◌≤◌, Bool, true, false, Option, Some, None, Result, Ok, Err, IfSome, List, [], ◌∷◌, ◌++◌, length, refl, sym, ap, subst, inr, arith}
use Rattle.std.specs.Prelude.{⊤}
use Rattle.std.specs.List.{AllByRecursion}
use Rattle.std.specs.Fn.{Shared, FnReturnsAt}
use denote.Ref.{Bor}
use Rattle.record_io.specs.Puts.{Taken}
use Rattle.chunk_reader.specs.Reasons.{Applies, NoneOf, loading_reasons}
use Rattle.chunk_reader.proofs.Rooms.{IsSized}
use Rattle.damage_skip.specs.Pieces.{Piece}
use Rattle.damage_skip.specs.Policies.{IsAllowedRegion}
use Rattle.damage_skip.specs.Regions.{regions_in}
use Rattle.damage_skip.specs.Takings.{IsTakenFrom, IsTakenUpTo}
use Rattle.damage_skip.specs.Walks.{GoesOn, IsStop, IsStoppedAt}
use Rattle.damage_skip.specs.declared.events.WalkEnd.{WalkEnd}
use Rattle.damage_skip.specs.declared.events.WalkEnd.TheVariants as walk
use Rattle.damage_skip.specs.declared.regions.Region.{Region}
use Rattle.damage_skip.specs.Walkers.{IsJudging, test_of}
use Rattle.damage_skip.specs.declared.policies.Policy.{Policy}
use Rattle.damage_skip.specs.declared.walks.Walker.{Walker}
use Rattle.damage_skip.proofs.Takings.{may_take_head}
use Rattle.damage_skip.proofs.Tiles.{tiles_within}
use Rattle.damage_skip.proofs.WalkedTo.{walked-further, walked-on}
use Rattle.repair_copy.specs.Walked.{EndsAt}
use Rattle.repair_copy.specs.Copies.{HasCopied, HasBegun, HasCopiedFront, HasWalked}
use Rattle.repair_copy.specs.CopyEnds.{EndsWith, CopiesWalk}
use Rattle.repair_copy.specs.declared.copying.Copied.{Copied}
use Rattle.repair_copy.specs.declared.repairs.RepairEnd.{RepairEnd}

-- what holds of the same bytes
same_told : (P : List ℕ → Type 0) (a b : Option (List ℕ)) → b ≡ a → IfSome b P → IfSome a P
same_told P a b same h = subst (λ (x : Option (List ℕ)). IfSome x P) same h

any_told : (bytes : Option (List ℕ)) → IfSome bytes (λ file. ⊤)
any_told None = tt
any_told (Some file) = tt

-- a walk that only judges has the same test
pub judging-test : {F : Type 0} (before after : Walker F) → IsJudging before after → test_of after ≡ test_of before
judging-test {F} before after is = ap (λ (p : Policy F). p.test) is.same_policy

-- a last event is one
some_last : (events : List Piece) (e : Piece) → events ++ e ∷ [] ≢ []
some_last [] e = λ none. cc none
some_last (f ∷ events) e = λ none. cc none

-- nothing is taken behind the pieces that were passed
up_to-passed : (file : List ℕ) (place taken : ℕ) → IsTakenFrom true file 0 place taken → IsTakenUpTo true file 0 place taken
up_to-passed file place taken h =
    let within : place ≤ length file = (tiles_within true file 0 place h.0 (omega arith) h.1).1 in
    (taken, h, may_take_head file place (taken - taken) (omega (arith, within)) (omega arith))

pub taken-passed : (bytes : Option (List ℕ)) (place taken : ℕ) → IfSome bytes (λ file. IsTakenFrom true file 0 place taken)
    → IfSome bytes (λ file. IsTakenUpTo true file 0 place taken)
taken-passed None place taken h = tt
taken-passed (Some file) place taken h = up_to-passed file place taken h

module _ {F : Type 0} (test : Shared F (Bor Region × Unit {0}) Bool) (f : F) where
  -- a walk ended where events up to there were copied
  pub walk_ended : (bytes : Option (List ℕ)) (place : ℕ) (s : Copied) (before a : Taken) (ended : Option WalkEnd) (taken : ℕ)
      → IfSome bytes (HasWalked test f place s before a) → IfSome bytes (λ file. EndsWith test f ended file place)
      → IfSome bytes (λ file. IsTakenUpTo true file 0 place taken)
      → IfSome bytes (CopiesWalk test f (Ok ended) s before a taken)
  walk_ended None place s before a ended taken h end account = tt
  walk_ended (Some file) place s before a ended taken h end account =
      record { place = place; events = h.events; walked = h.walked; copies = (h.copies, end); account = account }

  module _ (bytes now : Option (List ℕ)) (unread_ok : Bool) (place to : ℕ) (same : now ≡ bytes) (keeps : unread_ok ≡ true) where
    goes_on : (events : List Piece) → IfSome now (λ file. GoesOn unread_ok file place to events) → IfSome bytes (λ file. GoesOn true file place to events)
    goes_on events h =
        same_told (λ file. GoesOn true file place to events) bytes now same
        (subst (λ (k : Bool). IfSome now (λ file. GoesOn k file place to events)) keeps h)

    -- the walk has come to where it ends
    pub walked_to_end : (s : Copied) (before now_taken : Taken) → IfSome bytes (HasWalked test f place s before now_taken)
        → IfSome now (λ file. GoesOn unread_ok file place to []) → IfSome bytes (HasWalked test f to s before now_taken)
    walked_to_end s before now_taken h on = both bytes h (goes_on [] on) where
      both : (o : Option (List ℕ)) → IfSome o (HasWalked test f place s before now_taken) → IfSome o (λ file. GoesOn true file place to [])
          → IfSome o (HasWalked test f to s before now_taken)
      both None h on = tt
      both (Some file) h on = record { events = h.events; walked = walked-further true (IsAllowedRegion test f) file place to h.events h.walked on; copies = h.copies }

    -- an event was copied
    pub walked_next : (s t : Copied) (before now_taken then : Taken) (e : Piece) → IfSome bytes (HasWalked test f place s before now_taken)
        → IfSome now (λ file. GoesOn unread_ok file place to (e ∷ [])) → AllByRecursion (IsAllowedRegion test f) (regions_in (e ∷ []))
        → ((b : Taken) (events : List Piece) → HasCopied b now_taken s events → HasBegun b then t (events ++ e ∷ []))
        → IfSome bytes (HasWalked test f to t before then)
    walked_next s t before now_taken then e h on pass copies = both bytes h (goes_on (e ∷ []) on) where
      both : (x : Option (List ℕ)) → IfSome x (HasWalked test f place s before now_taken) → IfSome x (λ file. GoesOn true file place to (e ∷ []))
          → IfSome x (HasWalked test f to t before then)
      both None h on = tt
      both (Some file) h on = record {
        events = h.events ++ e ∷ [];
        walked = walked-on true (IsAllowedRegion test f) file place to h.events (e ∷ []) h.walked on pass;
        copies = inr (copies before h.events h.copies, some_last h.events e);
      }

    -- or that was cut off
    pub cut_within : (s t : Copied) (before now_taken then : Taken) (e : Piece) (end : RepairEnd) (result : Result (Option WalkEnd) RepairEnd) (taken : ℕ)
        → result ≡ Err end
        → IfSome bytes (HasWalked test f place s before now_taken)
        → IfSome now (λ file. GoesOn unread_ok file place to (e ∷ [])) → AllByRecursion (IsAllowedRegion test f) (regions_in (e ∷ []))
        → ((b : Taken) (events : List Piece) → HasCopied b now_taken s events → HasCopiedFront end b then (events ++ e ∷ []))
        → IfSome bytes (λ file. IsTakenFrom true file 0 to taken)
        → IfSome bytes (CopiesWalk test f result t before then taken)
    cut_within s t before now_taken then e end result taken is h on pass front account = both bytes h (goes_on (e ∷ []) on) account where
      both : (x : Option (List ℕ)) → IfSome x (HasWalked test f place s before now_taken) → IfSome x (λ file. GoesOn true file place to (e ∷ []))
          → IfSome x (λ file. IsTakenFrom true file 0 to taken) → IfSome x (CopiesWalk test f result t before then taken)
      both None h on account = tt
      both (Some file) h on account =
          subst (λ (r : Result (Option WalkEnd) RepairEnd). CopiesWalk test f r t before then taken file) (sym is) (record {
            place = to;
            events = h.events ++ e ∷ [];
            walked = walked-on true (IsAllowedRegion test f) file place to h.events (e ∷ []) h.walked on pass;
            copies = front before h.events h.copies;
            account = up_to-passed file to taken account;
          })

    -- it ends at the file's end
    pub ends_at_end : (size : ℕ) → IsSized now (Some size) → to ≡ size → IfSome bytes (λ file. EndsAt test f file to None)
    ends_at_end size sized end = same_told (λ file. EndsAt test f file to None) bytes now same (at_end now sized) where
      at_end : (x : Option (List ℕ)) → IsSized x (Some size) → IfSome x (λ file. to ≡ length file)
      at_end None sized = tt
      at_end (Some file) sized = end ∙ sized

    -- or at a region
    pub ends_at_region : (size : ℕ) (region : Region) → IsSized now (Some size) → IsStop size to region
        → IfSome now (λ file. IsStoppedAt unread_ok file to (Some region)) → FnReturnsAt test f region false
        → IfSome bytes (λ file. EndsAt test f file to (Some region))
    ends_at_region size region sized stop stopped refused =
        same_told (λ file. EndsAt test f file to (Some region)) bytes now same
        (at_region now sized (subst (λ (k : Bool). IfSome now (λ file. IsStoppedAt k file to (Some region))) keeps stopped)) where
          at_region : (x : Option (List ℕ)) → IsSized x (Some size) → IfSome x (λ file. IsStoppedAt true file to (Some region))
              → IfSome x (λ file. EndsAt test f file to (Some region))
          at_region None sized h = tt
          at_region (Some file) sized h =
              record { begin = h.0; below = h.1; piece = h.2; refused = refused }

    -- whichever way
    pub ends_with : (why : WalkEnd) → (why ≡ walk.Memory → IfSome now (λ file. NoneOf (Applies file to) loading_reasons))
        → ((region : Region) → why ≡ walk.Stopped region → IfSome bytes (λ file. EndsAt test f file to (Some region)))
        → IfSome bytes (λ file. EndsWith test f (Some why) file to)
    ends_with (walk.Stopped region) memory stopped = stopped region refl
    ends_with walk.Store memory stopped = any_told bytes
    ends_with walk.Memory memory stopped = same_told (λ file. NoneOf (Applies file to) loading_reasons) bytes now same (memory refl)
