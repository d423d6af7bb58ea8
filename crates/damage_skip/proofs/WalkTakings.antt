-- What a walk takes up to some place.
use Rattle.std.proofs.Common.{◌≡◌, ℕ, ◌-◌, ◌≤◌, Bool, Option, Some, None, IfSome, List, [], length, subst, arith}
use Rattle.damage_skip.specs.Pieces.{Piece}
use Rattle.damage_skip.specs.Regions.{IsWalkedTo}
use Rattle.damage_skip.specs.Takings.{IsTakenFrom, IsTakenUpTo, IsTakenByWalk}
use Rattle.damage_skip.specs.declared.regions.Region.{Region}
use Rattle.damage_skip.proofs.Takings.{may_take_head, up_to-none}
use Rattle.damage_skip.proofs.Tiles.{tiles_within}
use Rattle.damage_skip.proofs.WalkedTo.{walked-none, walked-so}

-- where the last call gave an event or the file's end, no piece is read behind those that were passed
up_to-passed : (unread_ok : Bool) (file : List ℕ) (place taken : ℕ) → IsTakenFrom unread_ok file 0 place taken → IsTakenUpTo unread_ok file 0 place taken
up_to-passed unread_ok file place taken h =
    let within : place ≤ length file = (tiles_within unread_ok file 0 place h.0 (omega arith) h.1).1 in
    (taken, h, may_take_head file place (taken - taken) (omega (arith, within)) (omega arith))

module _ (unread_ok : Bool) (P : Region → Type 0) where
  pub by_walk-passed : (file : List ℕ) (place : ℕ) (events : List Piece) (taken : ℕ) → IsWalkedTo unread_ok P file place events
      → IsTakenFrom unread_ok file 0 place taken → IsTakenByWalk unread_ok P file taken
  by_walk-passed file place events taken walked h =
      record { place = place; events = events; walked = walked; account = up_to-passed unread_ok file place taken h }

  -- before the walk nothing is taken
  pub by_walk-none : (bytes : Option (List ℕ)) (before after : ℕ) → after ≡ before → IfSome bytes (λ file. IsTakenByWalk unread_ok P file (after - before))
  by_walk-none None before after same = tt
  by_walk-none (Some file) before after same = record {
    place = 0;
    events = [];
    walked = walked-none unread_ok P file;
    account = up_to-none unread_ok file (after - before) (omega (arith, same));
  }

  -- a walk behind a call that took nothing, under another test of regions
  pub by_walk-then : (Q : Region → Type 0) (told bytes : Option (List ℕ)) (before then after : ℕ) → told ≡ bytes → then ≡ before
      → ((region : Region) → P region → Q region) → IfSome told (λ file. IsTakenByWalk unread_ok P file (after - then))
      → IfSome bytes (λ file. IsTakenByWalk unread_ok Q file (after - before))
  by_walk-then Q told None before then after same first so h = tt
  by_walk-then Q None (Some file) before then after same first so h = absurd (cc same)
  by_walk-then Q (Some other) (Some file) before then after same first so h = record {
    place = h.place;
    events = h.events;
    walked = subst (λ (f : List ℕ). IsWalkedTo unread_ok Q f h.place h.events) (cc same) (walked-so unread_ok P other Q h.place h.events so h.walked);
    account = subst (λ (n : ℕ). IsTakenUpTo unread_ok file 0 h.place (after - n)) first
        (subst (λ (f : List ℕ). IsTakenUpTo unread_ok f 0 h.place (after - then)) (cc same) h.account);
  }
