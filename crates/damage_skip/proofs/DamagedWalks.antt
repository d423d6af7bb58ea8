-- A walk of a damaged file goes from chunk to chunk that is reached.
use Rattle.std.proofs.Common.{◌≡◌, ◌∙◌, ℕ, ◌^◌, ◌≤◌, Bool, false, Option, Some, None, Result, Ok, Err, IfSome, List, [], ◌∷◌, ◌++◌, length, refl, sym, subst, arith}
use Rattle.chunk_header.specs.Chunks.{ChunkValue}
use Rattle.meta_chunk.specs.Files.{begin_of}
use Rattle.chunk_reader.proofs.Rooms.{IsSized}
use Rattle.chunk_reader.specs.declared.judging.LoadEnd.{LoadEnd}
use Rattle.chunk_reader.specs.declared.judging.LoadEnd.TheVariants as load
use Rattle.damage_skip.specs.Ends.{walk_end_of}
use Rattle.damage_skip.specs.Damage.{Intact, IsDamaged, AreReached, DamageLeavesEach}
use Rattle.damage_skip.specs.DamagedWalks.{IsReachedAt, IsLeftRegion, WalksPastDamage, LeadsPastDamage}
use Rattle.damage_skip.specs.Pieces.{Piece, Skipped}
use Rattle.damage_skip.specs.Resyncs.{IsResync}
use Rattle.damage_skip.specs.Walks.{GoesOn, IsMet, IsStoppedAt, StandsIn, events_of, stop_of, WalksOn}
use Rattle.damage_skip.specs.declared.events.Event.{Event}
use Rattle.damage_skip.specs.declared.events.WalkEnd.{WalkEnd}
use Rattle.damage_skip.specs.declared.progress.Progress.{Progress}
use Rattle.damage_skip.specs.declared.regions.Region.{Region}
use Rattle.damage_skip.proofs.PlacesFurtherOn.{resync_one}
use Rattle.damage_skip.proofs.Damaged.{tiles_left, resync_next, number_of_end}
use Rattle.damage_skip.proofs.Reached.{next_of, reached_on, left_numbers}
use Rattle.damage_skip.proofs.Untouched.{lost_up_to_a_block}

module _ (unread_ok : Bool) (ks : List ChunkValue) (file damaged : List ℕ) (intact : Intact) (d : IsDamaged ks file damaged intact)
    (reach : length file ≤ 2 ^ 60) where
  -- a place that is met is reached
  met_number : (place : ℕ) → IsMet unread_ok damaged place → (n : ℕ) × (n ≤ length ks) × IsReachedAt ks intact place n
  met_number place (pieces, h) =
      let left = tiles_left unread_ok ks file damaged intact d reach 0 0 place pieces (omega arith) refl h in
      let numbers = left_numbers unread_ok ks intact 0 left.0 pieces left.3 in
      (left.0, left.1, record { numbers = numbers.0; reached = numbers.1; begins = left.2 })

  pub met_reached : (place : ℕ) → IsMet unread_ok damaged place → (n : ℕ) × IsReachedAt ks intact place n
  met_reached place h = let number = met_number place h in (number.0, number.2)

  -- a region at which a walk stopped is what is left of the chunk there
  pub left_region : (place n : ℕ) (stopped : Option Region) → n ≤ length ks → place ≡ begin_of ks n → IsStoppedAt unread_ok damaged place stopped
      → IfSome stopped (IsLeftRegion unread_ok ks intact n)
  left_region place n None inside begins h = tt
  left_region place n (Some region) inside begins (begin, below, is) =
      let piece : Piece = record { begin = region.begin; end = region.end; what = Skipped region.why } in
      let left = tiles_left unread_ok ks file damaged intact d reach n place region.end (piece ∷ []) inside begins (begin, below, is, refl) in
      (left.0, left.3)

  -- so a call goes from chunk to chunk
  walks_past : (before after : Progress) (result : Result (Option Event) WalkEnd) → before.unread_ok ≡ unread_ok → IsMet unread_ok damaged before.place
      → GoesOn unread_ok damaged before.place after.place (events_of result) → (result ≡ Ok None → after.place ≡ length damaged)
      → IsStoppedAt unread_ok damaged after.place (stop_of result) → WalksPastDamage ks intact before after result
  walks_past before after result keeps met (pieces, on, are) ended stopped =
      let number = met_number before.place met in
      let left = tiles_left unread_ok ks file damaged intact d reach number.0 before.place after.place pieces number.1 number.2.begins on in
      let numbers = left_numbers unread_ok ks intact number.0 left.0 pieces left.3 in
      let reached : AreReached ks intact 0 left.0 (number.2.numbers ++ numbers.0) =
      reached_on ks intact 0 number.0 left.0 number.2.numbers numbers.0 number.2.reached numbers.1 in
      record {
        «from» = number.0;
        to = left.0;
        from_reached = number.2;
        to_reached = record {
          numbers = number.2.numbers ++ numbers.0;
          reached = reached;
          begins = left.2;
        };
        pieces = pieces;
        left = subst (λ (k : Bool). DamageLeavesEach k ks intact number.0 left.0 pieces) (sym keeps) left.3;
        events = are;
        ended = λ end. number_of_end unread_ok ks file damaged intact d reach left.0 left.1 (sym (ended end) ∙ left.2);
        stopped = subst (λ (k : Bool). IfSome (stop_of result) (IsLeftRegion k ks intact left.0)) (sym keeps)
            (left_region after.place left.0 (stop_of result) left.1 left.2 stopped);
        lost = lost_up_to_a_block ks intact left.0 (number.2.numbers ++ numbers.0) reached;
      }

-- of a file that shows its bytes
pub call_past : (bytes : Option (List ℕ)) (told told_then : Option ℕ) (before after : Progress) (result : Result (Option Event) WalkEnd)
    → IsSized bytes (Some before.size) → StandsIn bytes told before → StandsIn bytes told_then after → WalksOn bytes before after result
    → (result ≡ Ok None → after.place ≡ before.size)
    → IfSome bytes (λ damaged.
    (ks : List ChunkValue) (file : List ℕ) (intact : Intact) → length file ≤ 2 ^ 60 → IsDamaged ks file damaged intact
    → WalksPastDamage ks intact before after result)
call_past None told told_then before after result sized stands stands_then on ended = tt
call_past (Some damaged) told told_then before after result sized stands stands_then on ended =
    λ ks file intact reach d.
    walks_past before.unread_ok ks file damaged intact d reach before after result refl stands.met on.past (λ end. ended end ∙ sized)
    (subst (λ (k : Bool). IsStoppedAt k damaged after.place (stop_of result)) on.same_unread_ok
    (subst (IsStoppedAt after.unread_ok damaged after.place) on.stopped stands_then.stopped_there))

-- a call that went on to a place and gave nothing there, for want of the store or of memory
pub cut_on : (bytes : Option (List ℕ)) (before after : Progress) (end : LoadEnd) → WalksOn bytes before after (Ok None)
    → WalksOn bytes before after (Err (walk_end_of end))
cut_on bytes before after load.Store on =
    record { same_size = on.same_size; same_unread_ok = on.same_unread_ok; same_decodes = on.same_decodes; rises = on.rises; past = on.past; stopped = on.stopped }
cut_on bytes before after load.Memory on =
    record { same_size = on.same_size; same_unread_ok = on.same_unread_ok; same_decodes = on.same_decodes; rises = on.rises; past = on.past; stopped = on.stopped }

-- one that stays
pub stays_told : (bytes : Option (List ℕ)) (unread_ok : Bool) (place : ℕ) → IfSome bytes (λ file. GoesOn unread_ok file place place [])
stays_told None unread_ok place = tt
stays_told (Some file) unread_ok place = ([], refl, refl)

-- where a chunk header has changed, reading goes on at the chunk that is reached next
resync_past_damage : (damaged : List ℕ) (place to : ℕ) → IsResync damaged place to → LeadsPastDamage damaged place to
resync_past_damage damaged place to h ks file intact j reach d inside begins broken =
    let next = next_of ks intact j in
    let there : IsResync damaged place (begin_of ks next.0) =
    subst (λ (p : ℕ). IsResync damaged p (begin_of ks next.0)) (sym begins)
    (resync_next false ks file damaged intact d reach j next.0 inside broken next.1) in
    (next.0, next.1, resync_one damaged place to (begin_of ks next.0) h there)

pub resync_told : (bytes : Option (List ℕ)) (place to : ℕ) → IfSome bytes (λ file. IsResync file place to)
    → IfSome bytes (λ damaged. LeadsPastDamage damaged place to)
resync_told None place to h = tt
resync_told (Some damaged) place to h = resync_past_damage damaged place to h
