-- Walks that are at the front of their file.
use Rattle.std.proofs.Common.{◌≡◌, ◌∙◌, ℕ, Bool, true, false, Option, Some, None, IfSome, List, [], sym, ap, subst, arith}
use Rattle.record_io.specs.Calls.{HasSize}
use Rattle.damage_skip.specs.Walks.{IsMet, IsStoppedAt, IsAtFront, StandsIn}
use Rattle.damage_skip.specs.Walkers.{progress_of, IsJudging}
use Rattle.damage_skip.specs.declared.progress.Progress.{Progress}
use Rattle.damage_skip.specs.declared.regions.Region.{Region}
use Rattle.damage_skip.specs.declared.walks.Walker.{Walker}

-- so is one that then only judges simple chunks
pub front-judging : {F : Type 0} (size : ℕ) (unread_ok : Bool) (before after : Walker F) → IsAtFront size unread_ok true (progress_of before)
    → IsJudging before after → IsAtFront size unread_ok false (progress_of after)
front-judging size unread_ok before after h is = record {
  size_is = is.same_size ∙ h.size_is;
  unread_ok_is = is.same_unread_ok ∙ h.unread_ok_is;
  decodes_is = is.judges;
  at_front = is.same_place ∙ h.at_front;
  going = is.same_stopped ∙ h.going;
}

-- they stand there
met_at_front : (bytes : Option (List ℕ)) (unread_ok : Bool) (place : ℕ) → place ≡ 0 → IfSome bytes (λ file. IsMet unread_ok file place)
met_at_front None unread_ok place front = tt
met_at_front (Some file) unread_ok place front = ([], sym front)

stopped_nowhere : (bytes : Option (List ℕ)) (unread_ok : Bool) (place : ℕ) (stopped : Option Region) → stopped ≡ None
    → IfSome bytes (λ file. IsStoppedAt unread_ok file place stopped)
stopped_nowhere None unread_ok place stopped none = tt
stopped_nowhere (Some file) unread_ok place stopped none = subst (λ (s : Option Region). IsStoppedAt unread_ok file place s) (sym none) tt

pub front-stands : (bytes : Option (List ℕ)) (told : Option ℕ) (size : ℕ) (unread_ok decodes : Bool) (at : Progress) → IsAtFront size unread_ok decodes at
    → HasSize told size → StandsIn bytes told at
front-stands bytes told size unread_ok decodes at h sized = record {
  size = sized.is_told ∙ ap Some (sym h.size_is);
  in_reach = omega (arith, h.size_is, sized.in_reach);
  met = met_at_front bytes at.unread_ok at.place h.at_front;
  stopped_there = stopped_nowhere bytes at.unread_ok at.place at.stopped h.going;
}
