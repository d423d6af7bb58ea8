-- The status behind a walk, by which of its events come before one that is refused.
use Rattle.std.proofs.Common.{◌≡◌, ◌∙◌, ℕ, false, Option, None, List, [], ◌∷◌, ◌++◌, refl, ap}
use Rattle.damage_skip.specs.Pieces.{Piece}
use Rattle.damage_skip.specs.Bounds.{may_skip, walked, refused_in}
use Rattle.damage_skip.specs.Regions.{regions_in}
use Rattle.damage_skip.specs.declared.regions.Region.{Region}
use Rattle.damage_skip.proofs.BoundedWalks.{MaySkipEach, walked-all, refused-none, walked-to_refused, refused-there}
use Rattle.damage_skip.proofs.WalkedTo.{piece_at}
use Rattle.recover_command.specs.WalkAnswers.{walk_status}
use Rattle.command_frame.specs.declared.status.Status.TheVariants as status

-- one region more
pub status-more : (rs : List Region) (region : Region) → walk_status (rs ++ region ∷ []) None ≡ status.Skipped
status-more [] region = refl
status-more (r ∷ rs) region = refl

-- the status behind all events, where none is refused
pub status-all : (most : Option ℕ) (es : List Piece) → MaySkipEach most es
    → walk_status (regions_in (walked most es)) (refused_in most es) ≡ walk_status (regions_in es) None
status-all most es h =
    ap (λ (xs : List Piece). walk_status (regions_in xs) (refused_in most es)) (walked-all most es h)
    ∙ ap (λ (s : Option Region). walk_status (regions_in es) s) (refused-none most es h)

-- and behind those up to one that is
pub status-stopped : (most : Option ℕ) (es fs : List Piece) (region : Region) → MaySkipEach most es → may_skip most region ≡ false
    → walk_status (regions_in (walked most (es ++ piece_at region ∷ fs))) (refused_in most (es ++ piece_at region ∷ fs)) ≡ status.Stopped
status-stopped most es fs region h not_allowed =
    ap (λ (xs : List Piece). walk_status (regions_in xs) (refused_in most (es ++ piece_at region ∷ fs))) (walked-to_refused most es fs region h not_allowed)
    ∙ ap (λ (s : Option Region). walk_status (regions_in es) s) (refused-there most es fs region h not_allowed)
