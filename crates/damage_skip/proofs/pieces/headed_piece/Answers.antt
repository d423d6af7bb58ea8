use Rattle.std.proofs.Common.{◌≡◌, ◌∙◌, ◌<◌, ℕ, Option, Some, inl, refl, sym, subst, arith}
use Rattle.std.specs.Prelude.{IfSome}
use Rattle.chunk_header.specs.Views.{value_of_header}
use Rattle.chunk_reader.specs.Places.{end_by}
use Rattle.chunk_reader.proofs.Rooms.{IsSized}
use Rattle.damage_skip.specs.Steps.{IsEndOf}
use Rattle.damage_skip.proofs.PieceSteps.{truncated_piece, end_past}
use Rattle.damage_skip.proofs.Takings.{taken_for, takes_failed, takes_unloaded, stops_unloaded}
use Rattle.damage_skip.proofs.pieces.headed_piece.Goals as goal
use Rattle.damage_skip.proofs.pieces.headed_piece.Goals.{In_default, in_default-via-in-Some+else-end-walk, in_default-via-in_default}

-- the file ends before the chunk
cut_off : (g : _) (c : In_default g) → c.args.walk.size < end_by c.args.walk.place (value_of_header c.args.header)
cut_off g c =
    let past : IfSome c.args.end (λ e. c.args.walk.size < e) = elim c.in_default.branch [
      | in_default-via-in-Some+else-end-walk w ↦ rw w.in-Some.is w.if-end-walk.false
      | in_default-via-in_default w ↦ rw w.in_default.is tt
    ] in
    end_past c.args.end c.args.walk.size (end_by c.args.walk.place (value_of_header c.args.header)) past (omega (arith, c.requires.place.sized.in_reach)) c.requires.end

-- whose end is the one by its header
ends : (g : _) (c : In_default g) → IsEndOf c.in_default.end (end_by c.args.walk.place (value_of_header c.args.header))
ends g c =
    let same : c.in_default.end ≡ c.args.end = elim c.in_default.branch [
      | in_default-via-in-Some+else-end-walk w ↦ w.end-is ∙ sym w.in-Some.is
      | in_default-via-in_default w ↦ w.end-is
    ] in
    subst (λ (e : Option ℕ). IsEndOf e (end_by c.args.walk.place (value_of_header c.args.header))) (sym same) c.requires.end

pub returns-in_ok-unloaded_piece-in_default-clause-sound : goal.returns-in_ok-unloaded_piece-in_default-clause-sound
returns-in_ok-unloaded_piece-in_default-clause-sound g c =
    let sized : IsSized (g.S.Store.bytes c.args.store.now) (Some c.args.walk.size) =
    subst (IsSized (g.S.Store.bytes c.args.store.now)) c.requires.place.sized.is_told (g.met.S.Store.sized c.args.store.now) in
    truncated_piece _ c.args.walk.unread_ok c.args.walk.size c.args.walk.place c.args.header c.in_ok-unloaded_piece-in_default.field-0 sized c.requires.fits
    c.requires.head
    (cut_off g (goal.at.returns-in_ok-unloaded_piece-in_default-clause-sound g c).In_default)
    (c.in_ok-unloaded_piece-in_default.ensures.unloaded (end_by c.args.walk.place (value_of_header c.args.header))
    (ends g (goal.at.returns-in_ok-unloaded_piece-in_default-clause-sound g c).In_default))

pub returns-in_err-unloaded_piece-in_default-clause-takes : goal.returns-in_err-unloaded_piece-in_default-clause-takes
returns-in_err-unloaded_piece-in_default-clause-takes g c =
    let sized : IsSized (g.S.Store.bytes c.args.store.now) (Some c.args.walk.size) =
    subst (IsSized (g.S.Store.bytes c.args.store.now)) c.requires.place.sized.is_told (g.met.S.Store.sized c.args.store.now) in
    let end = end_by c.args.walk.place (value_of_header c.args.header) in
    let cut = cut_off g (goal.at.returns-in_err-unloaded_piece-in_default-clause-takes g c).In_default in
    takes_failed c.from_residual.result _ c.args.walk.place _ c.from_residual.ensures.0
    (takes_unloaded _ c.args.walk.size c.args.walk.place end c.args.walk.size c.args.header _ _ sized c.requires.fits c.requires.head (inl cut) refl
    (omega (arith, cut)) (omega arith) (c.in_err-unloaded_piece-in_default.ensures.looks end
    (ends g (goal.at.returns-in_err-unloaded_piece-in_default-clause-takes g c).In_default)))

pub returns-in_ok-unloaded_piece-in_default-clause-takes : goal.returns-in_ok-unloaded_piece-in_default-clause-takes
returns-in_ok-unloaded_piece-in_default-clause-takes g c =
    let sized : IsSized (g.S.Store.bytes c.args.store.now) (Some c.args.walk.size) =
    subst (IsSized (g.S.Store.bytes c.args.store.now)) c.requires.place.sized.is_told (g.met.S.Store.sized c.args.store.now) in
    let end = end_by c.args.walk.place (value_of_header c.args.header) in
    let cut = cut_off g (goal.at.returns-in_ok-unloaded_piece-in_default-clause-takes g c).In_default in
    taken_for _ c.args.walk.place _
    (takes_unloaded _ c.args.walk.size c.args.walk.place end c.args.walk.size c.args.header _ _ sized c.requires.fits c.requires.head (inl cut) refl
    (omega (arith, cut)) (omega arith) (c.in_ok-unloaded_piece-in_default.ensures.looks end
    (ends g (goal.at.returns-in_ok-unloaded_piece-in_default-clause-takes g c).In_default)))
    (stops_unloaded _ c.args.walk.size c.args.walk.place _ c.args.header sized c.requires.fits c.requires.head (inl cut))
