use Rattle.std.proofs.Common.{rules, ◌≡◌, ℕ, ◌^◌, ◌≤◌, true, List, length, subst, inl, inr, arith}
use Rattle.block_layout.specs.Layout.{IsBoundary}
use Rattle.damage_skip.specs.Pieces.{Skipped}
use Rattle.damage_skip.specs.Steps.{HasIntact, IsPieceThere, value_of_found}
use Rattle.damage_skip.specs.declared.pieces.Found.{Found}
use Rattle.damage_skip.specs.declared.pieces.NextPiece.{NextPiece}
use Rattle.riegeli_c.specs.Finding.{IsStatusFound, TellsNext}
use Rattle.riegeli_c.specs.Recovers.{IsBadBegin, TellsPiece}
use Rattle.riegeli_c.specs.declared.recovering.PieceTold.{PieceTold}
use Rattle.riegeli_c.proofs.RecoverSteps.{piece_told, chunk_given, region_found, too_small, status_there, found_small}
use Rattle.riegeli_c.proofs.Told.{shown}
use Rattle.riegeli_c.proofs.recovering.riegeli_recover.Goals as goal

-- a place that may be asked for
is_fine : (file : List ℕ) (place : ℕ) → length file ≤ 2 ^ 60 → place ≤ length file → IsBoundary place → ¬ IsBadBegin file place
is_fine file place short within boundary (inl long) = omega (arith, short, long)
is_fine file place short within boundary (inr (inl past)) = omega (arith, within, past)
is_fine file place short within boundary (inr (inr (below, apart))) = apart boundary

-- a piece that is told has no other status
is_other : (what : Found) (values ends : List ℕ) (status other : ℕ) → IsStatusFound what values ends status → ¬ (other ≡ 0) → ¬ (other ≡ 1)
    → ¬ (other ≡ 4) → ¬ (status ≡ other)
is_other what values ends status other is none one four same =
    elim (found_small what values ends status is) [
      | inl zero ↦ none (omega (arith, zero, same))
      | inr (inl first) ↦ one (omega (arith, first, same))
      | inr (inr last) ↦ four (omega (arith, last, same))
    ]

-- what was found is the piece at its place
found_told : (file : List ℕ) (place : ℕ) (next : NextPiece) (told : PieceTold) → IsPieceThere true place next file
    → HasIntact true place next.end next.what → TellsNext place next told → TellsPiece file place (value_of_found next.what) told
found_told file place next told there intact tells =
    piece_told file place next.end next.what told there intact tells.begins tells.end tells.what tells.why tells.count tells.bytes

region_told : (file : List ℕ) (place : ℕ) (next : NextPiece) (told : PieceTold) (values ends : List ℕ) (status : ℕ) → IsPieceThere true place next file
    → HasIntact true place next.end next.what → TellsNext place next told → IsStatusFound next.what values ends status → status ≡ 1
    → (why : _) × TellsPiece file place (Skipped why) told
region_told file place next told values ends status there intact tells is one =
    let found = region_found next.what values ends status is one in
    (found.0, subst (λ (what : Found). TellsPiece file place (value_of_found what) told) found.1 (found_told file place next told there intact tells))

pub returns-in-Ok-clause-answers : goal.returns-in-Ok-clause-answers
returns-in-Ok-clause-answers c =
    elim (found_small c.in-Ok.next.what c.args.values.now c.args.ends.now c.give_piece.result c.give_piece.ensures.status) [
      | inl zero ↦ omega (arith, zero)
      | inr (inl one) ↦ omega (arith, one)
      | inr (inr four) ↦ omega (arith, four)
    ]

pub returns-in-Ok-clause-given : goal.returns-in-Ok-clause-given
returns-in-Ok-clause-given c = λ is.
    let there = shown (IsPieceThere true c.args.at c.in-Ok.next) c.args.file.now _ c.new-store.ensures.bytes c.in-Ok.ensures.sound in
    let given = chunk_given c.args.at c.in-Ok.next.end c.in-Ok.next.what c.args.values.now c.args.ends.now c.give_piece.new.values c.give_piece.new.ends
    c.give_piece.result c.in-Ok.ensures.piece.intact c.give_piece.ensures.status is (c.give_piece.ensures.given is) in (
      value_of_found c.in-Ok.next.what,
      found_told c.args.file.now c.args.at c.in-Ok.next c.give_piece.new.told there c.in-Ok.ensures.piece.intact c.give_piece.ensures.told,
      omega (arith, given.0, c.give_piece.ensures.told.what),
      given.1,
    )

pub returns-in-Ok-clause-region : goal.returns-in-Ok-clause-region
returns-in-Ok-clause-region c = λ is.
    region_told c.args.file.now c.args.at c.in-Ok.next c.give_piece.new.told c.args.values.now c.args.ends.now c.give_piece.result
    (shown (IsPieceThere true c.args.at c.in-Ok.next) c.args.file.now _ c.new-store.ensures.bytes c.in-Ok.ensures.sound) c.in-Ok.ensures.piece.intact
    c.give_piece.ensures.told c.give_piece.ensures.status is

pub returns-in-Ok-clause-bad : goal.returns-in-Ok-clause-bad
returns-in-Ok-clause-bad c = (
  λ is.
      absurd (is_other c.in-Ok.next.what c.args.values.now c.args.ends.now c.give_piece.result 2 c.give_piece.ensures.status (λ e. omega (arith, e))
      (λ e. omega (arith, e)) (λ e. omega (arith, e)) is),
  λ bad.
      absurd (is_fine c.args.file.now c.args.at (omega (arith, c.if-size-gt-MOST_FILE_BYTES.false)) (omega (arith, c.if-at-size.false))
      (c.is_boundary.ensures.0 (search rules)) bad),
)

pub returns-in-Ok-clause-memory : goal.returns-in-Ok-clause-memory
returns-in-Ok-clause-memory c = λ is.
    absurd (is_other c.in-Ok.next.what c.args.values.now c.args.ends.now c.give_piece.result 3 c.give_piece.ensures.status (λ e. omega (arith, e))
    (λ e. omega (arith, e)) (λ e. omega (arith, e)) is)

pub returns-in-Ok-clause-room : goal.returns-in-Ok-clause-room
returns-in-Ok-clause-room c = λ is. (
  value_of_found c.in-Ok.next.what,
  found_told c.args.file.now c.args.at c.in-Ok.next c.give_piece.new.told
      (shown (IsPieceThere true c.args.at c.in-Ok.next) c.args.file.now _ c.new-store.ensures.bytes c.in-Ok.ensures.sound) c.in-Ok.ensures.piece.intact
      c.give_piece.ensures.told,
  too_small c.args.at c.in-Ok.next.end c.in-Ok.next.what c.args.values.now c.args.ends.now c.give_piece.result c.in-Ok.ensures.piece.intact
      c.give_piece.ensures.status is,
)

pub returns-in-Ok-clause-at_end : goal.returns-in-Ok-clause-at_end
returns-in-Ok-clause-at_end c = (
  λ is.
      absurd (is_other c.in-Ok.next.what c.args.values.now c.args.ends.now c.give_piece.result 5 c.give_piece.ensures.status (λ e. omega (arith, e))
      (λ e. omega (arith, e)) (λ e. omega (arith, e)) is),
  λ end. absurd (c.if-at-size-2.false end.1),
)

pub returns-in-Ok-clause-exact : goal.returns-in-Ok-clause-exact
returns-in-Ok-clause-exact c = λ end kind fine below piece.
    status_there c.args.file.now c.args.at c.in-Ok.next.end end c.in-Ok.next.what kind c.args.values.now c.args.ends.now c.give_piece.result
    (shown (IsPieceThere true c.args.at c.in-Ok.next) c.args.file.now _ c.new-store.ensures.bytes c.in-Ok.ensures.sound) c.in-Ok.ensures.piece.intact
    c.give_piece.ensures.status piece

pub returns-in-Err-Memory-clause-bad : goal.returns-in-Err-Memory-clause-bad
returns-in-Err-Memory-clause-bad c = (
  λ is. absurd (omega (arith, is)),
  λ bad.
      absurd (is_fine c.args.file.now c.args.at (omega (arith, c.if-size-gt-MOST_FILE_BYTES.false)) (omega (arith, c.if-at-size.false))
      (c.is_boundary.ensures.0 (search rules)) bad),
)
