-- Bytes that are laid behind others.
use Rattle.std.proofs.Common.{◌≡◌, ◌∙◌, ℕ, ◌≤◌, Option, List, ◌++◌, length, drop, refl, sym, ap, subst, arith}
use Rattle.std.proofs.lemmas.List.{drop_at, length-append}
use Rattle.block_layout.specs.Layout.{room, end_of}
use Rattle.block_layout.proofs.Ends.{end_of_after, end_of_mono, end_of-more}
use Rattle.block_layout.proofs.Runs.{room-end_of}
use Rattle.record_io.specs.Outside.{TakesShort}
use Rattle.record_io.specs.Buffers.{TakesAndHolds}
use Rattle.ordered_writer.specs.Layings.{laid_between}
use Rattle.ordered_writer.proofs.Runs.{laid_between-front}
use Rattle.ordered_writer.proofs.RunCalls.{TakesShort-laid_longer, TakesAndHolds-more, TakesShort-more}

-- where bytes end, and those behind them
abbrev pub first_end : ℕ → List ℕ → ℕ
first_end place front = end_of place (length front)

pub both_end : (place : ℕ) (front rest : List ℕ) → end_of (first_end place front) (length rest) ≡ end_of place (length (front ++ rest))
both_end place front rest = end_of-more place (length front) (length rest) ∙ ap (end_of place) (sym (length-append front rest))

pub first_within : (place end : ℕ) (front rest : List ℕ) → end_of place (length (front ++ rest)) ≤ end → first_end place front ≤ end
first_within place end front rest within =
    omega (arith, within, length-append front rest, end_of_mono place (length front) (length (front ++ rest)) (omega (arith, length-append front rest)))

-- the first of them are laid as a front of both
first_laid : (begin end place : ℕ) (front rest : List ℕ)
    → laid_between begin end place (first_end place front) front ≡ laid_between begin end place (first_end place front) (front ++ rest)
first_laid begin end place front rest =
    sym (laid_between-front begin end place (first_end place front) front rest (omega (arith, room-end_of place (length front))))

-- and the others behind them
rest_laid : (begin end place until : ℕ) (front rest : List ℕ)
    → laid_between begin end (first_end place front) until rest
    ≡ laid_between begin end (first_end place front) until (drop (room place (first_end place front)) (front ++ rest))
rest_laid begin end place until front rest =
    ap (laid_between begin end (first_end place front) until)
    (sym (ap (λ (n : ℕ). drop n (front ++ rest)) (room-end_of place (length front)) ∙ drop_at front rest (length front) refl))

-- both went well
pub TakesAndHolds-both : (a b c : Option (List ℕ)) (held between after : List ℕ) (begin end place until : ℕ) (front rest : List ℕ)
    → until ≡ end_of (first_end place front) (length rest)
    → TakesAndHolds a b (held ++ laid_between begin end place (first_end place front) front) between
    → TakesAndHolds b c (between ++ laid_between begin end (first_end place front) until rest) after
    → TakesAndHolds a c (held ++ laid_between begin end place until (front ++ rest)) after
TakesAndHolds-both a b c held between after begin end place until front rest ends first then =
    TakesAndHolds-more a b c held between after begin end place (first_end place front) until (front ++ rest) rest
    (end_of_after place (length front)) (omega (arith, ends, end_of_after (first_end place front) (length rest)))
    (rest_laid begin end place until front rest)
    (subst (λ (xs : List ℕ). TakesAndHolds a b (held ++ xs) between) (first_laid begin end place front rest) first)
    then

-- the first failed
pub TakesShort-first : (a b : Option (List ℕ)) (held : List ℕ) (begin end place until : ℕ) (front rest : List ℕ)
    → first_end place front ≤ until
    → TakesShort a b (held ++ laid_between begin end place (first_end place front) front)
    → TakesShort a b (held ++ laid_between begin end place until (front ++ rest))
TakesShort-first a b held begin end place until front rest within first =
    TakesShort-laid_longer a b held begin end place (first_end place front) until (front ++ rest) (end_of_after place (length front)) within
    (subst (λ (xs : List ℕ). TakesShort a b (held ++ xs)) (first_laid begin end place front rest) first)

-- the others failed
pub TakesShort-second : (a b c : Option (List ℕ)) (held between : List ℕ) (begin end place until : ℕ) (front rest : List ℕ)
    → until ≡ end_of (first_end place front) (length rest)
    → TakesAndHolds a b (held ++ laid_between begin end place (first_end place front) front) between
    → TakesShort b c (between ++ laid_between begin end (first_end place front) until rest)
    → TakesShort a c (held ++ laid_between begin end place until (front ++ rest))
TakesShort-second a b c held between begin end place until front rest ends first then =
    TakesShort-more a b c held between begin end place (first_end place front) until (front ++ rest) rest
    (end_of_after place (length front)) (omega (arith, ends, end_of_after (first_end place front) (length rest)))
    (rest_laid begin end place until front rest)
    (subst (λ (xs : List ℕ). TakesAndHolds a b (held ++ xs) between) (first_laid begin end place front rest) first)
    then
