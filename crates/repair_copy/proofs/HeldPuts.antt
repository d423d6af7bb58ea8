-- What is put behind what a made file holds.
use Rattle.std.proofs.Common.{◌≡◌, ◌≢◌, ◌∙◌, ℕ, Option, None, List, [], ◌∷◌, ◌++◌, length, length-append, take, refl, sym, ap, subst, append_assoc, arith}
use Rattle.std.proofs.Math.Seq.{take-append_seam}
use Rattle.record_io.specs.Outside.{Takes}
use Rattle.record_io.specs.Buffers.{TakesAndHolds, GoOutOrAreHeld}
use Rattle.record_io.specs.Puts.{Stream, Made, Notes, Put, Taken, taken_by, puts_to, GoOut, BreaksOff}
use Rattle.record_io.proofs.Puts.{puts_to-append, GoOut-append, GoOut-made, BreaksOff-last, BreaksOff-behind}
use Rattle.repair_copy.specs.Copies.{BreaksOffBy}
use Rattle.repair_copy.specs.declared.repairs.RepairEnd.{RepairEnd}
use Rattle.repair_copy.specs.declared.repairs.RepairEnd.TheVariants as end

-- more is put behind what is held
pub held_more : (a b c : Taken) (ps qs : List Put) (held now : List ℕ) → GoOutOrAreHeld a b Made ps held
    → GoOutOrAreHeld b c Made (puts_to Made held ++ qs) now → GoOutOrAreHeld a c Made (ps ++ qs) now
held_more a b c ps qs held now first then = record {
  passed = first.passed ++ then.passed;
  parts = ap (λ (xs : List Put). xs ++ qs) first.parts
      ∙ append_assoc first.passed (puts_to Made held) qs
      ∙ ap (λ (xs : List Put). first.passed ++ xs) then.parts
      ∙ sym (append_assoc first.passed then.passed (puts_to Made now));
  went = GoOut-append a b c first.passed then.passed first.went then.went;
}

-- or breaks off
held_broken : (s : Stream) (a b : Taken) (ps part qs : List Put) (held : List ℕ) (h : GoOutOrAreHeld a b Made ps held)
    → BreaksOff s part (puts_to Made held ++ qs) → BreaksOff s (h.passed ++ part) (ps ++ qs)
held_broken s a b ps part qs held h broken =
    subst (λ (xs : List Put). BreaksOff s (h.passed ++ part) xs)
    (sym (append_assoc h.passed (puts_to Made held) qs) ∙ ap (λ (xs : List Put). xs ++ qs) (sym h.parts))
    (BreaksOff-behind s h.passed part (puts_to Made held ++ qs) broken)

-- at the sink that failed
pub held_broken_by : (end : RepairEnd) (a b : Taken) (ps part qs : List Put) (held : List ℕ) (h : GoOutOrAreHeld a b Made ps held)
    → BreaksOffBy end part (puts_to Made held ++ qs) → BreaksOffBy end (h.passed ++ part) (ps ++ qs)
held_broken_by end.Made a b ps part qs held h broken = held_broken Made a b ps part qs held h broken
held_broken_by end.Notes a b ps part qs held h broken = held_broken Notes a b ps part qs held h broken
held_broken_by end.Store a b ps part qs held h broken = absurd broken
held_broken_by end.Memory a b ps part qs held h broken = absurd broken
held_broken_by (end.Stopped region) a b ps part qs held h broken = absurd broken

-- a front of bytes to one stream, behind which some are held and others follow
pub breaks_off-front : (s : Stream) (bytes front held rest : List ℕ) → bytes ≡ front ++ (held ++ rest) → rest ≢ []
    → BreaksOff s (puts_to s front) (puts_to s bytes)
breaks_off-front s bytes front held [] is some = absurd (some refl)
breaks_off-front s bytes front held (b ∷ rest) is some =
    subst (λ (xs : List ℕ). BreaksOff s (puts_to s xs) (puts_to s bytes))
    (ap (λ (xs : List ℕ). take (length front) xs) is ∙ take-append_seam front (held ++ b ∷ rest))
    (BreaksOff-last s [] bytes (length front)
    (omega (arith, ap length is, length-append front (held ++ b ∷ rest), length-append held (b ∷ rest))))

-- what the made file took and holds
pub held_made : (a b notes : Option (List ℕ)) (bytes held : List ℕ) → TakesAndHolds a b bytes held
    → GoOutOrAreHeld (taken_by a None notes) (taken_by b None notes) Made (puts_to Made bytes) held
held_made a b notes bytes held h = record {
  passed = puts_to Made h.passed;
  parts = ap (puts_to Made) h.parts ∙ puts_to-append Made h.passed held;
  went = GoOut-made a b None notes h.passed h.taken;
}

-- what is held went out
pub held_flushed : (before : Taken) (a b notes : Option (List ℕ)) (ps : List Put) (held : List ℕ)
    → GoOutOrAreHeld before (taken_by a None notes) Made ps held → Takes a b held → GoOut before (taken_by b None notes) ps
held_flushed before a b notes ps held h taken =
    subst (λ (xs : List Put). GoOut before (taken_by b None notes) xs) (sym h.parts)
    (GoOut-append before (taken_by a None notes) (taken_by b None notes) h.passed (puts_to Made held) h.went (GoOut-made a b None notes held taken))
