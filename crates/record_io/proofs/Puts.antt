-- Bytes that go to several sinks, in their order.
use Rattle.std.proofs.Common.{◌≡◌, ◌∙◌, ℕ, zero, suc, ◌<◌, true, false, Option, Some, None, List, [], ◌∷◌, ◌++◌, length, take, drop, refl, sym, ap, subst, inl, inr, arith, append-nil, append_assoc}
use Rattle.std.proofs.lemmas.List.{take-append-drop}
use Rattle.std.proofs.lemmas.Bool.{cases_Bool, cond-true, cond-false}
use Rattle.record_io.specs.Outside.{Takes, TakesShort}
use Rattle.record_io.specs.Calls.{TakesFront}
use Rattle.record_io.specs.Buffers.{TakesAndHolds, GoOutOrAreHeld}
use Rattle.record_io.specs.Puts.{Stream, Made, Out, Notes, Put, Taken, taken_by, GoOut, BreaksOff, is_stream, puts_to, bytes_to}
use Rattle.record_io.proofs.Calls.{Takes-nothing, Takes-append}

-- bytes that are put behind others
pub bytes_to-append : (s : Stream) (ps qs : List Put) → bytes_to s (ps ++ qs) ≡ bytes_to s ps ++ bytes_to s qs
bytes_to-append s [] qs = refl
bytes_to-append s (p ∷ ps) qs = elim (cases_Bool (is_stream s p.to)) [
  | inl here ↦
      cond-true _ _ _ here ∙ ap (λ (xs : List ℕ). p.byte ∷ xs) (bytes_to-append s ps qs)
      ∙ sym (ap (λ (xs : List ℕ). xs ++ bytes_to s qs) (cond-true _ _ _ here))
  | inr there ↦
      cond-false _ _ _ there ∙ bytes_to-append s ps qs
      ∙ sym (ap (λ (xs : List ℕ). xs ++ bytes_to s qs) (cond-false _ _ _ there))
]

-- bytes that all go to one stream
is_stream-same : (s : Stream) → is_stream s s ≡ true
is_stream-same Made = refl
is_stream-same Out = refl
is_stream-same Notes = refl

pub bytes_to-own : (s : Stream) (bytes : List ℕ) → bytes_to s (puts_to s bytes) ≡ bytes
bytes_to-own s [] = refl
bytes_to-own s (b ∷ bytes) = cond-true _ _ _ (is_stream-same s) ∙ ap (λ (xs : List ℕ). b ∷ xs) (bytes_to-own s bytes)

-- and none to another
pub bytes_to-other : (s t : Stream) (bytes : List ℕ) → is_stream s t ≡ false → bytes_to s (puts_to t bytes) ≡ []
bytes_to-other s t [] other = refl
bytes_to-other s t (b ∷ bytes) other = cond-false _ _ _ other ∙ bytes_to-other s t bytes other

pub puts_to-append : (s : Stream) (xs ys : List ℕ) → puts_to s (xs ++ ys) ≡ puts_to s xs ++ puts_to s ys
puts_to-append s [] ys = refl
puts_to-append s (x ∷ xs) ys = ap (λ (ps : List Put). record { to = s; byte = x } ∷ ps) (puts_to-append s xs ys)

-- a front of them is one of these and more
pub puts_to-front : (s : Stream) (bytes : List ℕ) (count : ℕ) (more : List Put)
    → (rest : List Put) × (puts_to s bytes ++ more ≡ puts_to s (take count bytes) ++ rest)
puts_to-front s bytes count more =
    let parts : puts_to s bytes ≡ puts_to s (take count bytes) ++ puts_to s (drop count bytes) =
    ap (puts_to s) (sym (take-append-drop count bytes)) ∙ puts_to-append s (take count bytes) (drop count bytes) in (
      puts_to s (drop count bytes) ++ more,
      ap (λ (ps : List Put). ps ++ more) parts ∙ append_assoc (puts_to s (take count bytes)) (puts_to s (drop count bytes)) more,
    )

-- what is put behind what went out
pub GoOut-append : (a b c : Taken) (ps qs : List Put) → GoOut a b ps → GoOut b c qs → GoOut a c (ps ++ qs)
GoOut-append a b c ps qs first then = record {
  made = subst (λ (xs : List ℕ). Takes a.made c.made xs) (sym (bytes_to-append Made ps qs))
      (Takes-append a.made b.made c.made (bytes_to Made ps) (bytes_to Made qs) first.made then.made);
  out = subst (λ (xs : List ℕ). Takes a.out c.out xs) (sym (bytes_to-append Out ps qs))
      (Takes-append a.out b.out c.out (bytes_to Out ps) (bytes_to Out qs) first.out then.out);
  notes = subst (λ (xs : List ℕ). Takes a.notes c.notes xs) (sym (bytes_to-append Notes ps qs))
      (Takes-append a.notes b.notes c.notes (bytes_to Notes ps) (bytes_to Notes qs) first.notes then.notes);
}

-- nothing
pub GoOut-nothing : (a : Taken) → GoOut a a []
GoOut-nothing a = record { made = Takes-nothing a.made; out = Takes-nothing a.out; notes = Takes-nothing a.notes }

-- bytes that go to one stream
own : (s : Stream) (bytes : List ℕ) (a b : Option (List ℕ)) → Takes a b bytes → Takes a b (bytes_to s (puts_to s bytes))
own s bytes a b h = subst (λ (xs : List ℕ). Takes a b xs) (sym (bytes_to-own s bytes)) h

other : (s t : Stream) (bytes : List ℕ) (a : Option (List ℕ)) → is_stream s t ≡ false → Takes a a (bytes_to s (puts_to t bytes))
other s t bytes a differ = subst (λ (xs : List ℕ). Takes a a xs) (sym (bytes_to-other s t bytes differ)) (Takes-nothing a)

pub GoOut-made : (before after out notes : Option (List ℕ)) (bytes : List ℕ) → Takes before after bytes
    → GoOut (taken_by before out notes) (taken_by after out notes) (puts_to Made bytes)
GoOut-made before after out notes bytes h =
    record { made = own Made bytes before after h; out = other Out Made bytes out refl; notes = other Notes Made bytes notes refl }

pub GoOut-out : (made before after notes : Option (List ℕ)) (bytes : List ℕ) → Takes before after bytes
    → GoOut (taken_by made before notes) (taken_by made after notes) (puts_to Out bytes)
GoOut-out made before after notes bytes h =
    record { made = other Made Out bytes made refl; out = own Out bytes before after h; notes = other Notes Out bytes notes refl }

pub GoOut-notes : (made out before after : Option (List ℕ)) (bytes : List ℕ) → Takes before after bytes
    → GoOut (taken_by made out before) (taken_by made out after) (puts_to Notes bytes)
GoOut-notes made out before after bytes h =
    record { made = other Made Notes bytes made refl; out = other Out Notes bytes out refl; notes = own Notes bytes before after h }

-- a front of bytes that a sink took
pub TakesFront-count : (a b : Option (List ℕ)) (bytes : List ℕ) → TakesFront a b bytes → (n : ℕ) × Takes a b (take n bytes)
TakesFront-count None b bytes h = (0, tt)
TakesFront-count (Some taken) b bytes h = (h.0, h.2)

-- what is put breaks off before a byte of those that go to a stream
BreaksOff-bytes : (s : Stream) (bytes : List ℕ) (count : ℕ) → count < length bytes → BreaksOff s (puts_to s (take count bytes)) (puts_to s bytes)
BreaksOff-bytes s [] count less = absurd (omega (arith, less))
BreaksOff-bytes s (b ∷ bytes) zero less = record { byte = b; rest = puts_to s bytes; parts = refl }
BreaksOff-bytes s (b ∷ bytes) (suc count) less =
    let more = BreaksOff-bytes s bytes count (omega (arith, less)) in
    record { byte = more.byte; rest = more.rest; parts = ap (λ (ps : List Put). record { to = s; byte = b } ∷ ps) more.parts }

-- one of what is put is one behind what went before
pub BreaksOff-behind : (s : Stream) (first part puts : List Put) → BreaksOff s part puts → BreaksOff s (first ++ part) (first ++ puts)
BreaksOff-behind s first part puts h = record {
  byte = h.byte;
  rest = h.rest;
  parts = ap (λ (ps : List Put). first ++ ps) h.parts ∙ sym (append_assoc first part (record { to = s; byte = h.byte } ∷ h.rest));
}

-- within the last of what is put
pub BreaksOff-last : (s : Stream) (before : List Put) (bytes : List ℕ) (count : ℕ) → count < length bytes
    → BreaksOff s (before ++ puts_to s (take count bytes)) (before ++ puts_to s bytes)
BreaksOff-last s before bytes count less =
    BreaksOff-behind s before (puts_to s (take count bytes)) (puts_to s bytes) (BreaksOff-bytes s bytes count less)

-- and one of more
pub BreaksOff-longer : (s : Stream) (part puts more : List Put) → BreaksOff s part puts → BreaksOff s part (puts ++ more)
BreaksOff-longer s part puts more h = record {
  byte = h.byte;
  rest = h.rest ++ more;
  parts = ap (λ (ps : List Put). ps ++ more) h.parts ∙ append_assoc part (record { to = s; byte = h.byte } ∷ h.rest) more;
}

-- it is a front
pub BreaksOff-front : (s : Stream) (part puts : List Put) → BreaksOff s part puts → (rest : List Put) × (puts ≡ part ++ rest)
BreaksOff-front s part puts h = (record { to = s; byte = h.byte } ∷ h.rest, h.parts)

-- nothing is held
pub GoOutOrAreHeld-none : (a b : Taken) (s : Stream) (puts : List Put) → GoOut a b puts → GoOutOrAreHeld a b s puts []
GoOutOrAreHeld-none a b s puts went = record { passed = puts; parts = sym (append-nil puts); went = went }

pub GoOut-none_held : (a b : Taken) (s : Stream) (puts : List Put) (held : List ℕ) → held ≡ [] → GoOutOrAreHeld a b s puts held → GoOut a b puts
GoOut-none_held a b s puts held none h =
    subst (λ (ps : List Put). GoOut a b ps)
    (sym (h.parts ∙ ap (λ (xs : List ℕ). h.passed ++ puts_to s xs) none ∙ append-nil h.passed)) h.went

-- what was held for standard output goes out
pub GoOut-flushed : (a : Taken) (made b c notes : Option (List ℕ)) (puts : List Put) (held : List ℕ)
    → GoOutOrAreHeld a (taken_by made b notes) Out puts held → Takes b c held → GoOut a (taken_by made c notes) puts
GoOut-flushed a made b c notes puts held h took =
    subst (λ (ps : List Put). GoOut a (taken_by made c notes) ps) (sym h.parts)
    (GoOut-append a (taken_by made b notes) (taken_by made c notes) h.passed (puts_to Out held) h.went (GoOut-out made b c notes held took))

-- or standard output fails: a front went out, which puts the same in notes
pub GoOut-unflushed : (a : Taken) (made b c notes : Option (List ℕ)) (puts : List Put) (held : List ℕ)
    → GoOutOrAreHeld a (taken_by made b notes) Out puts held → TakesShort b c held
    → (part : List Put) × BreaksOff Out part puts × GoOut a (taken_by made c notes) part × (bytes_to Notes part ≡ bytes_to Notes puts)
GoOut-unflushed a made b c notes puts held h short =
    let last : List ℕ = take short.0 held in (
      h.passed ++ puts_to Out last,
      subst (λ (ps : List Put). BreaksOff Out (h.passed ++ puts_to Out last) ps) (sym h.parts) (BreaksOff-last Out h.passed held short.0 short.1),
      GoOut-append a (taken_by made b notes) (taken_by made c notes) h.passed (puts_to Out last) h.went (GoOut-out made b c notes last short.2),
      bytes_to-append Notes h.passed (puts_to Out last)
          ∙ ap (λ (xs : List ℕ). bytes_to Notes h.passed ++ xs) (bytes_to-other Notes Out last refl ∙ sym (bytes_to-other Notes Out held refl))
          ∙ sym (ap (bytes_to Notes) h.parts ∙ bytes_to-append Notes h.passed (puts_to Out held)),
    )

-- bytes that are held, and more behind them
held_more : (puts passed : List Put) (s : Stream) (held more : List ℕ) → puts ≡ passed ++ puts_to s held
    → puts ++ puts_to s more ≡ passed ++ puts_to s (held ++ more)
held_more puts passed s held more parts =
    ap (λ (ps : List Put). ps ++ puts_to s more) parts
    ∙ append_assoc passed (puts_to s held) (puts_to s more)
    ∙ ap (λ (ps : List Put). passed ++ ps) (sym (puts_to-append s held more))

-- more is put behind what is held
pub GoOutOrAreHeld-more : (a : Taken) (made b c notes : Option (List ℕ)) (puts : List Put) (held more then : List ℕ)
    → GoOutOrAreHeld a (taken_by made b notes) Out puts held → TakesAndHolds b c (held ++ more) then
    → GoOutOrAreHeld a (taken_by made c notes) Out (puts ++ puts_to Out more) then
GoOutOrAreHeld-more a made b c notes puts held more then h put = record {
  passed = h.passed ++ puts_to Out put.passed;
  parts = held_more puts h.passed Out held more h.parts
      ∙ ap (λ (xs : List ℕ). h.passed ++ puts_to Out xs) put.parts
      ∙ ap (λ (ps : List Put). h.passed ++ ps) (puts_to-append Out put.passed then)
      ∙ sym (append_assoc h.passed (puts_to Out put.passed) (puts_to Out then));
  went = GoOut-append a (taken_by made b notes) (taken_by made c notes) h.passed (puts_to Out put.passed) h.went
      (GoOut-out made b c notes put.passed put.taken);
}

-- or standard output fails at that
pub GoOut-broken : (a : Taken) (made b c notes : Option (List ℕ)) (puts : List Put) (held more : List ℕ)
    → GoOutOrAreHeld a (taken_by made b notes) Out puts held → TakesShort b c (held ++ more)
    → (part : List Put) × BreaksOff Out part (puts ++ puts_to Out more) × GoOut a (taken_by made c notes) part
    × (bytes_to Notes part ≡ bytes_to Notes (puts ++ puts_to Out more))
GoOut-broken a made b c notes puts held more h short =
    GoOut-unflushed a made b c notes (puts ++ puts_to Out more) (held ++ more)
    (record { passed = h.passed; parts = held_more puts h.passed Out held more h.parts; went = h.went }) short
