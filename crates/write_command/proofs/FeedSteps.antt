-- What a feed of lines gave of its text, and what is left of it then.
use Rattle.std.proofs.Common.{◌≡◌, ◌∙◌, ℕ, ◌+◌, ◌-◌, ◌<◌, ◌≤◌, ◌↔◌, Bool, true, false, not, IsTrue, List, [], ◌∷◌, ◌++◌, Option, Some, None, Result, Ok, length, take, drop, option_map, unwrap_or, refl, sym, ap, subst, arith, length-append, append_assoc, append-nil}
use Rattle.std.specs.Option.{IfSome}
use Rattle.std.proofs.lemmas.List.{take-append-drop, length-take-le}
use Rattle.hex.specs.Hex.{decode_of}
use Rattle.record_writer.specs.declared.feed.Stop.{Stop}
use Rattle.record_writer.specs.declared.feed.Stop.TheVariants.{TooLong, InputTooLong}
use Rattle.record_writer.specs.Feeds.{Rest, stop_alone}
use Rattle.record_writer.specs.FeedSteps.{GivesRecord, nothing_left}
use Rattle.command_frame.specs.OpenLines.{NoneEnds}
use Rattle.write_command.specs.Input.{line_limit, or_bad_line, record_of_line, taken_before, taken_from}
use Rattle.write_command.specs.LineFeeds.{GivesLine, text_of, rest_of}
use Rattle.command_frame.proofs.Lines.{NoneEnds-append}
use Rattle.write_command.proofs.TakenLines.{taken_from-line, taken_from-nothing, taken_from-last, taken_from-running, taken_from-long, taken_from-spent, short-record}

-- a line before a text
text_of-append : (line held : List ℕ) (left : Option (List ℕ)) → text_of (line ++ held) left ≡ option_map (λ (bytes : List ℕ). line ++ bytes) (text_of held left)
text_of-append line held None = refl
text_of-append line held (Some bytes) = ap Some (append_assoc line held bytes)

-- a line before a text that stays
pub text_of-kept : (line held held_then : List ℕ) (left left_then text : Option (List ℕ)) → text_of (line ++ held) left ≡ text
    → text_of held_then left_then ≡ text_of held left → text_of (line ++ held_then) left_then ≡ text
text_of-kept line held held_then left left_then text same kept =
    text_of-append line held_then left_then ∙ ap (option_map (λ (bytes : List ℕ). line ++ bytes)) kept ∙ sym (text_of-append line held left) ∙ same

-- rests that are the same give the same
GivesLine-same : (hex : Bool) (before before_is after after_is : Option Rest) (line : List ℕ) → before ≡ before_is → after ≡ after_is → GivesLine hex before after line → GivesLine hex before_is after_is line
GivesLine-same hex before before_is after after_is line b a gives =
    subst (λ (r : Option Rest). GivesLine hex before_is r line) a (subst (λ (r : Option Rest). GivesLine hex r after line) b gives)

-- the record of a line that was given is the line, or what its digits stand for, or they are none and the line is refused
pub line-record : (hex : Bool) (before after : Option Rest) (line : List ℕ) → hex ≡ false → length line ≤ line_limit hex → GivesLine hex before after line
    → GivesRecord before after line
line-record true before after line plain short gives = absurd (cc plain)
line-record false None after line plain short gives = tt
line-record false (Some r) after line plain short gives =
    (gives.0, gives.1, gives.2 ∙ ap (λ b. taken_before b gives.0) (short-record false line short))

pub digits-record : (hex : Bool) (before after : Option Rest) (line bytes : List ℕ) → hex ≡ true → length line ≤ line_limit hex → decode_of line ≡ Ok bytes
    → GivesLine hex before after line → GivesRecord before after bytes
digits-record false before after line bytes digits short decoded gives = absurd (cc digits)
digits-record true None after line bytes digits short decoded gives = tt
digits-record true (Some r) after line bytes digits short decoded gives =
    (gives.0, gives.1, gives.2 ∙ ap (λ b. taken_before b gives.0) (short-record true line short ∙ ap or_bad_line decoded))

-- a line that runs where the limit is passed
past-told : (hex : Bool) (bound : ℕ) (line : List ℕ) (left : Option (List ℕ)) → NoneEnds line → length line ≤ line_limit hex
    → bound ≡ length line + 1 → IfSome left (λ bytes. 0 < length bytes) → IfSome (rest_of hex bound (text_of line left)) (λ r. r ≡ stop_alone InputTooLong)
past-told hex bound line None none short is some = tt
past-told hex bound line (Some bytes) none short is some =
    let limit : bound - 1 ≡ length line = omega arith in
    ap (taken_from (line ++ bytes) hex) limit ∙ taken_from-running line bytes hex none short some

pub stop-past : (hex : Bool) (bound asked : ℕ) (line held : List ℕ) (left text : Option (List ℕ)) (stop : Stop) → NoneEnds line → length line ≤ line_limit hex
    → length line + (length held + asked) ≡ bound → text_of (line ++ held) left ≡ text
    → (stop ≡ InputTooLong) × (length held + asked ≡ 1) × IfSome (text_of held left) (λ bytes. 0 < length bytes)
    → IfSome (rest_of hex bound text) (λ r. r ≡ stop_alone stop)
stop-past hex bound asked line held left text stop none short is same past =
    let all : text_of line (text_of held left) ≡ text = sym (text_of-append line held left) ∙ same in
    subst (λ (s : Stop). IfSome (rest_of hex bound text) (λ r. r ≡ stop_alone s)) (sym past.0)
    (subst (λ (t : Option (List ℕ)). IfSome (rest_of hex bound t) (λ r. r ≡ stop_alone InputTooLong)) all
    (past-told hex bound line (text_of held left) none short (omega (arith, is, past.1)) past.2))

-- a text of which some bytes are held has some
pub text-some : (held : List ℕ) (left text : Option (List ℕ)) → 0 < length held → text_of held left ≡ text → IfSome text (λ bytes. 0 < length bytes)
text-some held left None some is = tt
text-some held None (Some bytes) some is = absurd (cc is)
text-some held (Some rest) (Some bytes) some is =
    let e : held ++ rest ≡ bytes = (let k : Some (held ++ rest) ≡ Some bytes = is in cc) in
    omega (arith, some, ap length e, length-append held rest)

-- a line that is too long, of which n bytes are held
long-told : (hex : Bool) (bound : ℕ) (line held : List ℕ) (n : ℕ) (left : Option (List ℕ)) → NoneEnds line → NoneEnds (take n held) → n ≤ length held
    → line_limit hex < length line + n → length line + length held < bound → IfSome (rest_of hex bound (text_of (line ++ held) left)) (λ r. r ≡ stop_alone TooLong)
long-told hex bound line held n None front back within long far = tt
long-told hex bound line held n (Some bytes) front back within long far =
    let size : length (line ++ take n held) ≡ length line + n = omega (arith, length-append line (take n held), length-take-le n held within) in
    let parts : (line ++ held) ++ bytes ≡ (line ++ take n held) ++ (drop n held ++ bytes) =
    ap (λ (l : List ℕ). l ++ bytes) (ap (λ (l : List ℕ). line ++ l) (sym (take-append-drop n held)) ∙ sym (append_assoc line (take n held) (drop n held)))
    ∙ append_assoc (line ++ take n held) (drop n held) bytes in
    ap (λ (l : List ℕ). taken_from l hex (bound - 1)) parts
    ∙ taken_from-long (line ++ take n held) (drop n held ++ bytes) hex (bound - 1) (NoneEnds-append line (take n held) front back) (omega arith) (omega arith)

pub stop-long : (hex hex_held : Bool) (bound asked : ℕ) (line held : List ℕ) (left text : Option (List ℕ)) (stop : Stop) → hex_held ≡ hex → NoneEnds line
    → length line + (length held + asked) ≡ bound → 0 < asked → text_of (line ++ held) left ≡ text
    → (stop ≡ TooLong) × ((n : ℕ) × (NoneEnds (take n held) × (n ≤ length held) × (line_limit hex_held < length line + n)))
    → IfSome (rest_of hex bound text) (λ r. r ≡ stop_alone stop)
stop-long hex hex_held bound asked line held left text stop form none is asking same long =
    let over : line_limit hex < length line + long.1.0 = subst (λ (h : Bool). line_limit h < length line + long.1.0) form long.1.1.2 in
    subst (λ (s : Stop). IfSome (rest_of hex bound text) (λ r. r ≡ stop_alone s)) (sym long.0)
    (subst (λ (t : Option (List ℕ)). IfSome (rest_of hex bound t) (λ r. r ≡ stop_alone TooLong)) same
    (long-told hex bound line held long.1.0 left none long.1.1.0 long.1.1.1 over (omega arith)))

-- a line that ended
line-told : (hex : Bool) (bound after : ℕ) (line held : List ℕ) (left : Option (List ℕ)) → NoneEnds line → bound ≡ length line + 1 + after → 0 < after
    → GivesLine hex (rest_of hex bound (text_of (line ++ 10 ∷ held) left)) (rest_of hex after (text_of held left)) line
line-told hex bound after line held None none is some = tt
line-told hex bound after line held (Some bytes) none is some =
    let limit : bound - 1 - (length line + 1) ≡ after - 1 = omega arith in (
      taken_from (held ++ bytes) hex (after - 1),
      refl,
      ap (λ (l : List ℕ). taken_from l hex (bound - 1)) (append_assoc line (10 ∷ held) bytes)
          ∙ taken_from-line line (held ++ bytes) hex (bound - 1) none (omega arith)
          ∙ ap (λ (m : ℕ). taken_before (record_of_line hex line) (taken_from (held ++ bytes) hex m)) limit,
    )

-- the line that ends a text
last-told : (hex : Bool) (bound : ℕ) (line : List ℕ) (left : Option (List ℕ)) → NoneEnds line → 0 < length line → length line < bound
    → GivesLine hex (rest_of hex bound (option_map (λ _. line) left)) (rest_of hex 0 (option_map (λ _. []) left)) line
last-told hex bound line None none some within = tt
last-told hex bound line (Some bytes) none some within =
    (nothing_left, ap Some (taken_from-nothing hex 0), taken_from-last line hex (bound - 1) none some (omega arith))

-- a text of which nothing is left but the line
spent : (line held held_then : List ℕ) (left left_then text : Option (List ℕ)) → text_of (line ++ held) left ≡ text
    → text_of held_then left_then ≡ text_of held left → held_then ≡ [] → unwrap_or left_then [] ≡ [] → text ≡ option_map (λ _. line) left_then
spent line held held_then None None text same kept empty ended = sym same
spent line held held_then None (Some bytes) text same kept empty ended = absurd (let e : Some (held_then ++ bytes) ≡ None = kept in cc)
spent line held held_then (Some left) None text same kept empty ended = absurd (let e : None ≡ Some (held ++ left) = kept in cc)
spent line held held_then (Some left) (Some bytes) text same kept empty ended =
    let e : held_then ++ bytes ≡ held ++ left = (let k : Some (held_then ++ bytes) ≡ Some (held ++ left) = kept in cc) in
    let none : held ++ left ≡ [] = sym e ∙ ap (λ (l : List ℕ). l ++ bytes) empty ∙ ended in
    sym same ∙ ap Some (append_assoc line held left ∙ ap (λ (l : List ℕ). line ++ l) none ∙ append-nil line)

-- and of which nothing at all is left
nothing_held : (held : List ℕ) (left : Option (List ℕ)) → held ≡ [] → unwrap_or left [] ≡ [] → text_of held left ≡ option_map (λ _. []) left
nothing_held held None empty ended = refl
nothing_held held (Some bytes) empty ended = ap Some (ap (λ (l : List ℕ). l ++ bytes) empty ∙ ended)

-- the last line, which no byte 10 ended
pub next-last : (hex hex_then : Bool) (bound bound_then asked : ℕ) (line held held_then : List ℕ) (left left_then text : Option (List ℕ)) → hex_then ≡ hex
    → NoneEnds line → 0 < length line → length line + (length held + asked) ≡ bound → 0 < asked → bound_then ≡ 0
    → text_of (line ++ held) left ≡ text → text_of held_then left_then ≡ text_of held left → held_then ≡ [] → unwrap_or left_then [] ≡ []
    → GivesLine hex (rest_of hex bound text) (rest_of hex_then bound_then (text_of held_then left_then)) line
next-last hex hex_then bound bound_then asked line held held_then left left_then text form none some is asking zero same kept empty ended =
    let before : rest_of hex bound (option_map (λ _. line) left_then) ≡ rest_of hex bound text =
    ap (rest_of hex bound) (sym (spent line held held_then left left_then text same kept empty ended)) in
    let after : rest_of hex 0 (option_map (λ _. []) left_then) ≡ rest_of hex_then bound_then (text_of held_then left_then) =
    ap (rest_of hex 0) (sym (nothing_held held_then left_then empty ended)) ∙ ap (λ (h : Bool). rest_of h 0 (text_of held_then left_then)) (sym form)
    ∙ ap (λ (m : ℕ). rest_of hex_then m (text_of held_then left_then)) (sym zero) in
    GivesLine-same hex _ _ _ _ line before after (last-told hex bound line left_then none some (omega arith))

-- what an answer at the end of a text says of the line that was read
pub some-line : {E : Type 0} (line : List ℕ) (r : Bool) → (IsTrue r ↔ (line ≡ [])) → ◌≡◌ {A = Result Bool E} (Ok (not r)) (Ok true) → 0 < length line
some-line [] true empty is = absurd (cc is)
some-line [] false empty is = absurd (cc (empty.1 refl))
some-line (b ∷ bs) r empty is = omega arith

pub no_line : {E : Type 0} (line : List ℕ) (r : Bool) → (IsTrue r ↔ (line ≡ [])) → ◌≡◌ {A = Result Bool E} (Ok (not r)) (Ok false) → line ≡ []
no_line line true empty is = empty.0 refl
no_line line false empty is = absurd (cc is)

-- a text that is spent
rest-spent : (hex : Bool) (bound : ℕ) (left : Option (List ℕ)) → rest_of hex bound (option_map (λ _. []) left) ≡ option_map (λ _. nothing_left) left
rest-spent hex bound None = refl
rest-spent hex bound (Some bytes) = ap Some (taken_from-nothing hex (bound - 1))

pub at_end-spent : (hex : Bool) (bound : ℕ) (line held held_then : List ℕ) (left left_then text : Option (List ℕ)) → line ≡ []
    → text_of (line ++ held) left ≡ text → text_of held_then left_then ≡ text_of held left → held_then ≡ [] → unwrap_or left_then [] ≡ []
    → rest_of hex bound text ≡ option_map (λ _. nothing_left) left_then
at_end-spent hex bound line held held_then left left_then text nothing same kept empty ended =
    ap (rest_of hex bound) (spent line held held_then left left_then text same kept empty ended ∙ ap (λ (l : List ℕ). option_map (λ _. l) left_then) nothing)
    ∙ rest-spent hex bound left_then

pub rest-kept : (hex : Bool) (bound : ℕ) (held : List ℕ) (left : Option (List ℕ)) → held ≡ [] → unwrap_or left [] ≡ []
    → rest_of hex bound (text_of held left) ≡ option_map (λ _. nothing_left) left
rest-kept hex bound held left empty ended =
    ap (rest_of hex bound) (nothing_held held left empty ended) ∙ rest-spent hex bound left

pub told-spent : (rest : Option Rest) (left : Option (List ℕ)) → rest ≡ option_map (λ _. nothing_left) left → IfSome rest (λ r. r ≡ nothing_left)
told-spent None left is = tt
told-spent (Some r) None is = absurd (cc is)
told-spent (Some r) (Some bytes) is = (let e : Some r ≡ Some nothing_left = is in cc)

-- a line that ended, as it was held
pub next-line : (hex hex_then : Bool) (bound asked asked_then n : ℕ) (line held held_then given : List ℕ) (left left_then text : Option (List ℕ)) → hex_then ≡ hex
    → NoneEnds line → NoneEnds (take n held) → given ≡ line ++ take n held → held ≡ take n held ++ 10 ∷ held_then
    → length line + (length held + asked) ≡ bound → 0 < asked_then → asked_then ≡ asked → left_then ≡ left → text_of (line ++ held) left ≡ text
    → GivesLine hex (rest_of hex bound text) (rest_of hex_then (length held_then + asked_then) (text_of held_then left_then)) given
next-line hex hex_then bound asked asked_then n line held held_then given left left_then text form front back is parts counted asking same_asked same_left same =
    let piece : List ℕ = take n held in
    let whole : given ++ 10 ∷ held_then ≡ line ++ held =
    ap (λ (l : List ℕ). l ++ 10 ∷ held_then) is ∙ append_assoc line piece (10 ∷ held_then) ∙ ap (λ (l : List ℕ). line ++ l) (sym parts) in
    let before : rest_of hex bound (text_of (given ++ 10 ∷ held_then) left) ≡ rest_of hex bound text =
    ap (rest_of hex bound) (ap (λ (l : List ℕ). text_of l left) whole ∙ same) in
    let after : rest_of hex (length held_then + asked_then) (text_of held_then left) ≡ rest_of hex_then (length held_then + asked_then) (text_of held_then left_then) =
    ap (λ (l : Option (List ℕ)). rest_of hex (length held_then + asked_then) (text_of held_then l)) (sym same_left)
    ∙ ap (λ (h : Bool). rest_of h (length held_then + asked_then) (text_of held_then left_then)) (sym form) in
    let size : bound ≡ length given + 1 + (length held_then + asked_then) =
    omega (arith, ap length is, length-append line piece, ap length parts, length-append piece (10 ∷ held_then)) in
    GivesLine-same hex _ _ _ _ given before after
    (line-told hex bound (length held_then + asked_then) given held_then left (subst NoneEnds (sym is) (NoneEnds-append line piece front back)) size (omega arith))

-- no byte of none ends a line
pub NoneEnds-none : NoneEnds []
NoneEnds-none k within = absurd (omega arith)

-- the back of a list that is empty
no_back : (front back : List ℕ) → front ++ back ≡ [] → back ≡ []
no_back [] back e = e
no_back (x ∷ front) back e = absurd (cc e)

-- where nothing is left of a feed, its input has nothing left
pub input-spent : (hex : Bool) (bound : ℕ) (held : List ℕ) (left : Option (List ℕ)) → rest_of hex bound (text_of held left) ≡ Some nothing_left → left ≡ Some []
input-spent hex bound held None e = absurd (let n : None ≡ Some nothing_left = e in cc)
input-spent hex bound held (Some bytes) e =
    let none : taken_from (held ++ bytes) hex (bound - 1) ≡ nothing_left = (let s : Some (taken_from (held ++ bytes) hex (bound - 1)) ≡ Some nothing_left = e in cc) in
    ap Some (no_back held bytes (taken_from-spent (held ++ bytes) hex (bound - 1) none))
