-- How much of its input a feed of lines leaves.
use Rattle.std.proofs.Common.{◌≡◌, ◌∙◌, ℕ, ◌+◌, ◌-◌, List, [], Option, Some, None, is_some, length, drop, unwrap_or, ap, arith, length-drop}
use Rattle.record_io.specs.Outside.{Gives}
use Rattle.record_writer.specs.FeedSteps.{Origin}
use Rattle.command_frame.specs.RunTakes.{TakesAtMost}
use Rattle.write_command.specs.LineFeeds.{origin_of}

-- origins of the same name that show the same
same-origin : (name name_then spared spared_then : ℕ) → name_then ≡ name → spared_then ≡ spared
    → ◌≡◌ {A = Origin} (record { name = name_then; spared = Some spared_then }) (record { name = name; spared = Some spared })
same-origin name name_then spared spared_then same less =
    ap (λ (n : ℕ). record { name = n; spared = Some spared_then }) same ∙ ap (λ (n : ℕ). record { name = name; spared = Some n }) less

-- a feed that asks for as much less as its input gave leaves as much of it
pub origin_of-taken : (name name_then asked asked_then : ℕ) (left left_then : Option (List ℕ)) (bytes : List ℕ) → name_then ≡ name
    → asked ≡ asked_then + length bytes → Gives left left_then bytes → is_some left_then ≡ is_some left
    → origin_of name_then asked_then left_then ≡ origin_of name asked left
origin_of-taken name name_then asked asked_then None None bytes same counted gives told =
    ap (λ (n : ℕ). record { name = n; spared = None }) same
origin_of-taken name name_then asked asked_then None (Some rest) bytes same counted gives told = absurd (cc told)
origin_of-taken name name_then asked asked_then (Some all) left_then bytes same counted gives told =
    let less : length (drop (length bytes) all) - asked_then ≡ length all - asked = omega (arith, counted, length-drop (length bytes) all) in
    ap (λ (l : Option (List ℕ)). origin_of name_then asked_then l) gives.1
    ∙ same-origin name name_then (length all - asked) (length (drop (length bytes) all) - asked_then) same less

-- and so does one that asks for no more where nothing is left
pub origin_of-ended : (name name_then asked : ℕ) (left left_then : Option (List ℕ)) → name_then ≡ name → unwrap_or left [] ≡ [] → unwrap_or left_then [] ≡ []
    → is_some left_then ≡ is_some left → origin_of name_then 0 left_then ≡ origin_of name asked left
origin_of-ended name name_then asked None None same before ended told = ap (λ (n : ℕ). record { name = n; spared = None }) same
origin_of-ended name name_then asked None (Some rest) same before ended told = absurd (cc told)
origin_of-ended name name_then asked (Some all) None same before ended told = absurd (cc told)
origin_of-ended name name_then asked (Some all) (Some rest) same before ended told =
    let less : length rest - 0 ≡ length all - asked = omega (arith, ap length before, ap length ended) in
    same-origin name name_then (length all - asked) (length rest - 0) same less

-- or one that takes nothing
pub origin_of-same : (name name_then asked asked_then : ℕ) (left left_then : Option (List ℕ)) → name_then ≡ name → asked_then ≡ asked → left_then ≡ left
    → origin_of name_then asked_then left_then ≡ origin_of name asked left
origin_of-same name name_then asked asked_then left left_then same same_asked same_left =
    ap (λ (n : ℕ). origin_of n asked_then left_then) same ∙ ap (λ (m : ℕ). origin_of name m left_then) same_asked ∙ ap (origin_of name asked) same_left

-- at most so many bytes were taken of an input of which a feed asked for so many and still leaves as much
pub taken-at_most : (name name_then most asked : ℕ) (left left_then : Option (List ℕ)) → origin_of name_then asked left_then ≡ origin_of name most left
    → TakesAtMost most left left_then
taken-at_most name name_then most asked None left_then same = tt
taken-at_most name name_then most asked (Some all) None same = absurd (let none : None ≡ Some (length all - most) = ap (λ (o : Origin). o.spared) same in cc none)
taken-at_most name name_then most asked (Some all) (Some rest) same =
    let less : length rest - asked ≡ length all - most = (let e : Some (length rest - asked) ≡ Some (length all - most) = ap (λ (o : Origin). o.spared) same in cc e) in
    omega (arith, less)
