-- What is taken from an input, line by line, as a feed meets its bytes.
use Rattle.std.proofs.Common.{◌≡◌, ◌∙◌, ℕ, suc, ◌+◌, ◌-◌, ◌<◌, ◌≤◌, ◌⊎◌, Bool, false, not, cond, if◌then◌else◌, nat_le, nat_lt, List, [], ◌∷◌, ◌++◌, Option, Some, None, Result, Ok, Err, length, take, drop, reverse, refl, sym, ap, inl, inr, subst, arith, length-append, length-take, length-drop, append_assoc}
use Rattle.std.specs.List.{concat, prefix_len, suffix_len}
use Rattle.std.proofs.lemmas.Bool.{cond-true, cond-false, cases_Bool, cases_lt, eqb-true, le-leb, lt-leb, lt-ltb, le-ltb, not_from_false, false_from_ne_true}
use Rattle.std.proofs.lemmas.List.{reverse-append, take-append-le, get_or-take, length-take-le}
use Rattle.std.proofs.lemmas.List.Sums.{suffix_len_is, suffix_len-le-length}
use Rattle.std.proofs.Math.Seq.{take-append-add, take-append_seam, drop-append-add}
use Rattle.hex.specs.Hex.{decode_of}
use Rattle.record_writer.specs.declared.feed.Stop.{Stop}
use Rattle.record_writer.specs.declared.feed.Stop.TheVariants.{TooLong, InputTooLong}
use Rattle.record_writer.specs.Feeds.{Rest, stop_alone}
use Rattle.record_writer.specs.FeedSteps.{nothing_left}
use Rattle.command_frame.specs.Lines.{ends_line, lines}
use Rattle.command_frame.specs.OpenLines.{NoneEnds}
use Rattle.write_command.specs.Input.{running, up_to_last_end, line_limit, or_bad_line, record_of_line, taken_before, taken_lines, stop_past_limit, taken_from}
use Rattle.command_frame.proofs.Lines.{lines-first, lines-last, length-le-lines, NoneEnds-append, NoneEnds-cons}

NoneEnds-take : (n : ℕ) (bytes : List ℕ) → NoneEnds bytes → NoneEnds (take n bytes)
NoneEnds-take n bytes none k h e =
    none k (omega (arith, length-take n bytes)) (sym (ap ends_line (get_or-take n bytes k 0 (omega (arith, length-take n bytes)))) ∙ e)

-- the first byte 10 of some bytes: the line before it, and the bytes after it
record HasEnd (bytes : List ℕ) : Type 0 where
  line : List ℕ
  after : List ℕ
  is : bytes ≡ line ++ 10 ∷ after
  none : NoneEnds line

HasEnd-cons : (b : ℕ) (bs : List ℕ) → ends_line b ≡ false → HasEnd bs → HasEnd (b ∷ bs)
HasEnd-cons b bs within found = record {
  line = b ∷ found.line;
  after = found.after;
  is = ap (λ (l : List ℕ). b ∷ l) found.is;
  none = NoneEnds-cons b found.line within found.none;
}

-- no byte of a list ends a line, or a first one does
cases_end : (bytes : List ℕ) → NoneEnds bytes ⊎ HasEnd bytes
cases_end [] = inl (λ k h. absurd (omega arith))
cases_end (b ∷ bs) = elim (cases_Bool (ends_line b)) [
  | inl at_end ↦ inr (record {
    line = [];
    after = bs;
    is = ap (λ (x : ℕ). x ∷ bs) (eqb-true b 10 at_end);
    none = λ k h. absurd (omega arith);
  })
  | inr within ↦ elim (cases_end bs) [
    | inl none ↦ inl (NoneEnds-cons b bs within none)
    | inr found ↦ inr (HasEnd-cons b bs within found)
  ]
]

-- a count from the front stops at an element that fails
prefix_len-stop : (p : ℕ → Bool) (xs : List ℕ) (y : ℕ) (ys : List ℕ) → p y ≡ false → prefix_len p (xs ++ y ∷ ys) ≡ prefix_len p xs
prefix_len-stop p [] y ys fails = cond-false (p y) (1 + prefix_len p ys) 0 fails
prefix_len-stop p (x ∷ xs) y ys fails = ap (λ (n : ℕ). cond (p x) (1 + n) 0) (prefix_len-stop p xs y ys fails)

-- a byte that ends no line
abbrev runs : ℕ → Bool
runs b = not (ends_line b)

-- the line that runs after the last byte 10, and the bytes up to it, do not depend on the line that comes first
suffix_len-line : (line rest : List ℕ) → suffix_len runs (line ++ 10 ∷ rest) ≡ suffix_len runs rest
suffix_len-line line rest =
    ap (prefix_len runs) (reverse-append line (10 ∷ rest) ∙ ap (λ (l : List ℕ). l ++ reverse line) (reverse-append (10 ∷ []) rest) ∙ append_assoc (reverse rest) (10 ∷ []) (reverse line))
    ∙ prefix_len-stop runs (reverse rest) 10 (reverse line) refl

running-line : (line rest : List ℕ) → running (line ++ 10 ∷ rest) ≡ running rest
running-line line rest =
    let n : ℕ = suffix_len runs rest in
    let at : length (line ++ 10 ∷ rest) - suffix_len runs (line ++ 10 ∷ rest) ≡ length line + suc (length rest - n) =
    omega (arith, suffix_len-line line rest, suffix_len-le-length runs rest, length-append line (10 ∷ rest)) in
    ap (λ (m : ℕ). drop m (line ++ 10 ∷ rest)) at ∙ drop-append-add line (10 ∷ rest) (suc (length rest - n))

length-running-le : (bytes : List ℕ) → length (running bytes) ≤ length bytes
length-running-le bytes = omega (arith, length-drop (length bytes - suffix_len runs bytes) bytes)

up_to_last_end-line : (line rest : List ℕ) → up_to_last_end (line ++ 10 ∷ rest) ≡ line ++ 10 ∷ up_to_last_end rest
up_to_last_end-line line rest =
    let at : length (line ++ 10 ∷ rest) - length (running (line ++ 10 ∷ rest)) ≡ length line + suc (length rest - length (running rest)) =
    omega (arith, ap length (running-line line rest), length-running-le rest, length-append line (10 ∷ rest)) in
    ap (λ (m : ℕ). take m (line ++ 10 ∷ rest)) at ∙ take-append-add line (10 ∷ rest) (suc (length rest - length (running rest)))

-- bytes with no byte 10 are a line that runs
running-none : (line : List ℕ) → NoneEnds line → running line ≡ line
running-none line none =
    let all : suffix_len runs line ≡ length line - 0 =
    suffix_len_is runs line 0 0 (omega arith) (λ k _ h. not_from_false _ (false_from_ne_true _ (none k h))) (λ h. absurd (omega arith)) in
    let at : length line - suffix_len runs line ≡ 0 = omega arith in
    ap (λ (m : ℕ). drop m line) at

up_to_last_end-none : (line : List ℕ) → NoneEnds line → up_to_last_end line ≡ []
up_to_last_end-none line none =
    let at : length line - length (running line) ≡ 0 = omega (arith, ap length (running-none line none)) in
    ap (λ (m : ℕ). take m line) at

-- the two cases of a limit
pub taken_from-within : (input : List ℕ) (hex : Bool) (limit : ℕ) → length input ≤ limit
    → taken_from input hex limit ≡ taken_lines hex (lines input) None
unfolding taken_from
taken_from-within input hex limit h = cond-true (nat_le (length input) limit) _ _ (le-leb (length input) limit h)

pub taken_from-past : (input : List ℕ) (hex : Bool) (limit : ℕ) → limit < length input
    → taken_from input hex limit
    ≡ taken_lines hex (lines (up_to_last_end (take limit input))) (Some (stop_past_limit hex (running (take limit input))))
unfolding taken_from
taken_from-past input hex limit h = cond-false (nat_le (length input) limit) _ _ (lt-leb (length input) limit h)

-- a line that ends within the limit comes before what is taken from the bytes after it
pub taken_from-line : (line rest : List ℕ) (hex : Bool) (limit : ℕ) → NoneEnds line → length line < limit
    → taken_from (line ++ 10 ∷ rest) hex limit ≡ taken_before (record_of_line hex line) (taken_from rest hex (limit - (length line + 1)))
taken_from-line line rest hex limit none fits = elim (cases_lt limit (length (line ++ 10 ∷ rest))) [
  | inl past ↦
      let less : ℕ = limit - (length line + 1) in
      let front : take limit (line ++ 10 ∷ rest) ≡ line ++ 10 ∷ take less rest =
      (let at : limit ≡ length line + suc less = omega arith in
      ap (λ (m : ℕ). take m (line ++ 10 ∷ rest)) at ∙ take-append-add line (10 ∷ rest) (suc less)) in
      taken_from-past (line ++ 10 ∷ rest) hex limit past
      ∙ ap (λ (l : List ℕ). taken_lines hex (lines (up_to_last_end l)) (Some (stop_past_limit hex (running l)))) front
      ∙ ap (λ (l : List ℕ). taken_lines hex (lines l) (Some (stop_past_limit hex (running (line ++ 10 ∷ take less rest))))) (up_to_last_end-line line (take less rest))
      ∙ ap (λ (l : List ℕ). taken_lines hex (lines (line ++ 10 ∷ up_to_last_end (take less rest))) (Some (stop_past_limit hex l))) (running-line line (take less rest))
      ∙ ap (λ (l : List (List ℕ)). taken_lines hex l (Some (stop_past_limit hex (running (take less rest))))) (lines-first line (up_to_last_end (take less rest)) none)
      ∙ ap (taken_before (record_of_line hex line)) (sym (taken_from-past rest hex less (omega (arith, length-append line (10 ∷ rest)))))
  | inr within ↦
      taken_from-within (line ++ 10 ∷ rest) hex limit within
      ∙ ap (λ (l : List (List ℕ)). taken_lines hex l None) (lines-first line rest none)
      ∙ ap (taken_before (record_of_line hex line)) (sym (taken_from-within rest hex (limit - (length line + 1)) (omega (arith, length-append line (10 ∷ rest)))))
]

-- nothing is taken from no bytes
pub taken_from-nothing : (hex : Bool) (limit : ℕ) → taken_from [] hex limit ≡ nothing_left
taken_from-nothing hex limit = taken_from-within [] hex limit (omega arith)

-- bytes within the limit that end no line are the last line
pub taken_from-last : (line : List ℕ) (hex : Bool) (limit : ℕ) → NoneEnds line → 0 < length line → length line ≤ limit
    → taken_from line hex limit ≡ taken_before (record_of_line hex line) nothing_left
taken_from-last line hex limit none some within =
    taken_from-within line hex limit within ∙ ap (λ (l : List (List ℕ)). taken_lines hex l None) (lines-last line none some)

-- bytes that go past the limit, and end no line within it, give the stop
taken_from-no_end : (input : List ℕ) (hex : Bool) (limit : ℕ) → NoneEnds (take limit input) → limit < length input
    → taken_from input hex limit ≡ stop_alone (stop_past_limit hex (take limit input))
taken_from-no_end input hex limit none past =
    taken_from-past input hex limit past
    ∙ ap (λ (l : List ℕ). taken_lines hex (lines l) (Some (stop_past_limit hex (running (take limit input))))) (up_to_last_end-none (take limit input) none)
    ∙ ap (λ (l : List ℕ). stop_alone (stop_past_limit hex l)) (running-none (take limit input) none)

-- as those of a line that runs up to the limit
pub taken_from-running : (line rest : List ℕ) (hex : Bool) → NoneEnds line → length line ≤ line_limit hex → 0 < length rest
    → taken_from (line ++ rest) hex (length line) ≡ stop_alone InputTooLong
taken_from-running line rest hex none short some =
    let front : take (length line) (line ++ rest) ≡ line = take-append_seam line rest in
    taken_from-no_end (line ++ rest) hex (length line) (subst NoneEnds (sym front) none) (omega (arith, length-append line rest))
    ∙ ap (λ (l : List ℕ). stop_alone (stop_past_limit hex l)) front
    ∙ ap stop_alone (cond-false (nat_lt (line_limit hex) (length line)) _ _ (le-ltb (line_limit hex) (length line) short))

-- a short line is its record, or stands for it in the hexadecimal form
pub short-record : (hex : Bool) (line : List ℕ) → length line ≤ line_limit hex
    → record_of_line hex line ≡ (if hex then or_bad_line (decode_of line) else Ok line)
short-record hex line short = cond-false (nat_lt (line_limit hex) (length line)) _ _ (le-ltb (line_limit hex) (length line) short)

-- a line that is too long is refused, and so is one that runs at the limit
pub long-refused : (line : List ℕ) (hex : Bool) (rest : Rest) → line_limit hex < length line → taken_before (record_of_line hex line) rest ≡ stop_alone TooLong
long-refused line hex rest long =
    ap (λ (r : Result (List ℕ) Stop). taken_before r rest) (cond-true (nat_lt (line_limit hex) (length line)) _ _ (lt-ltb (line_limit hex) (length line) long))

long-running : (input : List ℕ) (hex : Bool) (limit : ℕ) → NoneEnds (take limit input) → limit < length input → line_limit hex < limit
    → taken_from input hex limit ≡ stop_alone TooLong
long-running input hex limit none past long =
    let size : length (take limit input) ≡ limit = length-take-le limit input (omega arith) in
    taken_from-no_end input hex limit none past
    ∙ ap stop_alone (cond-true (nat_lt (line_limit hex) (length (take limit input))) _ _ (lt-ltb (line_limit hex) (length (take limit input)) (omega arith)))

-- whatever comes after the bytes by which a line is too long
long-unended : (line : List ℕ) (hex : Bool) (limit : ℕ) → NoneEnds line → line_limit hex < length line → line_limit hex < limit
    → taken_from line hex limit ≡ stop_alone TooLong
long-unended line hex limit none long far = elim (cases_lt limit (length line)) [
  | inl past ↦ long-running line hex limit (NoneEnds-take limit line none) past far
  | inr within ↦ taken_from-last line hex limit none (omega arith) within ∙ long-refused line hex nothing_left long
]

long-ended : (line rest : List ℕ) (hex : Bool) (limit : ℕ) → NoneEnds line → line_limit hex < length line → line_limit hex < limit
    → taken_from (line ++ 10 ∷ rest) hex limit ≡ stop_alone TooLong
long-ended line rest hex limit none long far = elim (cases_lt (length line) limit) [
  | inl fits ↦ taken_from-line line rest hex limit none fits ∙ long-refused line hex (taken_from rest hex (limit - (length line + 1))) long
  | inr past ↦
      let front : take limit (line ++ 10 ∷ rest) ≡ take limit line = take-append-le limit line (10 ∷ rest) past in
      long-running (line ++ 10 ∷ rest) hex limit (subst NoneEnds (sym front) (NoneEnds-take limit line none)) (omega (arith, length-append line (10 ∷ rest))) far
]

pub taken_from-long : (line rest : List ℕ) (hex : Bool) (limit : ℕ) → NoneEnds line → line_limit hex < length line → length line ≤ limit
    → taken_from (line ++ rest) hex limit ≡ stop_alone TooLong
taken_from-long line rest hex limit none long within = elim (cases_end rest) [
  | inl unended ↦ long-unended (line ++ rest) hex limit (NoneEnds-append line rest none unended) (omega (arith, length-append line rest)) (omega arith)
  | inr found ↦
      let whole : line ++ rest ≡ (line ++ found.line) ++ 10 ∷ found.after =
      ap (λ (l : List ℕ). line ++ l) found.is ∙ sym (append_assoc line found.line (10 ∷ found.after)) in
      ap (λ (l : List ℕ). taken_from l hex limit) whole
      ∙ long-ended (line ++ found.line) found.after hex limit (NoneEnds-append line found.line none found.none) (omega (arith, length-append line found.line)) (omega arith)
]

-- where nothing is left of lines, there was none, and no stop was given
taken_before-some : (r : Result (List ℕ) Stop) (rest : Rest) → taken_before r rest ≡ nothing_left → ⊥
taken_before-some (Ok bytes) rest e = let none : bytes ∷ rest.records ≡ [] = ap (λ (r : Rest). r.records) e in cc
taken_before-some (Err stop) rest e = let none : Some stop ≡ None = ap (λ (r : Rest). r.stop) e in cc

taken_lines-spent : (hex : Bool) (parts : List (List ℕ)) (stop : Option Stop) → taken_lines hex parts stop ≡ nothing_left
    → (parts ≡ []) × (stop ≡ None)
taken_lines-spent hex [] stop e = (refl, ap (λ (r : Rest). r.stop) e)
taken_lines-spent hex (line ∷ parts) stop e = absurd (taken_before-some (record_of_line hex line) (taken_lines hex parts stop) e)

pub no_lines : (input : List ℕ) → lines input ≡ [] → input ≡ []
no_lines [] e = refl
no_lines (b ∷ bs) e =
    let none : length (b ∷ bs) ≤ 0 =
    subst (λ (parts : List (List ℕ)). length (b ∷ bs) ≤ length (concat parts) + length parts) e (length-le-lines (b ∷ bs)) in
    absurd (omega arith)

-- where nothing is left, nothing was there
pub taken_from-spent : (input : List ℕ) (hex : Bool) (limit : ℕ) → taken_from input hex limit ≡ nothing_left → input ≡ []
taken_from-spent input hex limit spent = elim (cases_lt limit (length input)) [
  | inl past ↦
      let none = taken_lines-spent hex _ _ (sym (taken_from-past input hex limit past) ∙ spent) in
      let given : Some (stop_past_limit hex (running (take limit input))) ≡ None = none.1 in cc
  | inr within ↦
      let none = taken_lines-spent hex _ _ (sym (taken_from-within input hex limit within) ∙ spent) in
      no_lines input none.0
]
