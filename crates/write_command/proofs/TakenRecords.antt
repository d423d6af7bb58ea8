-- The records that are taken from an input: they can be written, and where nothing stops them they are its lines.
use Rattle.std.proofs.Common.{◌≡◌, ◌≢◌, ◌∙◌, ℕ, ◌-◌, ◌<◌, ◌≤◌, Bool, true, false, List, [], ◌∷◌, ◌++◌, Option, Some, None, Result, Ok, Err, length, take, arith, nat_lt, refl, sym, ap, subst, inl, inr, if◌then◌else◌}
use Rattle.std.specs.Prelude.{slice_index}
use Rattle.std.specs.List.{AllByRecursion, flat_map, onto_first}
use Rattle.std.proofs.lemmas.Bool.{cond-true, cond-false, cases_Bool, cases_lt, eqb-true, lt-ltb}
use Rattle.std.proofs.lemmas.List.{get_or_default}
use Rattle.std.proofs.lemmas.List.Elements.{All-from_recursion, recursion_from_All, All-take}
use Rattle.hex.specs.Hex.{decode_of}
use Rattle.hex.specs.declared.error.FromHexError.{FromHexError}
use Rattle.hex.proofs.HexLemmas.{decode_of-ok}
use Rattle.record_values.specs.Bytes.{AreBytes}
use Rattle.record_group.specs.Records.{AreRecords, IsRecord}
use Rattle.record_writer.specs.declared.feed.Stop.{Stop}
use Rattle.record_writer.specs.declared.feed.Stop.TheVariants.{TooLong}
use Rattle.record_writer.specs.Feeds.{Rest}
use Rattle.command_frame.specs.Answers.{line}
use Rattle.command_frame.specs.Lines.{ends_line, lines}
use Rattle.write_command.specs.Input.{running, up_to_last_end, line_limit, or_bad_line, record_of_line, taken_before, taken_lines, stop_past_limit, taken_from}
use Rattle.write_command.specs.LastLines.{with_last_end}
use Rattle.command_frame.proofs.Lines.{lines-cons}
use Rattle.write_command.proofs.TakenLines.{taken_from-within, taken_from-past, short-record, long-refused, no_lines}

-- a front of bytes is bytes
AreBytes-take : (n : ℕ) (bytes : List ℕ) → AreBytes bytes → AreBytes (take n bytes)
AreBytes-take n bytes h =
    recursion_from_All (λ b. b < 256) (take n bytes) (All-take (λ b. b < 256) n bytes (All-from_recursion (λ b. b < 256) bytes h))

-- so are the lines
onto_first-bytes : (b : ℕ) (parts : List (List ℕ)) → b < 256 → AllByRecursion AreBytes parts → AllByRecursion AreBytes (onto_first b parts)
onto_first-bytes b [] small h = ((small, tt), tt)
onto_first-bytes b (part ∷ parts) small h = ((small, h.0), h.1)

lines-bytes : (bytes : List ℕ) → AreBytes bytes → AllByRecursion AreBytes (lines bytes)
lines-bytes [] h = tt
lines-bytes (b ∷ bs) h = elim (cases_Bool (ends_line b)) [
  | inl at_end ↦
      subst (AllByRecursion AreBytes) (sym (cond-true (ends_line b) ([] ∷ lines bs) (onto_first b (lines bs)) at_end)) (tt, lines-bytes bs h.1)
  | inr within ↦
      subst (AllByRecursion AreBytes) (sym (lines-cons b bs within)) (onto_first-bytes b (lines bs) h.0 (lines-bytes bs h.1))
]

-- a short line comes before the records of the lines behind it
short-before : (text : List ℕ) (rest : Rest) → length text ≤ line_limit false
    → taken_before (record_of_line false text) rest ≡ taken_before (Ok text) rest
short-before text rest short = ap (λ (r : Result (List ℕ) Stop). taken_before r rest) (short-record false text short)

-- digits that stand for bytes
or_bad_line-ok : (decoded : Result (List ℕ) FromHexError) (bytes : List ℕ) → or_bad_line decoded ≡ Ok bytes → decoded ≡ Ok bytes
or_bad_line-ok (Ok found) bytes is = ap Ok (let e : ◌≡◌ {A = Result (List ℕ) Stop} (Ok found) (Ok bytes) = is in cc)
or_bad_line-ok (Err e) bytes is = absurd (cc is)

-- a line that is a record isn't too long
short-line : (hex : Bool) (part bytes : List ℕ) → record_of_line hex part ≡ Ok bytes
    → (length part ≤ line_limit hex) × ((if hex then or_bad_line (decode_of part) else Ok part) ≡ Ok bytes)
short-line hex part bytes is = elim (cases_lt (line_limit hex) (length part)) [
  | inl long ↦
      let refused : ◌≡◌ {A = Result (List ℕ) Stop} (Err TooLong) (Ok bytes) = sym (cond-true (nat_lt (line_limit hex) (length part)) _ _ (lt-ltb (line_limit hex) (length part) long)) ∙ is in
      absurd (cc refused)
  | inr short ↦ (short, sym (short-record hex part short) ∙ is)
]

same-bytes : (part bytes : List ℕ) → ◌≡◌ {A = Result (List ℕ) Stop} (Ok part) (Ok bytes) → part ≡ bytes
same-bytes part bytes is = cc is

-- its record can be written
record-of_short : (hex : Bool) (part bytes : List ℕ) → AreBytes part → length part ≤ line_limit hex
    → (if hex then or_bad_line (decode_of part) else Ok part) ≡ Ok bytes → IsRecord bytes
record-of_short true part bytes h short is =
    let ok = decode_of-ok part bytes (or_bad_line-ok (decode_of part) bytes is) in record {
      are_bytes = recursion_from_All (λ b. b < 256) bytes (λ k d within. subst (λ (b : ℕ). b < 256) (get_or_default bytes k 0 d within) (ok.3 k));
      at_most = omega (arith, ok.2);
    }
record-of_short false part bytes h short is = subst IsRecord (same-bytes part bytes is) (record { are_bytes = h; at_most = short })

-- and is no longer than the line
shorter-of_short : (hex : Bool) (part bytes : List ℕ) → (if hex then or_bad_line (decode_of part) else Ok part) ≡ Ok bytes → length bytes ≤ length part
shorter-of_short true part bytes is = omega (arith, decode_of-ok part bytes (or_bad_line-ok (decode_of part) bytes is))
shorter-of_short false part bytes is = omega (arith, ap length (same-bytes part bytes is))

record_of_line-record : (hex : Bool) (part bytes : List ℕ) → AreBytes part → record_of_line hex part ≡ Ok bytes → IsRecord bytes
record_of_line-record hex part bytes h is = let short = short-line hex part bytes is in record-of_short hex part bytes h short.0 short.1

pub record_of_line-shorter : (hex : Bool) (part bytes : List ℕ) → record_of_line hex part ≡ Ok bytes → length bytes ≤ length part
record_of_line-shorter hex part bytes is = shorter-of_short hex part bytes (short-line hex part bytes is).1

-- records that are taken can be written
before-records : (first : Result (List ℕ) Stop) (rest : Rest) → ((bytes : List ℕ) → first ≡ Ok bytes → IsRecord bytes) → AreRecords rest.records
    → AreRecords (taken_before first rest).records
before-records (Ok bytes) rest first h = (first bytes refl, h)
before-records (Err stop) rest first h = tt

taken_lines-records : (hex : Bool) (parts : List (List ℕ)) (stop : Option Stop) → AllByRecursion AreBytes parts → AreRecords (taken_lines hex parts stop).records
taken_lines-records hex [] stop h = tt
taken_lines-records hex (part ∷ parts) stop h =
    before-records (record_of_line hex part) (taken_lines hex parts stop)
    (λ bytes is. record_of_line-record hex part bytes h.0 is) (taken_lines-records hex parts stop h.1)

pub taken_from-records : (input : List ℕ) (hex : Bool) (limit : ℕ) → AreBytes input → AreRecords (taken_from input hex limit).records
taken_from-records input hex limit h = elim (cases_lt limit (length input)) [
  | inl past ↦
      let front : List ℕ = take limit input in
      subst (λ (r : Rest). AreRecords r.records) (sym (taken_from-past input hex limit past))
      (taken_lines-records hex (lines (up_to_last_end front)) (Some (stop_past_limit hex (running front)))
      (lines-bytes (up_to_last_end front) (AreBytes-take (length front - length (running front)) front (AreBytes-take limit input h))))
  | inr within ↦
      subst (λ (r : Rest). AreRecords r.records) (sym (taken_from-within input hex limit within))
      (taken_lines-records hex (lines input) None (lines-bytes input h))
]

-- lines that nothing stops are all taken
taken_lines-all : (parts : List (List ℕ)) (stop : Option Stop) → (taken_lines false parts stop).stop ≡ None
    → ((taken_lines false parts stop).records ≡ parts) × (stop ≡ None)
taken_lines-all [] stop is = (refl, is)
taken_lines-all (part ∷ parts) stop is = elim (cases_lt (line_limit false) (length part)) [
  | inl long ↦
      let refused : Some TooLong ≡ None = sym (ap (λ (r : Rest). r.stop) (long-refused part false (taken_lines false parts stop) long)) ∙ is in
      absurd (cc refused)
  | inr short ↦
      let first = short-before part (taken_lines false parts stop) short in
      let rest = taken_lines-all parts stop (sym (ap (λ (r : Rest). r.stop) first) ∙ is) in
      (ap (λ (r : Rest). r.records) first ∙ ap (λ (rs : List (List ℕ)). part ∷ rs) rest.0, rest.1)
]

-- so are those of an input
pub taken_from-all : (input : List ℕ) (limit : ℕ) → (taken_from input false limit).stop ≡ None → (taken_from input false limit).records ≡ lines input
taken_from-all input limit is = elim (cases_lt limit (length input)) [
  | inl past ↦
      let front : List ℕ = take limit input in
      let given : Option Stop = Some (stop_past_limit false (running front)) in
      let none = taken_lines-all (lines (up_to_last_end front)) given (sym (ap (λ (r : Rest). r.stop) (taken_from-past input false limit past)) ∙ is) in
      let some : Some (stop_past_limit false (running front)) ≡ None = none.1 in
      absurd (cc some)
  | inr within ↦
      let whole = taken_from-within input false limit within in
      ap (λ (r : Rest). r.records) whole ∙ (taken_lines-all (lines input) None (sym (ap (λ (r : Rest). r.stop) whole) ∙ is)).0
]

-- a byte before the last line's end
onto_first-line : (b : ℕ) (parts : List (List ℕ)) → parts ≢ [] → flat_map line (onto_first b parts) ≡ b ∷ flat_map line parts
onto_first-line b [] some = absurd (some refl)
onto_first-line b (part ∷ parts) some = refl

either-cons : (ended : Bool) (b : ℕ) (xs ys : List ℕ) → (if ended then b ∷ xs else b ∷ ys) ≡ b ∷ (if ended then xs else ys)
either-cons true b xs ys = refl
either-cons false b xs ys = refl

with_last_end-cons : (b c : ℕ) (bs : List ℕ) → with_last_end (b ∷ c ∷ bs) ≡ b ∷ with_last_end (c ∷ bs)
with_last_end-cons b c bs =
    either-cons (ends_line (slice_index (c ∷ bs) (length bs))) b (c ∷ bs) ((c ∷ bs) ++ 10 ∷ [])

-- the lines of an input, each with its end, are the input with the last one
pub lines-joined : (input : List ℕ) → flat_map line (lines input) ≡ with_last_end input
lines-joined [] = refl
lines-joined (b ∷ []) = elim (cases_Bool (ends_line b)) [
  | inl at_end ↦
      ap (flat_map line) (cond-true (ends_line b) ([] ∷ []) ((b ∷ []) ∷ []) at_end)
      ∙ ap (λ (n : ℕ). n ∷ []) (sym (eqb-true b 10 at_end))
      ∙ sym (cond-true (ends_line b) (b ∷ []) (b ∷ 10 ∷ []) at_end)
  | inr within ↦
      ap (flat_map line) (cond-false (ends_line b) ([] ∷ []) ((b ∷ []) ∷ []) within)
      ∙ sym (cond-false (ends_line b) (b ∷ []) (b ∷ 10 ∷ []) within)
]
lines-joined (b ∷ c ∷ bs) = elim (cases_Bool (ends_line b)) [
  | inl at_end ↦
      ap (flat_map line) (cond-true (ends_line b) ([] ∷ lines (c ∷ bs)) (onto_first b (lines (c ∷ bs))) at_end)
      ∙ ap (λ (xs : List ℕ). 10 ∷ xs) (lines-joined (c ∷ bs))
      ∙ ap (λ (n : ℕ). n ∷ with_last_end (c ∷ bs)) (sym (eqb-true b 10 at_end))
      ∙ sym (with_last_end-cons b c bs)
  | inr within ↦
      ap (flat_map line) (lines-cons b (c ∷ bs) within)
      ∙ onto_first-line b (lines (c ∷ bs)) (λ none. let empty : c ∷ bs ≡ [] = no_lines (c ∷ bs) none in cc empty)
      ∙ ap (λ (xs : List ℕ). b ∷ xs) (lines-joined (c ∷ bs))
      ∙ sym (with_last_end-cons b c bs)
]
