-- Records that lie joined: one more, one of them, and all of them.
use Rattle.std.proofs.Common.{◌≡◌, ◌∙◌, ℕ, ◌+◌, ◌-◌, List, [], ◌∷◌, ◌++◌, length, take, drop, sym, ap, subst, arith, slice_range}
use Rattle.std.specs.List.{AllByRecursion, concat}
use Rattle.std.proofs.lemmas.List.{length-append, drop-drop, drop_all, take-append-drop}
use Rattle.record_values.specs.Bytes.{AreBytes}
use Rattle.simple_chunk.specs.Records.{parts_from, AreEnds}
use Rattle.simple_chunk.proofs.Parts.{AreEnds-push, parts_from-behind}

-- one more end makes the bytes behind the others one more record
pub pushed : (ends values rec new_ends new_values : List ℕ) → AreEnds 0 ends (length values)
    → new_values ≡ values ++ rec → new_ends ≡ ends ++ length new_values ∷ []
    → AreEnds 0 new_ends (length new_values) × (parts_from 0 new_ends new_values ≡ parts_from 0 ends values ++ rec ∷ [])
pushed ends values rec new_ends new_values h appended ended =
    rw (ended, appended) (
      AreEnds-push 0 ends (length values) (length (values ++ rec)) h (omega (arith, length-append values rec)),
      parts_from-behind 0 ends values rec h,
    )

-- the records joined are the bytes from the first begin on
pub concat-parts_from : (begin : ℕ) (ends values : List ℕ) → AreEnds begin ends (length values)
    → concat (parts_from begin ends values) ≡ drop begin values
concat-parts_from begin [] values h = sym (drop_all begin values (omega arith))
concat-parts_from begin (end ∷ ends) values h =
    let place : begin + (end - begin) ≡ end = omega (arith, h.0) in
    ap (λ (bytes : List ℕ). slice_range values begin end ++ bytes)
    (concat-parts_from end ends values h.1 ∙ sym (drop-drop (end - begin) begin values ∙ ap (λ (n : ℕ). drop n values) place))
    ∙ take-append-drop (end - begin) (drop begin values)

-- parts of bytes are bytes
AreBytes-left : (xs ys : List ℕ) → AreBytes (xs ++ ys) → AreBytes xs
AreBytes-left [] ys h = tt
AreBytes-left (x ∷ xs) ys h = (h.0, AreBytes-left xs ys h.1)

AreBytes-right : (xs ys : List ℕ) → AreBytes (xs ++ ys) → AreBytes ys
AreBytes-right [] ys h = h
AreBytes-right (x ∷ xs) ys h = AreBytes-right xs ys h.1

pub AreBytes-drop : (n : ℕ) (xs : List ℕ) → AreBytes xs → AreBytes (drop n xs)
AreBytes-drop n xs h = AreBytes-right (take n xs) (drop n xs) (subst AreBytes (sym (take-append-drop n xs)) h)

-- records are bytes where they are joined
pub AreBytes-records : (records : List (List ℕ)) → AreBytes (concat records) → AllByRecursion AreBytes records
AreBytes-records [] h = tt
AreBytes-records (record_bytes ∷ records) h = (
  AreBytes-left record_bytes (concat records) h,
  AreBytes-records records (AreBytes-right record_bytes (concat records) h),
)

-- where a record ends behind others
pub end-behind : (values slice record_bytes now : List ℕ) (end : ℕ) → slice ≡ values → now ≡ values ++ record_bytes
    → end ≡ length slice + length record_bytes → end ≡ length now
end-behind values slice record_bytes now end same appends is =
    omega (arith, is, ap length same, ap length appends, length-append values record_bytes)
