-- What `show` prints in the hexadecimal form is read back by `write`.
use Rattle.std.proofs.Common.{◌≡◌, ◌∙◌, ℕ, zero, suc, ◌+◌, ◌-◌, ◌≤◌, true, false, None, Ok, List, [], ◌∷◌, ◌++◌, length, map, sym, ap, arith, append_assoc, length-append}
use Rattle.std.specs.Prelude.{slice_index}
use Rattle.std.specs.List.{flat_map}
use Rattle.std.proofs.lemmas.Bool.{eqb-true}
use Rattle.hex.specs.Hex.{IsBytes, encode_lower, is_hex_digit, lower_digits}
use Rattle.hex.proofs.HexLemmas.{decode_of-encode_lower, decode_of-ok, length-encode_with}
use Rattle.record_values.specs.Bytes.{AreBytes}
use Rattle.record_group.specs.Records.{AreRecords, IsRecord}
use Rattle.command_frame.specs.OpenLines.{NoneEnds}
use Rattle.show_command.specs.Readings.{record_line}
use Rattle.show_command.specs.RecordForms.{digits_alone}
use Rattle.write_command.specs.Input.{or_bad_line, record_of_line, taken_before, taken_from}
use Rattle.write_command.proofs.TakenLines.{short-record, taken_from-line, taken_from-nothing}

-- bytes, one by one
are_bytes : (bytes : List ℕ) → AreBytes bytes → IsBytes bytes
are_bytes [] h k = omega arith
are_bytes (b ∷ bs) h zero = h.0
are_bytes (b ∷ bs) h (suc k) = are_bytes bs h.1 k

-- digits end no line
digits-run : (bytes : List ℕ) → IsBytes bytes → NoneEnds (encode_lower bytes)
digits-run bytes small k within ends =
    let ok = decode_of-ok (encode_lower bytes) bytes (decode_of-encode_lower bytes small) in
    let ten : slice_index (encode_lower bytes) k ≡ 10 = eqb-true (slice_index (encode_lower bytes) k) 10 ends in
    let digit : false ≡ true = ap is_hex_digit (sym ten) ∙ ok.1 k 0 within in
    cc digit

-- and stand for their record
digits-taken : (bytes : List ℕ) → IsRecord bytes → record_of_line true (encode_lower bytes) ≡ Ok bytes
digits-taken bytes h =
    short-record true (encode_lower bytes) (omega (arith, length-encode_with lower_digits bytes, h.at_most))
    ∙ ap or_bad_line (decode_of-encode_lower bytes (are_bytes bytes h.are_bytes))

pub digits-back : (placed : List (ℕ × List ℕ)) (limit : ℕ) → AreRecords (map (λ p. p.1) placed)
    → length (flat_map (record_line digits_alone) placed) ≤ limit
    → taken_from (flat_map (record_line digits_alone) placed) true limit ≡ record { records = map (λ p. p.1) placed; stop = None }
digits-back [] limit h within = taken_from-nothing true limit
digits-back (first ∷ placed) limit h within =
    let digits : List ℕ = encode_lower first.1 in
    let more : List ℕ = flat_map (record_line digits_alone) placed in
    let front : (digits ++ 10 ∷ []) ++ more ≡ digits ++ 10 ∷ more = append_assoc digits (10 ∷ []) more in
    ap (λ (text : List ℕ). taken_from text true limit) front
    ∙ taken_from-line digits more true limit (digits-run first.1 (are_bytes first.1 h.0.are_bytes))
    (omega (arith, within, length-append (digits ++ 10 ∷ []) more, length-append digits (10 ∷ [])))
    ∙ ap (λ r. taken_before r (taken_from more true (limit - (length digits + 1)))) (digits-taken first.1 h.0)
    ∙ ap (taken_before (Ok first.1)) (digits-back placed (limit - (length digits + 1)) h.1
    (omega (arith, within, length-append (digits ++ 10 ∷ []) more, length-append digits (10 ∷ []))))
