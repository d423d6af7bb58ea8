-- What std reads as a number, in the words for numbers.
use Rattle.std.proofs.Common.{◌≡◌, ◌<◌, ◌^◌, ℕ, true, false, Result, Ok, Err, List, length, refl, rules, nat_lt}
use Rattle.std.specs.Char.{is_ascii_digit}
use Rattle.std.specs.List.{list_all}
use Rattle.std.specs.Result.{result_ok, OkIff}
use Rattle.std.specs.Str.Parse.{ParsesUnsigned}
use Rattle.std.proofs.lemmas.Bool.{and_parts, lt-ltb, ltb-true, leb-true, false_from_ne_true}
use Rattle.std.proofs.lemmas.Str.Parse.{IsNumeralModel, numerals_by_weight, parse_digits}
use Rattle.command_frame.specs.Numbers.{is_numeral, decimal_value, number_in}

decimals : IsNumeralModel (λ word. list_all is_ascii_digit word ≡ true) decimal_value
decimals = numerals_by_weight _ (search rules) decimal_value (search rules)

-- a number of digits is the one that std reads
read : {E : Type 0} (word : List ℕ) (r : Result ℕ E) → is_numeral word ≡ true
    → OkIff r ((0 < length word) × (decimal_value word < 2 ^ 64)) (decimal_value word) → result_ok r ≡ number_in word
read word (Ok n) numeral is = rw (numeral, lt-ltb _ _ is.0.1, is.1) refl
read word (Err e) numeral other =
    let nonempty : 0 < length word = leb-true 1 (length word) (and_parts _ _ (and_parts _ _ numeral).0).0 in
    let too_large : nat_lt (decimal_value word) (2 ^ 64) ≡ false = false_from_ne_true _ (λ below. other (nonempty, ltb-true _ _ below)) in
    rw (numeral, too_large) refl

pub number_in-parsed : {E : Type 0} (word : List ℕ) (r : Result ℕ E) → is_numeral word ≡ true
    → ParsesUnsigned 64 10 word r → result_ok r ≡ number_in word
number_in-parsed word r numeral parsed = read word r numeral (parse_digits decimals 64 word r parsed (and_parts _ _ numeral).1)
