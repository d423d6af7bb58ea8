-- Numbers counted by hand, computed from the definitions.
use Rattle.std.proofs.Common.{◌≡◌, ◌-◌, ◌^◌, Some, None, [], ◌∷◌, codes, refl}
use Rattle.command_frame.specs.Numbers.{decimal_value, number_in, number_within}

value_of_digits : decimal_value (codes "305") ≡ 305
value_of_digits = refl

one_digit : number_in (codes "7") ≡ Some 7
one_digit = refl

zero_digit : number_in (codes "0") ≡ Some 0
zero_digit = refl

leading_zeros : number_in (codes "007") ≡ Some 7
leading_zeros = refl

-- twenty digits are read, and no more
twenty_digits : number_in (codes "00000000000000000042") ≡ Some 42
twenty_digits = refl

twenty_zeros : number_in (codes "00000000000000000000") ≡ Some 0
twenty_zeros = refl

twenty_one_digits : number_in (codes "000000000000000000042") ≡ None
twenty_one_digits = refl

-- the greatest number, and the one behind it
greatest : number_in (codes "18446744073709551615") ≡ Some (2 ^ 64 - 1)
greatest = refl

too_great : number_in (codes "18446744073709551616") ≡ None
too_great = refl

twenty_nines : number_in (codes "99999999999999999999") ≡ None
twenty_nines = refl

nineteen_nines : number_in (codes "9999999999999999999") ≡ Some 9999999999999999999
nineteen_nines = refl

-- no digits, and what else stands beside them
no_digits : number_in [] ≡ None
no_digits = refl

plus : number_in (codes "+1") ≡ None
plus = refl

plus_alone : number_in (codes "+") ≡ None
plus_alone = refl

minus : number_in (codes "-1") ≡ None
minus = refl

space_before : number_in (codes " 1") ≡ None
space_before = refl

space_behind : number_in (codes "1 ") ≡ None
space_behind = refl

letter : number_in (codes "1k") ≡ None
letter = refl

hexadecimal : number_in (codes "0x10") ≡ None
hexadecimal = refl

underscore : number_in (codes "1_000") ≡ None
underscore = refl

point : number_in (codes "1.0") ≡ None
point = refl

-- the bytes before `0` and behind `9`
slash : number_in (47 ∷ []) ≡ None
slash = refl

colon : number_in (58 ∷ []) ≡ None
colon = refl

-- digits of other writings: the Arabic-Indic one, the fullwidth one and the superscript two
arabic_digit : number_in (0xd9 ∷ 0xa1 ∷ []) ≡ None
arabic_digit = refl

fullwidth_digit : number_in (0xef ∷ 0xbc ∷ 0x91 ∷ []) ≡ None
fullwidth_digit = refl

superscript_digit : number_in (0xc2 ∷ 0xb2 ∷ []) ≡ None
superscript_digit = refl

-- bounds
least : number_within 1 16777216 (codes "1") ≡ Some 1
least = refl

below_least : number_within 1 16777216 (codes "0") ≡ None
below_least = refl

most : number_within 1 16777216 (codes "16777216") ≡ Some 16777216
most = refl

above_most : number_within 1 16777216 (codes "16777217") ≡ None
above_most = refl

most_with_zeros : number_within 1 16777216 (codes "00000000000016777216") ≡ Some 16777216
most_with_zeros = refl

zero_within : number_within 0 (2 ^ 62) (codes "0") ≡ Some 0
zero_within = refl

power_within : number_within 0 (2 ^ 62) (codes "4611686018427387904") ≡ Some (2 ^ 62)
power_within = refl

above_power : number_within 0 (2 ^ 62) (codes "4611686018427387905") ≡ None
above_power = refl

any_number : number_within 0 (2 ^ 64 - 1) (codes "18446744073709551615") ≡ Some (2 ^ 64 - 1)
any_number = refl
