-- Promise. Numbers as words spell them. Own.
use Rattle.std.specs.Prelude.{ℕ, ◌+◌, ◌-◌, ◌*◌, ◌^◌, Bool, ◌&&◌, Option, List, [], ◌∷◌, length, nat_le, nat_lt, option_and_then}
use Rattle.std.specs.Bool.{then_some}
use Rattle.std.specs.Char.{is_ascii_digit}
use Rattle.std.specs.List.{list_all}

-- whether a word is one to twenty decimal digits
abbrev pub is_numeral : List ℕ → Bool
is_numeral word = nat_le 1 (length word) && nat_le (length word) 20 && list_all is_ascii_digit word

-- the number that decimal digits write: each counts ten to the number of digits behind it
abbrev pub decimal_value : List ℕ → ℕ
decimal_value [] = 0
decimal_value (digit ∷ digits) = (digit - 48) * 10 ^ length digits + decimal_value digits

-- the number that a word writes, where it is below 2 ^ 64
abbrev pub number_in : List ℕ → Option ℕ
number_in word = then_some (is_numeral word && nat_lt (decimal_value word) (2 ^ 64)) (decimal_value word)

-- the number that a word writes, where it is within bounds
abbrev pub number_within : ℕ → ℕ → List ℕ → Option ℕ
number_within least most word = option_and_then (λ n. then_some (nat_le least n && nat_le n most) n) (number_in word)
