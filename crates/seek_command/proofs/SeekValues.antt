-- Keys and texts of `seek`, judged by hand, computed from the definitions.
use Rattle.std.proofs.Common.{◌≡◌, true, false, [], ◌∷◌, codes, refl}
use Rattle.std.specs.Fmt.{digits}
use Rattle.hex.specs.Hex.{encode_with}
use Rattle.show_command.specs.Readings.{record_line}
use Rattle.seek_command.specs.Searches.{is_below}
use Rattle.seek_command.specs.SeekCommand.{not_found_text, found_form}

-- bytes that are less than a key, and bytes that aren't
less : is_below (codes "b") (codes "a") ≡ true
less = refl

same : is_below (codes "b") (codes "b") ≡ false
same = refl

greater : is_below (codes "b") (codes "c") ≡ false
greater = refl

front : is_below (codes "bb") (codes "b") ≡ true
front = refl

longer : is_below (codes "b") (codes "bb") ≡ false
longer = refl

first_decides : is_below (codes "b") (codes "azzz") ≡ true
first_decides = refl

none_less_than_no_bytes : is_below [] (codes "a") ≡ false
none_less_than_no_bytes = refl

no_bytes_less : is_below (codes "a") [] ≡ true
no_bytes_less = refl

by_number : is_below (0xc3 ∷ []) (0x7e ∷ []) ≡ true
by_number = refl

-- a record behind its position, and no record
found_line : record_line (found_form false) (108, codes "b") ≡ codes "108 b\n"
unfolding digits
found_line = refl

found_digits : record_line (found_form true) (65, codes "bc") ≡ codes "65 6263\n"
unfolding digits encode_with
found_digits = refl

nothing_found : not_found_text ≡ codes "not found\n"
nothing_found = refl
