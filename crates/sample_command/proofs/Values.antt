-- Values counted by hand, computed from the definitions.
use Rattle.std.proofs.Common.{◌≡◌, [], ◌∷◌, length, map, take, codes, refl}
use Rattle.std.specs.Fmt.{digits}
use Rattle.sample_command.specs.Generator.{draw, state_after, letters, record_from, drawn_from, sample_of}
use Rattle.sample_command.specs.SampleCommand.{summary}

-- the first draw of seed 0, and the first three of the greatest seed
draw_of_zero : draw 0 ≡ 167951807
draw_of_zero = refl

draws_of_greatest : draw 18446744073709551615 ∷ draw (state_after 1 18446744073709551615) ∷ draw (state_after 2 18446744073709551615) ∷ [] ≡ 1574552488 ∷ 1490332343 ∷ 1207502677 ∷ []
unfolding state_after
draws_of_greatest = refl

-- the record of seed 0: its length, and its first letters
length_of_zero : length (record_from 0) ≡ 191
unfolding letters
length_of_zero = refl

letters_of_zero : take 10 (record_from 0) ≡ codes "mpybvytcbx"
unfolding letters
letters_of_zero = refl

-- two short records of one seed, and the lengths of the two behind them
two_of_116 : sample_of 116 2 ≡ codes "zr" ∷ codes "qdo" ∷ []
unfolding drawn_from letters state_after
two_of_116 = refl

lengths_of_116 : map (λ r. length r) (sample_of 116 4) ≡ 2 ∷ 3 ∷ 89 ∷ 126 ∷ []
unfolding drawn_from letters state_after
lengths_of_116 = refl

-- an empty record, and one of the greatest length
empty_of_82 : map (λ r. length r) (sample_of 82 2) ≡ 0 ∷ 251 ∷ []
unfolding drawn_from letters state_after
empty_of_82 = refl

longest_of_155 : map (λ r. length r) (sample_of 155 3) ≡ 118 ∷ 196 ∷ 255 ∷ []
unfolding drawn_from letters state_after
longest_of_155 = refl

-- no record
none_of_7 : sample_of 7 0 ≡ []
unfolding drawn_from
none_of_7 = refl

-- a summary
two_lines : summary 1 299 ≡ codes "records 1\nbytes 299\n"
unfolding digits
two_lines = refl
