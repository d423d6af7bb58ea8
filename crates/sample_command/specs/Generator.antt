-- Promise. The generator of `sample`: the records of a seed. Own.
use Rattle.std.specs.Prelude.{ℕ, zero, suc, ◌+◌, ◌*◌, ◌/◌, ◌%◌, ◌^◌, List, [], ◌∷◌}

-- the state that a draw leaves. The first one is the seed
abbrev pub next_state : ℕ → ℕ
next_state state = (state * 6364136223846793005 + 1442695040888963407) % 2 ^ 64

-- the number that a draw gives: the upper 31 bits of the state that it leaves
abbrev pub draw : ℕ → ℕ
draw state = next_state state / 2 ^ 33

-- the state that so many draws leave
unfoldable pub state_after : ℕ → ℕ → ℕ
state_after zero state = state
state_after (suc count) state = state_after count (next_state state)

-- the letter of a draw, from `a` to `z`
abbrev pub letter : ℕ → ℕ
letter state = 97 + draw state % 26

-- so many letters, each of a draw of its own
unfoldable pub letters : ℕ → ℕ → List ℕ
letters zero state = []
letters (suc count) state = letter state ∷ letters count (next_state state)

-- how many letters a record has, which a draw tells before they are drawn: 255 at most
abbrev pub letter_count : ℕ → ℕ
letter_count state = draw state % 256

-- the record that is drawn from a state on, and the state that it leaves
abbrev pub record_from : ℕ → List ℕ
record_from state = letters (letter_count state) (next_state state)

abbrev pub state_behind : ℕ → ℕ
state_behind state = state_after (letter_count state) (next_state state)

-- so many records from a state on, each from the state that the one before it leaves
unfoldable pub drawn_from : ℕ → ℕ → List (List ℕ)
drawn_from zero state = []
drawn_from (suc count) state = record_from state ∷ drawn_from count (state_behind state)

-- the first records of a seed
abbrev pub sample_of : (seed count : ℕ) → List (List ℕ)
sample_of seed count = drawn_from count seed
