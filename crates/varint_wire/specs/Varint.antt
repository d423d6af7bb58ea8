-- Promise. Varints. Source: the Riegeli/records file format specification, "Conventions". Own: every spelling of one to
-- ten bytes is read, also one that is not the shortest, and the shortest is written.
use Rattle.std.specs.Prelude.{◌≡◌, ℕ, zero, suc, ◌+◌, ◌-◌, ◌*◌, ◌/◌, ◌%◌, ◌^◌, ◌<◌, ◌≤◌, List, [], ◌∷◌, ◌++◌, length, slice_index, nat_lt, if◌then◌else◌}

-- the number that the low seven bits of each byte make, those of the first byte lowest
abbrev pub spelled_value : List ℕ → ℕ
spelled_value [] = 0
spelled_value (b ∷ bs) = b % 128 + 128 * spelled_value bs

-- the bytes are a spelling of the value, which is below 2 ^ 64: from one to ten bytes, of which the last alone
-- is below 128
pub record Spells (value : ℕ) (bytes : List ℕ) : Type 0 where
  pub some : 0 < length bytes
  pub at_most_ten : length bytes ≤ 10
  pub continued : (i : ℕ) → i + 1 < length bytes → (128 ≤ slice_index bytes i) × (slice_index bytes i < 256)
  pub ended : slice_index bytes (length bytes - 1) < 128
  pub value_is : spelled_value bytes ≡ value
  pub fits : value < 2 ^ 64

-- the shortest spelling: groups of seven bits, the lowest first, up to the last that isn't 0
abbrev pub shortest_within : ℕ → ℕ → List ℕ
shortest_within zero value = value ∷ []
shortest_within (suc more) value =
    if nat_lt value 128 then value ∷ []
    else (value % 128 + 128) ∷ shortest_within more (value / 128)

-- the shortest spelling of a value below 2 ^ 64, which has ten bytes at most
unfoldable pub shortest : ℕ → List ℕ
shortest value = shortest_within 9 value

-- the bytes are spellings of the values, one after another
abbrev pub SpellsEach : List ℕ → List ℕ → Type 0
SpellsEach [] bytes = bytes ≡ []
SpellsEach (value ∷ values) bytes =
    (front rest : List ℕ) × (bytes ≡ front ++ rest) × Spells value front × SpellsEach values rest
