-- Inside. The parts of a simple chunk's data without compression. Source: the Riegeli/records file format
-- specification, "Simple chunk with records".
use Rattle.std.specs.Prelude.{◌≡◌, ℕ, List, ◌∷◌, ◌++◌, length, sum}
use Rattle.varint_wire.specs.Varint.{Spells, SpellsEach, shortest}
use Rattle.chunk_header.specs.SimpleChunks.{sizes_of}

-- the bytes are spellings of so many sizes, one after another, and the sizes make so many bytes together
pub record AreSizes (count whole : ℕ) (bytes : List ℕ) : Type 0 where
  pub sizes : List ℕ
  pub many : length sizes ≡ count
  pub together : sum sizes ≡ whole
  pub spells : SpellsEach sizes bytes

-- the data is a compression type of 0, a spelling of how many bytes the sizes take, these, and the values
pub record AreParts (bytes sizes values : List ℕ) : Type 0 where
  pub spelled_size : List ℕ
  pub spells_size : Spells (length sizes) spelled_size
  pub joined : bytes ≡ 0 ∷ spelled_size ++ sizes ++ values

-- the bytes are a spelling of the value, and a rest
pub record IsSplit (value : ℕ) (rest bytes : List ℕ) : Type 0 where
  pub front : List ℕ
  pub spells : Spells value front
  pub joined : bytes ≡ front ++ rest

-- the data of the simple chunk of records with shortest spellings, up to the records
abbrev pub data_front : List (List ℕ) → List ℕ
data_front records = 0 ∷ shortest (length (sizes_of records)) ++ sizes_of records
