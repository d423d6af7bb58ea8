-- Promise. The bytes of the kinds of chunks. Source: the Riegeli/records file format specification, "Chunk types".
use Rattle.std.specs.Prelude.{◌≢◌, ℕ}

-- the kinds with a name
abbrev pub signature_kind : ℕ
signature_kind = 0x73

abbrev pub metadata_kind : ℕ
metadata_kind = 0x6d

abbrev pub padding_kind : ℕ
padding_kind = 0x70

abbrev pub simple_kind : ℕ
simple_kind = 0x72

abbrev pub transposed_kind : ℕ
transposed_kind = 0x74

-- the byte is of none of the kinds with a name
pub record IsOfNoName (byte : ℕ) : Type 0 where
  pub signature : byte ≢ signature_kind
  pub metadata : byte ≢ metadata_kind
  pub padding : byte ≢ padding_kind
  pub simple : byte ≢ simple_kind
  pub transposed : byte ≢ transposed_kind
