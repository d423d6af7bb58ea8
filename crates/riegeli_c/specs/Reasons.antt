-- Promise. The numbers of reasons. Own.
use Rattle.std.specs.Prelude.{ℕ}
use Rattle.chunk_reader.specs.declared.reasons.Why.{Why}
use Rattle.chunk_reader.specs.declared.reasons.Why.TheVariants as why

-- the number of a reason
abbrev pub reason_number : Why → ℕ
reason_number why.NoSignature = 1
reason_number why.Short = 2
reason_number why.HeaderHash = 3
reason_number why.Truncated = 4
reason_number why.TooLarge = 5
reason_number why.BlockHeader = 6
reason_number why.DataHash = 7
reason_number why.Contents = 8
reason_number why.Compressed = 9
reason_number why.Transposed = 10
reason_number why.UnknownKind = 11
reason_number why.Contradicted = 12
