-- Promise. What the reasons are called. Own.
use Rattle.std.specs.Prelude.{ℕ, List}
use lib.Chars.{codes}
use Rattle.chunk_reader.specs.declared.reasons.Why.{Why}
use Rattle.chunk_reader.specs.declared.reasons.Why.TheVariants as why

-- the name of a reason
abbrev pub name_of : Why → List ℕ
name_of why.NoSignature = codes "NoSignature"
name_of why.Short = codes "Short"
name_of why.HeaderHash = codes "HeaderHash"
name_of why.Truncated = codes "Truncated"
name_of why.TooLarge = codes "TooLarge"
name_of why.BlockHeader = codes "BlockHeader"
name_of why.DataHash = codes "DataHash"
name_of why.Contents = codes "Contents"
name_of why.Compressed = codes "Compressed"
name_of why.Transposed = codes "Transposed"
name_of why.UnknownKind = codes "UnknownKind"
name_of why.Contradicted = codes "Contradicted"
