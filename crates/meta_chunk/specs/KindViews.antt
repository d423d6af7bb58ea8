-- Inside. The rule that a header's kind has on its fields. Own.
use Rattle.chunk_header.specs.declared.Header.{Header}
use Rattle.meta_chunk.specs.Kinds.{KeepsRule}

-- the rule of a header
abbrev pub HeaderKeepsRule : Header → Type 0
HeaderKeepsRule h = KeepsRule h.kind h.data_size h.num_records h.decoded_size
