use Rattle.std.proofs.lemmas.List.{take_rest}
use Rattle.record_values.proofs.ByteLists.{AreBytes-each}
use Rattle.simple_chunk.proofs.RecordLists.{AreBytes-drop}
use Rattle.simple_chunk.proofs.records_ref.bytes_from.Goals as goal

pub returns-clause-are_bytes : goal.returns-clause-are_bytes
returns-clause-are_bytes c = rw take_rest (AreBytes-drop c.args.begin c.args.bytes.now (AreBytes-each _ c.type_inv.bytes))
