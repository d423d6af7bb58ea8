use Rattle.std.proofs.Common.{◌≡◌, ◌/◌, get_or, drop, refl, sym, ap, ◌∙◌, arith}
use Rattle.std.specs.Prelude.{Some}
use Rattle.highway_hash.specs.Riegeli.{with_hash}
use Rattle.chunk_header.specs.Chunks.{header_fields}
use Rattle.highway_hash.proofs.ByteWords.{word_of_eights}
use Rattle.chunk_header.proofs.Fields.{header_fields-words}
use Rattle.chunk_header.proofs.Headers.{header-inj}
use Rattle.chunk_header.proofs.Header.from_bytes.Goals as goal

-- the fields that were read are those of the bytes
fields_are : (c : goal.After-result-2-1)
    → header_fields c.from_le_bytes.result c.from_le_bytes-2.result (get_or c.args.bytes.now 24 0) (c.from_le_bytes-3.result / 256) c.from_le_bytes-4.result
    ≡ drop 8 c.args.bytes.now
fields_are c =
    let bytes = c.args.bytes.now in
    let cut = c.as_chunks.ensures.front in
    let size = c.told-bytes in
    let data_size = word_of_eights bytes _ _ 1 c.from_le_bytes.result cut (omega arith) c.from_le_bytes.ensures in
    let data_hash = word_of_eights bytes _ _ 2 c.from_le_bytes-2.result cut (omega arith) c.from_le_bytes-2.ensures in
    let num_records = word_of_eights bytes _ _ 3 c.from_le_bytes-3.result cut (omega arith) c.from_le_bytes-3.ensures in
    let decoded_size = word_of_eights bytes _ _ 4 c.from_le_bytes-4.result cut (omega arith) c.from_le_bytes-4.ensures in
    rw (data_size, data_hash, num_records, decoded_size) (header_fields-words bytes size c.fits-bytes)

pub returns-clause-read : goal.returns-clause-read
returns-clause-read c = c.if-not-begins_with_hash.ensures.0 refl ∙ ap with_hash (sym (fields_are c))

pub returns-clause-sole : goal.returns-clause-sole
returns-clause-sole c h sound e =
    ap Some (header-inj _ h
    (record { data_size = c.from_le_bytes.type_inv; data_hash = c.from_le_bytes-2.type_inv; kind = c.fits-bytes 24; decoded_size = c.from_le_bytes-4.type_inv })
    sound (fields_are c ∙ ap (drop 8) e))
