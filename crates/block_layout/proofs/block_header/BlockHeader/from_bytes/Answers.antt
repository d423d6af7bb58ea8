use Rattle.std.proofs.Common.{◌≡◌, refl, ap, arith}
use Rattle.std.specs.Prelude.{Some}
use Rattle.highway_hash.proofs.ByteWords.{word, word_of_eights}
use Rattle.block_layout.proofs.BlockHeaders.{IsHeaderSized, is_header, header_same}
use Rattle.block_layout.proofs.block_header.BlockHeader.from_bytes.Goals as goal

-- the bytes are 24
sized : (c : goal.After-from_le_bytes-2) → IsHeaderSized c.args.bytes.now
sized c = record { size = c.told-bytes; below_256 = c.fits-bytes }

-- the two words that were read
previous_is : (c : goal.After-from_le_bytes-2) → c.from_le_bytes.result ≡ word c.args.bytes.now 8
previous_is c =
    let size = c.told-bytes in
    word_of_eights c.args.bytes.now _ _ 1 c.from_le_bytes.result c.as_chunks.ensures.front (omega arith) c.from_le_bytes.ensures

next_is : (c : goal.After-from_le_bytes-2) → c.from_le_bytes-2.result ≡ word c.args.bytes.now 16
next_is c =
    let size = c.told-bytes in
    word_of_eights c.args.bytes.now _ _ 2 c.from_le_bytes-2.result c.as_chunks.ensures.front (omega arith) c.from_le_bytes-2.ensures

pub returns-clause-read : goal.returns-clause-read
returns-clause-read c =
    is_header c.args.bytes.now c.from_le_bytes.result c.from_le_bytes-2.result (sized c)
    (c.if-not-begins_with_hash.ensures.0 refl) (previous_is c) (next_is c)

pub returns-clause-sole : goal.returns-clause-sole
returns-clause-sole c h small small' is =
    ap Some (header_same c.args.bytes.now h c.from_le_bytes.result c.from_le_bytes-2.result small small' is (previous_is c) (next_is c))
