use Rattle.std.proofs.Common.{inl, inr, rules}
use Rattle.chunk_header.specs.SimpleChunks.{IsSimpleChunk, IsCompressed}
use Rattle.chunk_header.specs.Views.{value_of}
use Rattle.chunk_reader.proofs.BadContents.{bad_simple}
use Rattle.chunk_reader.proofs.VerifySteps.{tells_plain, tells_unread, tells_contents}
use Rattle.chunk_reader.proofs.piece_judge.simple_unread.Goals as goal

pub returns-in-Ok : goal.returns-in-Ok
returns-in-Ok c =
    λ header bytes checked kind small right.
    let has : IsSimpleChunk (value_of header bytes) = (c.finish.ensures.holds header bytes checked).0 (search rules) in
    tells_plain header.data_hash (value_of header bytes) right (small, inl has)

pub returns-in-Err-Compressed : goal.returns-in-Err-Compressed
returns-in-Err-Compressed c =
    λ header bytes checked kind small right.
    let is : IsCompressed (value_of header bytes) = (c.finish.ensures.compressed header bytes checked).0 (cc) in
    tells_unread header.data_hash (value_of header bytes) right (small, inr is)

pub returns-in-Err-Contents : goal.returns-in-Err-Contents
returns-in-Err-Contents c =
    λ header bytes checked kind small right.
    let none = (c.finish.ensures.contents header bytes checked).0 (cc) in
    tells_contents header.data_hash (value_of header bytes) right (bad_simple (value_of header bytes) kind none.0 none.1)
