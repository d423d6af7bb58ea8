-- Promise. Which intact chunks of a damaged file are copied. Source: the Riegeli/records file format specification,
-- "File format". Own: which are kept.
use Rattle.std.specs.Prelude.{Bool, not, ◌&&◌, ◌||◌, ◌==◌, List, filter}
use Rattle.chunk_header.specs.Chunks.{ChunkValue}
use Rattle.chunk_header.specs.Kinds.{metadata_kind, simple_kind, transposed_kind}
use Rattle.meta_chunk.specs.Files.{is_unread}

-- whether an intact chunk is copied: simple, metadata and transposed chunks are, of which unread
-- ones only where they are let through; signatures and padding are not
abbrev pub is_copied : (unread_ok : Bool) → ChunkValue → Bool
is_copied unread_ok k =
    ((k.kind == simple_kind) || (k.kind == metadata_kind) || (k.kind == transposed_kind)) && (unread_ok || not (is_unread k))

-- of some chunks those that are copied
abbrev pub copied : (unread_ok : Bool) → List ChunkValue → List ChunkValue
copied unread_ok ks = filter (is_copied unread_ok) ks
