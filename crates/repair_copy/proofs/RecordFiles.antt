-- The chunks of the file of records that are copied are those of the file without padding.
use Rattle.std.proofs.Common.{◌≡◌, ◌∙◌, ℕ, ◌^◌, ◌≤◌, Bool, true, false, Option, List, [], ◌∷◌, ◌++◌, refl, sym, ap, inr, append-nil}
use Rattle.std.specs.Prelude.{map}
use Rattle.std.specs.List.{AllByRecursion}
use Rattle.std.proofs.lemmas.List.Elements.{filter-append}
use Rattle.block_layout.specs.Layout.{IsBoundary}
use Rattle.block_layout.proofs.ChunkEnds.{chunk_end_of_boundary}
use Rattle.chunk_header.specs.Chunks.{ChunkValue}
use Rattle.chunk_header.specs.SimpleChunks.{simple_chunk}
use Rattle.meta_chunk.specs.Kinds.{IsPadding}
use Rattle.meta_chunk.specs.Laid.{end_of_chunk}
use Rattle.meta_chunk.specs.Files.{signature, end_of_chunks, laid_each}
use Rattle.meta_chunk.specs.PaddingSizes.{padding_at}
use Rattle.meta_chunk.proofs.Begins.{end_of_chunks_boundary}
use Rattle.meta_chunk.proofs.PaddingLemmas.{padding_at_are_padding}
use Rattle.damage_skip.specs.Pieces.{Piece}
use Rattle.damage_skip.specs.FilePieces.{ArePieces}
use Rattle.damage_skip.proofs.FoundPieces.{file_of_plain}
use Rattle.record_group.specs.declared.pad.Pad.{Pad}
use Rattle.record_group.specs.declared.pad.Pad.TheVariants.{No}
use Rattle.record_group.specs.Groups.{groups, pads_start, pads_end, padding_if, front_padding, front_chunks, end_padding, record_chunks, chunks_of, file_of}
use Rattle.record_group.specs.Records.{AreRecords}
use Rattle.record_group.proofs.RecordFiles.{IsReadable-file_of}
use Rattle.repair_copy.specs.RelaidFiles.{relaid}
use Rattle.repair_copy.specs.CopiedChunks.{is_copied, copied}
use Rattle.repair_copy.proofs.Copied.{left_out_stays, copied_all, copied_none}
use Rattle.repair_copy.proofs.RelaidFiles.{whole_chunks}

-- no padding is copied
each_padding : (unread_ok : Bool) (ks : List ChunkValue) → AllByRecursion IsPadding ks → AllByRecursion (λ k. is_copied unread_ok k ≡ false) ks
each_padding unread_ok [] h = tt
each_padding unread_ok (k ∷ ks) h = (left_out_stays unread_ok k (inr h.0), each_padding unread_ok ks h.1)

padding_stays : (unread_ok wanted : Bool) (place : ℕ) → IsBoundary place → copied unread_ok (padding_if wanted place) ≡ []
padding_stays unread_ok true place boundary = copied_none unread_ok (padding_at place) (each_padding unread_ok (padding_at place) (padding_at_are_padding place boundary))
padding_stays unread_ok false place boundary = refl

-- and each group's chunk is
simple_copied : (unread_ok : Bool) (group : List (List ℕ)) → is_copied unread_ok (simple_chunk group) ≡ true
simple_copied true group = refl
simple_copied false group = refl

groups_copied : (unread_ok : Bool) (gs : List (List (List ℕ))) → AllByRecursion (λ k. is_copied unread_ok k ≡ true) (map simple_chunk gs)
groups_copied unread_ok [] = tt
groups_copied unread_ok (group ∷ gs) = (simple_copied unread_ok group, groups_copied unread_ok gs)

-- so of the chunks of records those of the groups are
record_chunks_copied : (unread_ok : Bool) (place : ℕ) (records : List (List ℕ)) (size : ℕ) (every : Option ℕ) (pad : Pad) → IsBoundary place
    → copied unread_ok (record_chunks place records size every pad) ≡ map simple_chunk (groups records size every)
record_chunks_copied unread_ok place records size every pad boundary =
    let gs : List ChunkValue = map simple_chunk (groups records size every) in
    let start : List ChunkValue = front_padding place pad in
    let end : List ChunkValue = end_padding place records size every pad in
    let front : List ChunkValue = front_chunks place records size every pad in
    filter-append (is_copied unread_ok) front end
    ∙ ap (λ (xs : List ChunkValue). copied unread_ok front ++ xs)
    (padding_stays unread_ok (pads_end pad) (end_of_chunks place front) (end_of_chunks_boundary place front boundary))
    ∙ append-nil (copied unread_ok front)
    ∙ filter-append (is_copied unread_ok) start gs
    ∙ ap (λ (xs : List ChunkValue). xs ++ copied unread_ok gs) (padding_stays unread_ok (pads_start pad) place boundary)
    ∙ copied_all unread_ok gs (groups_copied unread_ok (groups records size every))

-- which are all chunks of records where no padding is wanted
record_chunks-no : (place : ℕ) (records : List (List ℕ)) (size : ℕ) (every : Option ℕ)
    → record_chunks place records size every No ≡ map simple_chunk (groups records size every)
record_chunks-no place records size every = append-nil (map simple_chunk (groups records size every))

pub padding_out : (unread_ok : Bool) (records : List (List ℕ)) (size : ℕ) (every : Option ℕ) (pad : Pad) (pieces : List Piece)
    → AreRecords records → size ≤ 2 ^ 24 → ArePieces unread_ok (file_of records size every pad) pieces
    → relaid pieces ≡ file_of records size every No
unfolding file_of
padding_out unread_ok records size every pad pieces each small h =
    let place : ℕ = end_of_chunk 0 signature in
    let whole = file_of_plain unread_ok (chunks_of records size every pad) (file_of records size every pad)
    (IsReadable-file_of records size every pad each small) in
    ap (λ (ks : List ChunkValue). laid_each 0 (signature ∷ ks))
    (whole_chunks unread_ok (chunks_of records size every pad) (file_of records size every pad) pieces whole h
    ∙ record_chunks_copied unread_ok place records size every pad (chunk_end_of_boundary 0 40 0)
    ∙ sym (record_chunks-no place records size every))
