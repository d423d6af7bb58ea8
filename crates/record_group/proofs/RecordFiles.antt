-- The chunks of records are plain and hold the records, from whichever boundary they are laid, and the file of
-- records is a file of its chunks.
use Rattle.std.proofs.Common.{◌≡◌, ◌∙◌, ℕ, ◌^◌, ◌<◌, ◌≤◌, Option, List, [], ◌∷◌, ◌++◌, length, refl, sym, ap, subst, inl, inr, append-nil, arith}
use Rattle.std.specs.Prelude.{map}
use Rattle.std.specs.List.{AllByRecursion}
use Rattle.std.proofs.lemmas.List.{take_all}
use Rattle.std.proofs.lemmas.Grind.{flat_map-append}
use Rattle.varint_wire.proofs.Spellings.{length-shortest}
use Rattle.record_values.specs.Bytes.{AreBytes}
use Rattle.block_layout.specs.Layout.{IsBoundary}
use Rattle.block_layout.proofs.ChunkEnds.{chunk_end_of_boundary}
use Rattle.chunk_header.specs.Chunks.{ChunkValue, IsChunk}
use Rattle.chunk_header.specs.SimpleChunks.{IsSimple, sizes_of, simple_data, simple_chunk}
use Rattle.chunk_header.proofs.SimpleChunks.{length-sizes_of, length-simple_data, sum-map-length, IsSimple-simple_chunk, AreBytes-simple_data}
use Rattle.simple_chunk.proofs.CostLemmas.{cost_of-is}
use Rattle.meta_chunk.specs.Kinds.{IsPadding}
use Rattle.meta_chunk.specs.Laid.{end_of_chunk}
use Rattle.meta_chunk.specs.Files.{signature, IsPlain, AreLaid, IsReadable, Holds, HoldEach, AreRecordsOf, end_of_chunks, laid_each}
use Rattle.meta_chunk.specs.PaddingSizes.{padding_at}
use Rattle.meta_chunk.proofs.LaidChunks.{AreLaid-laid_each}
use Rattle.meta_chunk.proofs.OneLaying.{HasFewRecords, plain_are_few, AreLaid-is, IsReadable-plain}
use Rattle.meta_chunk.proofs.Begins.{end_of_chunks_boundary}
use Rattle.meta_chunk.proofs.Held.{IsSignature-one, HoldEach-append}
use Rattle.meta_chunk.proofs.PaddingLemmas.{padding_at_are_padding, padding_at_are_plain, padding_at_are_chunks}
use Rattle.record_group.specs.declared.pad.Pad.{Pad}
use Rattle.record_group.specs.Groups.{groups, pads_start, pads_end, front_padding, front_chunks, end_padding, record_chunks, chunks_of, file_of}
use Rattle.record_group.specs.HeldLists.{no_records, lists_held}
use Rattle.record_group.specs.Records.{AreRecords}
use Rattle.record_group.proofs.Grouping.{IsGroup, joined, joined-groups, groups-are}
use Rattle.record_group.proofs.Paddings.{each_if}
use Rattle.record_group.proofs.Signed.{end_of_chunk-signature}

-- records are bytes, and short
are_bytes : (records : List (List ℕ)) → AreRecords records → AllByRecursion AreBytes records
are_bytes [] h = tt
are_bytes (record_bytes ∷ records) h = (h.0.are_bytes, are_bytes records h.1)

are_short : (records : List (List ℕ)) → AreRecords records → AllByRecursion (λ record_bytes. length record_bytes < 2 ^ 64) records
are_short [] h = tt
are_short (record_bytes ∷ records) h = (omega (arith, h.0.at_most), are_short records h.1)

-- the data of a group's chunk is within the limit of a plain chunk
pub length-group_data : (group : List (List ℕ)) → IsGroup group → length (simple_data group) ≤ 2 ^ 26
length-group_data group h =
    omega (arith, h.costs, cost_of-is group, length-simple_data group, length-sizes_of group, length-shortest (length (sizes_of group)))

length-group_sizes : (group : List (List ℕ)) → IsGroup group → length (sizes_of group) < 2 ^ 64
length-group_sizes group h = omega (arith, length-group_data group h, length-simple_data group)

-- a group's chunk is one that a header can hold, holds the group, and is plain
pub IsChunk-group : (group : List (List ℕ)) → IsGroup group → IsChunk (simple_chunk group)
IsChunk-group group h = record {
  kind = omega arith;
  num_records = omega (arith, h.costs, cost_of-is group);
  decoded_size = omega (arith, h.costs, cost_of-is group, sum-map-length group);
  size = omega (arith, length-group_data group h);
  bytes = AreBytes-simple_data group (are_bytes group h.records) (are_short group h.records) (length-group_sizes group h);
}

pub IsSimple-group : (group : List (List ℕ)) → IsGroup group → IsSimple (simple_chunk group) group
IsSimple-group group h = IsSimple-simple_chunk group (are_short group h.records) (length-group_sizes group h)

pub IsPlain-group : (group : List (List ℕ)) → IsGroup group → IsPlain (simple_chunk group)
IsPlain-group group h = (length-group_data group h, inl (group, IsSimple-group group h))

-- a simple chunk holds no more records than it has bytes
HasFewRecords-simple_chunk : (group : List (List ℕ)) → HasFewRecords (simple_chunk group)
HasFewRecords-simple_chunk group = omega (arith, length-simple_data group, length-sizes_of group)

-- and so each group's does
each_group_few : (gs : List (List (List ℕ))) → AllByRecursion HasFewRecords (map simple_chunk gs)
each_group_few [] = tt
each_group_few (group ∷ gs) = (HasFewRecords-simple_chunk group, each_group_few gs)

-- what holds of each of some chunks and of each of others holds of each of all
AllByRecursion-append : {X : Type 0} (P : X → Type 0) (xs ys : List X) → AllByRecursion P xs → AllByRecursion P ys → AllByRecursion P (xs ++ ys)
AllByRecursion-append P [] ys h g = g
AllByRecursion-append P (x ∷ xs) ys h g = (h.0, AllByRecursion-append P xs ys h.1 g)

-- what holds of each group's chunk
each_group : (P : ChunkValue → Type 0) → ((group : List (List ℕ)) → IsGroup group → P (simple_chunk group))
    → (gs : List (List (List ℕ))) → AllByRecursion IsGroup gs → AllByRecursion P (map simple_chunk gs)
each_group P of_group [] h = tt
each_group P of_group (group ∷ gs) h = (of_group group h.0, each_group P of_group gs h.1)

module _ (place : ℕ) (records : List (List ℕ)) (size : ℕ) (every : Option ℕ) (pad : Pad) (boundary : IsBoundary place) where
  -- the padding on both sides begins at a boundary
  of_start : (P : ChunkValue → Type 0) → ((at : ℕ) → IsBoundary at → AllByRecursion P (padding_at at)) → AllByRecursion P (front_padding place pad)
  of_start P of_padding = each_if P (pads_start pad) place (of_padding place boundary)

  of_end : (P : ChunkValue → Type 0) → ((at : ℕ) → IsBoundary at → AllByRecursion P (padding_at at))
      → AllByRecursion P (end_padding place records size every pad)
  of_end P of_padding =
      let front : List ChunkValue = front_chunks place records size every pad in
      each_if P (pads_end pad) (end_of_chunks place front) (of_padding (end_of_chunks place front) (end_of_chunks_boundary place front boundary))

  -- what holds of padding and of groups' chunks holds of each chunk of records
  each_of : (P : ChunkValue → Type 0) → ((at : ℕ) → IsBoundary at → AllByRecursion P (padding_at at))
      → AllByRecursion P (map simple_chunk (groups records size every)) → AllByRecursion P (record_chunks place records size every pad)
  each_of P of_padding of_groups =
      AllByRecursion-append P (front_chunks place records size every pad) (end_padding place records size every pad)
      (AllByRecursion-append P (front_padding place pad) (map simple_chunk (groups records size every)) (of_start P of_padding) of_groups)
      (of_end P of_padding)

  -- the bytes of the chunks are one list
  pub AreLaid-one : (bytes : List ℕ) → AreLaid place (record_chunks place records size every pad) bytes
      → bytes ≡ laid_each place (record_chunks place records size every pad)
  AreLaid-one bytes =
      AreLaid-is place (record_chunks place records size every pad) bytes boundary
      (each_of HasFewRecords (λ at h. plain_are_few (padding_at at) (padding_at_are_plain at h)) (each_group_few (groups records size every)))

module _
    (place : ℕ) (records : List (List ℕ)) (size : ℕ) (every : Option ℕ) (pad : Pad)
    (boundary : IsBoundary place) (each : AreRecords records) (small : size ≤ 2 ^ 24) where
  -- what holds of padding and of groups' chunks, where the records are short
  each_short : (P : ChunkValue → Type 0) → ((at : ℕ) → IsBoundary at → AllByRecursion P (padding_at at))
      → ((group : List (List ℕ)) → IsGroup group → P (simple_chunk group)) → AllByRecursion P (record_chunks place records size every pad)
  each_short P of_padding of_group =
      each_of place records size every pad boundary P of_padding
      (each_group P of_group (groups records size every) (groups-are records size every small each))

  IsChunk-record_chunks : AllByRecursion IsChunk (record_chunks place records size every pad)
  IsChunk-record_chunks = each_short IsChunk padding_at_are_chunks IsChunk-group

  pub IsPlain-record_chunks : AllByRecursion IsPlain (record_chunks place records size every pad)
  IsPlain-record_chunks = each_short IsPlain padding_at_are_plain IsPlain-group

  pub AreLaid-record_chunks : AreLaid place (record_chunks place records size every pad) (laid_each place (record_chunks place records size every pad))
  AreLaid-record_chunks = AreLaid-laid_each place (record_chunks place records size every pad) IsChunk-record_chunks

-- padding holds no records, and the chunks of groups the groups
HoldEach-padding : (ks : List ChunkValue) → AllByRecursion IsPadding ks → HoldEach ks (no_records ks)
HoldEach-padding [] h = refl
HoldEach-padding (k ∷ ks) h =
    let is : k.kind ≡ 0x70 = h.0.0 in
    (inr ((λ has. let other : k.kind ≡ 0x72 = has.1.kind in omega arith), refl), HoldEach-padding ks h.1)

HoldEach-groups : (gs : List (List (List ℕ))) → AllByRecursion IsGroup gs → HoldEach (map simple_chunk gs) gs
HoldEach-groups [] h = refl
HoldEach-groups (group ∷ gs) h = (inl (IsSimple-group group h.0), HoldEach-groups gs h.1)

-- the lists that the chunks of records hold
pub HoldEach-record_chunks : (place : ℕ) (records : List (List ℕ)) (size : ℕ) (every : Option ℕ) (pad : Pad)
    → IsBoundary place → AreRecords records → size ≤ 2 ^ 24
    → HoldEach (record_chunks place records size every pad) (lists_held place records size every pad)
HoldEach-record_chunks place records size every pad boundary each small =
    let gs : List (List (List ℕ)) = groups records size every in
    let start : List ChunkValue = front_padding place pad in
    let end : List ChunkValue = end_padding place records size every pad in
    HoldEach-append (start ++ map simple_chunk gs) end (no_records start ++ gs) (no_records end)
    (HoldEach-append start (map simple_chunk gs) (no_records start) gs
    (HoldEach-padding start (of_start place records size every pad boundary IsPadding padding_at_are_padding))
    (HoldEach-groups gs (groups-are records size every small each)))
    (HoldEach-padding end (of_end place records size every pad boundary IsPadding padding_at_are_padding))

-- these are the records, joined
joined-no_records : (ks : List ChunkValue) → joined (no_records ks) ≡ []
joined-no_records [] = refl
joined-no_records (k ∷ ks) = joined-no_records ks

joined-lists_held : (place : ℕ) (records : List (List ℕ)) (size : ℕ) (every : Option ℕ) (pad : Pad) → joined (lists_held place records size every pad) ≡ records
joined-lists_held place records size every pad =
    let gs : List (List (List ℕ)) = groups records size every in
    let start : List (List (List ℕ)) = no_records (front_padding place pad) in
    let end : List (List (List ℕ)) = no_records (end_padding place records size every pad) in
    flat_map-append (λ group. group) (start ++ gs) end
    ∙ ap (λ (rest : List (List ℕ)). joined (start ++ gs) ++ rest) (joined-no_records (end_padding place records size every pad))
    ∙ append-nil (joined (start ++ gs))
    ∙ flat_map-append (λ group. group) start gs
    ∙ ap (λ (front : List (List ℕ)). front ++ joined gs) (joined-no_records (front_padding place pad))
    ∙ joined-groups records size every

-- so the chunks of records hold the records
pub AreRecordsOf-record_chunks : (place : ℕ) (records : List (List ℕ)) (size : ℕ) (every : Option ℕ) (pad : Pad)
    → IsBoundary place → AreRecords records → size ≤ 2 ^ 24 → AreRecordsOf (record_chunks place records size every pad) records
AreRecordsOf-record_chunks place records size every pad boundary each small = (
  lists_held place records size every pad,
  HoldEach-record_chunks place records size every pad boundary each small,
  sym (joined-lists_held place records size every pad),
)

-- the signature is a plain chunk without records
IsChunk-signature : IsChunk signature
IsChunk-signature = record { kind = omega arith; num_records = omega arith; decoded_size = omega arith; size = omega arith; bytes = tt }

IsPlain-signature : IsPlain signature
IsPlain-signature = (omega arith, inr (inl ((IsSignature-one signature).1 refl)))

Holds-signature : Holds signature []
Holds-signature = inr ((λ has. let other : 0x73 ≡ 0x72 = has.1.kind in omega arith), refl)

-- the lists that the chunks of the file hold
pub HoldEach-chunks_of : (records : List (List ℕ)) (size : ℕ) (every : Option ℕ) (pad : Pad) → AreRecords records → size ≤ 2 ^ 24
    → HoldEach (chunks_of records size every pad) ([] ∷ lists_held (end_of_chunk 0 signature) records size every pad)
HoldEach-chunks_of records size every pad each small = (
  Holds-signature,
  HoldEach-record_chunks (end_of_chunk 0 signature) records size every pad (subst IsBoundary (sym end_of_chunk-signature) (inr (omega arith))) each small,
)

-- and the records, in order
pub AreRecordsOf-chunks_of : (records : List (List ℕ)) (size : ℕ) (every : Option ℕ) (pad : Pad) → AreRecords records → size ≤ 2 ^ 24
    → AreRecordsOf (chunks_of records size every pad) records
AreRecordsOf-chunks_of records size every pad each small = (
  [] ∷ lists_held (end_of_chunk 0 signature) records size every pad,
  HoldEach-chunks_of records size every pad each small,
  sym (joined-lists_held (end_of_chunk 0 signature) records size every pad),
)

-- the file of records is a file of its chunks, each of which is plain
AreLaid-file_of : (records : List (List ℕ)) (size : ℕ) (every : Option ℕ) (pad : Pad) → AreRecords records → size ≤ 2 ^ 24
    → AreLaid 0 (chunks_of records size every pad) (file_of records size every pad)
unfolding file_of
AreLaid-file_of records size every pad each small =
    AreLaid-laid_each 0 (chunks_of records size every pad)
    (IsChunk-signature, IsChunk-record_chunks _ records size every pad (chunk_end_of_boundary 0 40 0) each small)

pub IsReadable-file_of : (records : List (List ℕ)) (size : ℕ) (every : Option ℕ) (pad : Pad) → AreRecords records → size ≤ 2 ^ 24
    → IsReadable (chunks_of records size every pad) (file_of records size every pad)
IsReadable-file_of records size every pad each small = (
  λ e. cc,
  record {
    signed = refl;
    each = (IsPlain-signature, IsPlain-record_chunks _ records size every pad (chunk_end_of_boundary 0 40 0) each small);
    within = omega arith;
    laid = subst (λ (bytes : List ℕ). AreLaid 0 (chunks_of records size every pad) bytes)
        (sym (take_all (length (file_of records size every pad)) (file_of records size every pad) (omega arith)))
        (AreLaid-file_of records size every pad each small);
  },
)

-- and no other file is a file of these chunks
pub file_of-is : (records : List (List ℕ)) (size : ℕ) (every : Option ℕ) (pad : Pad) (file : List ℕ) → IsReadable (chunks_of records size every pad) file
    → file ≡ file_of records size every pad
unfolding file_of
file_of-is records size every pad file h = IsReadable-plain (chunks_of records size every pad) file h
