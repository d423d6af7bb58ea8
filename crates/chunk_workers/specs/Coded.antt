-- Inside. Chunks that were coded of groups, whose records may stay where they are. Own.
use Rattle.std.specs.Prelude.{◌≡◌, ℕ, if◌then◌else◌, Some, List, [], ◌∷◌, ◌++◌, slice_get}
use Rattle.std.specs.List.{concat}
use Rattle.chunk_header.specs.Chunks.{ChunkValue, header_bytes}
use Rattle.chunk_workers.specs.declared.coded_chunks.CodedHead.{CodedHead}

-- a coded chunk: its head, and its data, or what stands in its data before the records
pub record CodedValue : Type 0 where
  pub head : CodedHead
  pub front : List ℕ

-- heads, each with its front
abbrev pub coded_of : List CodedHead → List (List ℕ) → List CodedValue
coded_of [] fronts = []
coded_of (head ∷ heads) [] = []
coded_of (head ∷ heads) (front ∷ fronts) = record { head = head; front = front } ∷ coded_of heads fronts

-- the coded chunk is this chunk, where the records that it leaves out are those of the group
pub record StandsFor (k : ChunkValue) (group : List (List ℕ)) (c : CodedValue) : Type 0 where
  pub header : c.head.header ≡ header_bytes k
  pub records : c.head.num_records ≡ k.num_records
  pub joined : c.front ++ (if c.head.takes_values then concat group else []) ≡ k.«data»

-- a coded chunk was appended, which is the chunk of the group
pub record IsCodedAfter (chunk_of : List (List ℕ) → ChunkValue) (group : List (List ℕ)) (old new : List CodedValue) : Type 0 where
  pub coded : CodedValue
  pub appended : new ≡ old ++ coded ∷ []
  pub stands : StandsFor (chunk_of group) group coded

-- one of the coded chunks is the chunk of the group
pub record IsCodedAt (chunk_of : List (List ℕ) → ChunkValue) (group : List (List ℕ)) (chunks : List CodedValue) (i : ℕ) : Type 0 where
  pub coded : CodedValue
  pub at : slice_get chunks i ≡ Some coded
  pub stands : StandsFor (chunk_of group) group coded

-- the coded chunks are the chunks of the groups, one by one
abbrev pub AreCoded : (List (List ℕ) → ChunkValue) → List (List (List ℕ)) → List CodedValue → Type 0
AreCoded chunk_of [] [] = Unit {0}
AreCoded chunk_of [] (c ∷ chunks) = ⊥
AreCoded chunk_of (group ∷ groups) [] = ⊥
AreCoded chunk_of (group ∷ groups) (c ∷ chunks) = StandsFor (chunk_of group) group c × AreCoded chunk_of groups chunks
