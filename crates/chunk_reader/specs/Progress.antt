-- Inside. How far a file was read. Own.
use Rattle.std.specs.Prelude.{◌≡◌, ℕ, ◌+◌, ◌<◌, ◌≤◌, Bool, List, if◌then◌else◌}
use Rattle.record_values.specs.declared.file_totals.Totals.{Totals}
use Rattle.block_layout.specs.NextPlaces.{IsOnBoundary}
use Rattle.chunk_header.specs.Chunks.{ChunkValue}
use Rattle.meta_chunk.specs.Files.{totals_of, IsChainOf}
use Rattle.chunk_reader.specs.Faults.{IsAllowed}

-- a reader of a file of so many bytes, and the totals of the chunks that it gave
pub record ReaderValue : Type 0 where
  pub size : ℕ
  pub unread_ok : Bool
  pub totals : Totals

-- the totals with one chunk more, which ends at a place
abbrev pub totals_with_chunk : Totals → ℕ → ℕ → Bool → Totals
totals_with_chunk totals end records unread = record {
  chunks = totals.chunks + 1;
  records = totals.records + (if unread then 0 else records);
  bytes = end;
  unread = totals.unread + (if unread then 1 else 0);
}

-- totals of a front of a file of so many bytes: none, or up to a boundary behind the signature, and no count passes the bytes
pub record AreInBounds (size : ℕ) (totals : Totals) : Type 0 where
  pub within : totals.bytes ≤ size
  pub boundary : IsOnBoundary totals.bytes
  pub signed : 0 < totals.bytes → 64 ≤ totals.bytes
  pub chunks : totals.chunks ≤ totals.bytes
  pub records : totals.records ≤ totals.bytes
  pub unread : totals.unread ≤ totals.bytes

-- the totals are those of the chunks at the front of a file, up to where they end
abbrev pub AreReadFrom : (unread_ok : Bool) → List ℕ → Totals → Type 0
AreReadFrom unread_ok file totals =
    (ks : List ChunkValue) × IsChainOf (IsAllowed unread_ok) ks file totals.bytes
    × (totals ≡ totals_of ks)
