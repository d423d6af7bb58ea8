-- Inside. How far a file is that is being made. Own.
use Rattle.std.specs.Prelude.{◌≡◌, ◌≢◌, ℕ, ◌+◌, ◌*◌, ◌^◌, ◌≤◌, Bool, true, false, Option, Some, List, [], ◌++◌, length, map, IfSome, Result, IsErr, OnOk, OnErr}
use Rattle.record_io.specs.Calls.{OnlyCounts}
use Rattle.record_io.specs.Outside.{Takes}
use Rattle.record_io.specs.Buffers.{TakesAndHolds}
use Rattle.record_values.specs.declared.file_totals.Totals.{Totals}
use Rattle.chunk_header.specs.Chunks.{ChunkValue}
use Rattle.chunk_header.specs.SimpleChunks.{simple_chunk}
use Rattle.meta_chunk.specs.Files.{totals_of, end_of_chunks, laid_each}
use Rattle.simple_chunk.specs.Costs.{cost_of}
use Rattle.record_group.specs.Groupings.{Grouping, groups_from}
use Rattle.record_writer.specs.Feeds.{Rest}

-- where the next chunk begins, whether a put failed, the bytes on their way to the sink, and how many chunks, records that
-- can be read and chunks that are left unread there are
pub record MadeFileValue : Type 0 where
  pub place : ℕ
  pub spent : Bool
  pub held : List ℕ
  pub chunks : ℕ
  pub records : ℕ
  pub unread : ℕ

-- nothing is written yet
abbrev pub nothing_made : MadeFileValue
nothing_made = record { place = 0; spent = false; held = []; chunks = 0; records = 0; unread = 0 }

-- nothing is written yet behind a place, up to which others wrote
abbrev pub resumed_at : ℕ → MadeFileValue
resumed_at at = record nothing_made { place = at }

-- what a put leaves that failed: no other follows, nothing is held, and the counts are as before
abbrev pub spent_in : MadeFileValue → MadeFileValue
spent_in p = record p { spent = true; held = [] }

-- what was counted
abbrev pub totals_made : MadeFileValue → Totals
totals_made p = record { chunks = p.chunks; records = p.records; bytes = p.place; unread = p.unread }

-- what is counted with chunks behind what was there
abbrev pub totals_behind : MadeFileValue → List ChunkValue → Totals
totals_behind p ks = record {
  chunks = p.chunks + length ks;
  records = p.records + (totals_of ks).records;
  bytes = end_of_chunks p.place ks;
  unread = p.unread + (totals_of ks).unread;
}

-- chunks may be laid behind those that are there: no put failed, and they end at or below 2^62
pub record MayLay (file : MadeFileValue) (ks : List ChunkValue) : Type 0 where
  pub going : file.spent ≡ false
  pub in_reach : end_of_chunks file.place ks ≤ 2 ^ 62

-- padding may be laid behind what is there: no put failed, and it ends at or below 2^61
pub record MayPad (file : MadeFileValue) : Type 0 where
  pub going : file.spent ≡ false
  pub in_reach : file.place ≤ 2 ^ 61

-- chunks were laid behind those that were there
pub record Lays (before after : Option (List ℕ)) (old new : MadeFileValue) (ks : List ChunkValue) : Type 0 where
  pub bytes : TakesAndHolds before after (old.held ++ laid_each old.place ks) new.held
  pub place : new.place ≡ end_of_chunks old.place ks
  pub going : new.spent ≡ false
  pub chunks : new.chunks ≡ old.chunks + length ks
  pub records : new.records ≡ old.records + (totals_of ks).records
  pub unread : new.unread ≡ old.unread + (totals_of ks).unread

-- of these bytes a sink took a front, where it shows what it takes, and what is held follows it; where a put failed, more
-- follows that
pub record TakesAndHoldsFront (Fails : Type 0) (before after : Option (List ℕ)) (bytes held : List ℕ) : Type 0 where
  pub passed : List ℕ
  pub rest : List ℕ
  pub parts : bytes ≡ passed ++ (held ++ rest)
  pub short : Fails → rest ≢ []
  pub taken : Takes before after passed

-- a front of the bytes of chunks was laid behind those that were there, and not all where a put failed
pub record LaysFront (Fails : Type 0) (before after : Option (List ℕ)) (old new : MadeFileValue) (ks : List ChunkValue) : Type 0 where
  pub bytes : TakesAndHoldsFront Fails before after (old.held ++ laid_each old.place ks) new.held

-- chunks were laid by way of a sink: all of them, or where the work was cut off a front of them; where the sink failed that is
-- not all, and the sink is the cause
pub record LaysTo {M K X E : Type 0} (taken : M → Option (List ℕ)) (lent : M → K) (faults : M → ℕ) (Fails : Type 0)
    (result : Result X E) (old new : MadeFileValue) (ks : List ChunkValue) (before after : M) : Type 0 where
  pub whole : OnOk result (Lays (taken before) (taken after) old new ks)
  pub front : OnErr result (LaysFront Fails (taken before) (taken after) old new ks)
  pub counts : OnlyCounts lent faults Fails before after

-- the same by one call, which fails only where the sink did: then no other follows, nothing is held, and the counts are as before
pub record LaysOrSpends {M K X E : Type 0} (taken : M → Option (List ℕ)) (lent : M → K) (faults : M → ℕ)
    (result : Result X E) (old new : MadeFileValue) (ks : List ChunkValue) (before after : M) : Type 0 where
  pub laid : LaysTo taken lent faults (IsErr result) result old new ks before after
  pub spent : OnErr result (new ≡ spent_in old)

-- the chunks of groups
abbrev pub chunks_of_groups : List (List (List ℕ)) → List ChunkValue
chunks_of_groups = map simple_chunk

-- where a feed showed what was to come: the groups of its records are those that were given and those still to come
pub record AreGivenOf (all rest : Rest) (old new : Grouping) (given : List (List (List ℕ))) : Type 0 where
  pub stop : all.stop ≡ rest.stop
  pub groups : groups_from old all.records ≡ given ++ groups_from new rest.records

abbrev pub AreGiven : Option Rest → Option Rest → Grouping → Grouping → List (List (List ℕ)) → Type 0
AreGiven before after old new given = IfSome before (λ all. (rest : Rest) × (after ≡ Some rest) × AreGivenOf all rest old new given)

-- a place that no chunk of an open group and of the records below a feed's bound reaches past, where the chunks go on from a
-- place: a group's chunk ends within 23 times what the group costs, and a record of n bytes, which costs n + 8, lowers the
-- bound by n + 1 or more
abbrev pub reach_of : ℕ → Grouping → ℕ → ℕ
reach_of place grouping bound = place + 23 * cost_of grouping.group + 184 * bound
