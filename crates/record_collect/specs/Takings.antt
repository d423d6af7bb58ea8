-- Inside. What is taken of the records of files, and what becomes of the stores that threads read. Own.
use Rattle.std.specs.Prelude.{◌≡◌, ◌≢◌, ℕ, ◌+◌, ◌-◌, ◌*◌, ◌^◌, ◌<◌, ◌≤◌, false, All, Option, Some, None, Result, Ok, Err, IfOk, IfSome, OnOk, List, [], ◌∷◌, ◌++◌, length, min, slice_get, take}
use Rattle.std.specs.List.{AllByRecursion}
use Rattle.record_values.specs.declared.file_totals.Totals.{Totals}
use Rattle.record_io.specs.Calls.{OnlyAsks}
use Rattle.record_io.specs.ManyStores.{AreTold}
use Rattle.chunk_header.specs.Chunks.{ChunkValue}
use Rattle.chunk_header.specs.Kinds.{simple_kind}
use Rattle.chunk_header.specs.declared.Header.{Header}
use Rattle.meta_chunk.specs.Files.{totals_of, IsReadable, AreRecordsOf}
use Rattle.meta_chunk.specs.Chains.{IsReadableChain}
use Rattle.chunk_reader.specs.Faults.{IsFault}
use Rattle.chunk_reader.specs.Progress.{ReaderValue}
use Rattle.chunk_reader.specs.Readers.{IsAhead, ReadsIn, ReadsOn}
use Rattle.chunk_reader.specs.declared.file_reader.ChunkAhead.{ChunkAhead}
use Rattle.chunk_reader.specs.declared.reasons.Fault.{Fault}
use Rattle.chunk_reader.specs.declared.reasons.ReadEnd.{ReadEnd}
use Rattle.chunk_reader.specs.declared.reasons.ReadEnd.TheVariants.{Refused, Store}
use Rattle.simple_chunk.specs.Costs.{cost_of}
use Rattle.record_collect.specs.Batches.{HasLong}
use Rattle.record_collect.specs.declared.feeding.Fed.{Fed}
use Rattle.record_collect.specs.declared.feeding.Fed.TheVariants.{Whole, Full, TooLong}
use Rattle.record_collect.specs.Limits.{limit}
use Rattle.record_collect.specs.Passes.{BelongsTo, CollectorValue, IsReady, IsReserved, PassValue, ReservedValue, pass_records}

-- the pass ended, and has the records before some that were refused: what it has costs no more than these all, and with those
-- that were refused it would end above the limit
pub record EndedWithin (pass : PassValue) (records : List (List ℕ)) : Type 0 where
  pub held : ℕ
  pub ended : pass.ended ≡ Some held
  pub within : cost_of (pass_records pass) ≤ cost_of records
  pub over : limit + cost_of (pass_records pass) < held + cost_of records

-- all of these records are held; or those before the ones at which the pass ended; or none, as one is too long
abbrev pub HasTaken : Fed → List (List ℕ) → Type 0
HasTaken (Whole pass) records = (pass_records pass ≡ records) × (pass.ended ≡ None)
HasTaken (Full pass) records = EndedWithin pass records
HasTaken TooLong records = HasLong records

-- the pass, if there is one, belongs to the collector, and where it has all records it goes on
abbrev pub BelongsWhere : CollectorValue → Fed → Type 0
BelongsWhere collector (Whole pass) = BelongsTo collector pass × (pass.ended ≡ None)
BelongsWhere collector (Full pass) = BelongsTo collector pass
BelongsWhere collector TooLong = Unit {0}

-- a pass of the collector of which nothing was put yet
abbrev pub IsReadyFed : CollectorValue → Fed → Type 0
IsReadyFed collector fed = (pass : PassValue) × (fed ≡ Whole pass) × IsReady collector pass

-- what was held of some records, and what is held where these stand behind them
pub record HoldsOn (before after : Fed) (more : List (List ℕ)) : Type 0 where
  pub behind : (records : List (List ℕ)) → HasTaken before records → HasTaken after (records ++ more)

-- what the records of a chunk cost by its header, or the greatest number; nothing where it is no chunk of records
pub record IsCostBy (header : Header) (cost : ℕ) : Type 0 where
  pub simple : header.kind ≡ simple_kind → cost ≡ min (header.decoded_size + 8 * header.num_records) (2 ^ 64 - 1)
  pub other : header.kind ≢ simple_kind → cost ≡ 0

-- a pass that has all records took its step for those of a chunk, which cost so much
pub record IsReservedOf (collector : CollectorValue) (fed : Fed) (cost : ℕ) (reserved : ReservedValue) : Type 0 where
  pub pass : PassValue
  pub whole : fed ≡ Whole pass
  pub belongs : BelongsTo collector pass
  pub is_reserved : IsReserved pass cost reserved
  pub some : 8 ≤ cost

-- what is held where a chunk is judged alone whose records cost no less than this, or of which there are none where it is less than 8
pub record IsHeldWithout (collector : CollectorValue) (before : Fed) (cost : ℕ) (after : Fed) : Type 0 where
  pub belongs : BelongsWhere collector after
  pub on : (more : List (List ℕ)) → cost ≤ cost_of more → (cost < 8 → more ≡ []) → HoldsOn before after more

-- this is held of the records of the chunks at the front of a file that these totals count
pub record IsTakenSoFar (file : List ℕ) (totals : Totals) (fed : Fed) : Type 0 where
  pub chunks : List ChunkValue
  pub records : List (List ℕ)
  pub chain : IsReadableChain chunks file totals.bytes
  pub counted : totals ≡ totals_of chunks
  pub are : AreRecordsOf chunks records
  pub has : HasTaken fed records

-- the file has no fault, and this is held of its records
pub record IsTakenOf (file : List ℕ) (fed : Fed) : Type 0 where
  pub chunks : List ChunkValue
  pub records : List (List ℕ)
  pub is_file : IsReadable chunks file
  pub are : AreRecordsOf chunks records
  pub has : HasTaken fed records

-- the answer is that a file was read to its end
abbrev pub IsRead : Result Fed ReadEnd → Type 0
IsRead answer = (fed : Fed) × (answer ≡ Ok fed)

-- the file of this number was not read to its end, and those before it were
pub record IsFirstStopped (answers : List (Result Fed ReadEnd)) (index : ℕ) (end : ReadEnd) : Type 0 where
  pub before : AllByRecursion IsRead (take index answers)
  pub there : slice_get answers index ≡ Some (Err end)

-- stores told these sizes, each within the limit of files
pub record AreSized {S : Type 0} (told : S → Option ℕ) (stores : List S) (sizes : List ℕ) : Type 0 where
  pub are_told : AreTold told stores sizes
  pub in_reach : AllByRecursion (λ size. size ≤ 2 ^ 60) sizes

-- stores that told their sizes can be read, each by a pass of its own, of which nothing was put yet
pub record CanBeFed {S : Type 0} (told : S → Option ℕ) (collector : CollectorValue) (sizes : List ℕ) (answers : List (Result Fed ReadEnd)) (stores : List S) : Type 0 where
  pub as_many_sizes : length sizes ≡ length stores
  pub as_many_answers : length answers ≡ length stores
  pub are_told : AreTold told stores sizes
  pub in_reach : All (λ size. size ≤ 2 ^ 60) sizes
  pub ready : All (λ answer. (fed : Fed) × (answer ≡ Ok fed) × IsReadyFed collector fed) answers

-- the next chunk of a file that has to be readable can be taken: this is its header
pub record CanTakeNext (file : Option (List ℕ)) (told : Option ℕ) (reader : ReaderValue) (ahead : ChunkAhead) : Type 0 where
  pub strict : reader.unread_ok ≡ false
  pub reads : ReadsIn file told reader
  pub is_ahead : IsAhead file reader ahead

module _ {S L : Type 0} (bytes : S → Option (List ℕ)) (told : S → Option ℕ) (name : S → L) (faults : S → ℕ) where
  -- the next chunk of a store's file was read, and this is held of the records of all so far, where that was before; or the file
  -- has a fault, or the store failed
  pub record TakesNext (collector : CollectorValue) (reader : ReaderValue) (fed : Fed) (before : S) (reader_then : ReaderValue) (after : S) (answer : Result Fed ReadEnd) : Type 0 where
    pub goes_on : OnOk answer (ReadsOn (bytes before) reader reader_then × (reader.totals.bytes < reader_then.totals.bytes))
    pub belongs : IfOk answer (BelongsWhere collector)
    pub taken : IfOk answer (λ fed_then. IfSome (bytes before) (λ file. IsTakenSoFar file reader.totals fed
        → IsTakenSoFar file reader_then.totals fed_then))
    pub refused : (fault : Fault) → answer ≡ Err (Refused fault) → IfSome (bytes before) (λ file. IsFault false file fault)
    pub asks : OnlyAsks bytes told name faults (answer ≡ Err Store) before after

  -- one store was read, this is held of its records, and it answered so
  pub record IsFed (collector : CollectorValue) (before after : S) (answer : Result Fed ReadEnd) : Type 0 where
    pub belongs : IfOk answer (BelongsWhere collector)
    pub taken : IfOk answer (λ fed. IfSome (bytes before) (λ file. IsTakenOf file fed))
    pub refused : (fault : Fault) → answer ≡ Err (Refused fault) → IfSome (bytes before) (λ file. IsFault false file fault)
    pub asks : OnlyAsks bytes told name faults (answer ≡ Err Store) before after

  -- each store was read, and answered so
  abbrev pub AreFed : CollectorValue → List S → List S → List (Result Fed ReadEnd) → Type 0
  AreFed collector [] [] [] = Unit {0}
  AreFed collector [] [] (a ∷ answers) = ⊥
  AreFed collector [] (t ∷ after) answers = ⊥
  AreFed collector (s ∷ before) [] answers = ⊥
  AreFed collector (s ∷ before) (t ∷ after) [] = ⊥
  AreFed collector (s ∷ before) (t ∷ after) (a ∷ answers) = IsFed collector s t a × AreFed collector before after answers
