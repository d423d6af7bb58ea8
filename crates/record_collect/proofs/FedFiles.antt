-- Files whose records are held.
use Rattle.std.proofs.Common.{◌≡◌, ◌≢◌, ◌∙◌, ℕ, ◌^◌, ◌<◌, ◌≤◌, Bool, false, Option, List, [], ◌∷◌, ◌++◌, Some, None, IfSome, inl, inr, length, refl, sym, ap, subst, arith}
use Rattle.std.proofs.lemmas.List.{append-nil, nil_from_length}
use Rattle.record_values.specs.declared.file_totals.Totals.{Totals}
use Rattle.chunk_header.specs.Chunks.{ChunkValue}
use Rattle.chunk_header.specs.Kinds.{simple_kind}
use Rattle.chunk_header.specs.SimpleChunks.{IsSimple}
use Rattle.chunk_header.specs.declared.Header.{Header}
use Rattle.chunk_header.specs.Views.{value_of, value_of_chunk}
use Rattle.chunk_header.proofs.FewRecords.{few_bytes, few_records}
use Rattle.chunk_header.proofs.SimpleChunks.{sum-map-length}
use Rattle.simple_chunk.specs.Costs.{cost_of}
use Rattle.simple_chunk.proofs.CostLemmas.{cost_of-is}
use Rattle.meta_chunk.specs.Files.{IsChainOf, IsPlain, Holds, AreRecordsOf, signature, totals_of}
use Rattle.meta_chunk.proofs.Held.{AreRecordsOf-append}
use Rattle.chunk_reader.specs.Contents.{IsWhat}
use Rattle.chunk_reader.specs.Faults.{IsAllowed, IsFault}
use Rattle.chunk_reader.specs.Progress.{ReaderValue}
use Rattle.chunk_reader.specs.Readers.{GoesOn, IsNextChunk, IsNextPassed, IsFaultBehind}
use Rattle.chunk_reader.specs.declared.judging.Judged.{Judged}
use Rattle.chunk_reader.specs.declared.judging.What.TheVariants.{Records}
use Rattle.chunk_reader.specs.declared.reasons.Fault.{Fault}
use Rattle.chunk_reader.proofs.FirstChunks.{totals_of-signature}
use Rattle.record_collect.specs.declared.feeding.Fed.{Fed}
use Rattle.record_collect.specs.Passes.{CollectorValue, pass_records}
use Rattle.record_collect.specs.Takings.{HasTaken, HoldsOn, IsCostBy, IsReadyFed, IsTakenSoFar}

-- the records of one chunk
records_of_one : (k : ChunkValue) (held : List (List ℕ)) → Holds k held → AreRecordsOf (k ∷ []) held
records_of_one k held h = (held ∷ [], (h, refl), sym (append-nil held))

-- the signature alone, which has no records, of a pass of which nothing was put
signed : (file : List ℕ) (totals : Totals) (collector : CollectorValue) (fed : Fed) → IsChainOf (IsAllowed false) (signature ∷ []) file totals.bytes
    → totals ≡ totals_of (signature ∷ []) → IsReadyFed collector fed → IsTakenSoFar file totals fed
signed file totals collector fed chain counted (pass, is, ready) = record {
  chunks = signature ∷ [];
  records = [];
  chain = chain;
  counted = counted;
  are = records_of_one signature [] (inr ((λ simple. absurd (omega (arith, simple.1.kind))), refl));
  has = subst (λ (f : Fed). HasTaken f []) (sym is) (ap (λ m. pass_records (record pass { mine = m })) ready.1.0, ready.1.1);
}

pub taken-signature : (bytes : Option (List ℕ)) (totals : Totals) (collector : CollectorValue) (fed : Fed)
    → IfSome bytes (λ file. IsChainOf (IsAllowed false) (signature ∷ []) file totals.bytes) → totals ≡ totals_of (signature ∷ []) → IsReadyFed collector fed
    → IfSome bytes (λ file. IsTakenSoFar file totals fed)
taken-signature None totals collector fed chain counted ready = tt
taken-signature (Some file) totals collector fed chain counted ready = signed file totals collector fed chain counted ready

pub behind_signature : (totals : Totals) → totals ≡ totals_of (signature ∷ []) → 0 < totals.bytes
behind_signature totals is = omega (arith, ap (λ (t : Totals). t.bytes) (is ∙ totals_of-signature))

-- one chunk more, of which these records are held or not
taken-on : (file : List ℕ) (before after : Totals) (k : ChunkValue) (held : List (List ℕ)) (fed more : Fed)
    → GoesOn false file before after k → Holds k held → HoldsOn fed more held
    → IsTakenSoFar file before fed → IsTakenSoFar file after more
taken-on file before after k held fed more goes holds on s =
    let next = goes s.chunks s.chain s.counted in
    record {
      chunks = s.chunks ++ k ∷ [];
      records = s.records ++ held;
      chain = next.0;
      counted = next.1;
      are = AreRecordsOf-append s.chunks (k ∷ []) s.records held s.are (records_of_one k held holds);
      has = on.behind s.records s.has;
    }

-- that was read, and is one of records
pub next-moved : (bytes : Option (List ℕ)) (before after : ReaderValue) (j : Judged) → IsNextChunk bytes before after j → before.totals.bytes < after.totals.bytes
next-moved bytes before after j h = omega (arith, h.judged.after, h.moved)

pub next-simple : (bytes : Option (List ℕ)) (before after : ReaderValue) (j : Judged) (records : List (List ℕ)) → IsNextChunk bytes before after j
    → j.what ≡ Records records → IsSimple (value_of_chunk j.chunk) records
next-simple bytes before after j records h is = subst (IsWhat before.unread_ok (value_of_chunk j.chunk)) is h.judged.what

pub taken-more : (bytes : Option (List ℕ)) (before after : ReaderValue) (j : Judged) (records : List (List ℕ)) (fed more : Fed)
    → before.unread_ok ≡ false → IsNextChunk bytes before after j → IsSimple (value_of_chunk j.chunk) records → HoldsOn fed more records
    → IfSome bytes (λ file. IsTakenSoFar file before.totals fed → IsTakenSoFar file after.totals more)
taken-more None before after j records fed more strict h simple on = tt
taken-more (Some file) before after j records fed more strict h simple on =
    taken-on file before.totals after.totals (value_of_chunk j.chunk) records fed more
    (subst (λ (unread_ok : Bool). GoesOn unread_ok file before.totals after.totals (value_of_chunk j.chunk)) strict h.given) (inl simple) on

-- its records cost what its header says
pub simple-cost : (header : Header) (k : ChunkValue) (records : List (List ℕ)) (cost : ℕ) → IsCostBy header cost → IsSimple k records → k ≡ value_of header k.«data»
    → length k.«data» ≤ 2 ^ 26 → cost_of records ≡ cost
simple-cost header k records cost by simple is small =
    let kind : header.kind ≡ simple_kind = sym (ap (λ (x : ChunkValue). x.kind) is) ∙ simple.kind in
    omega (
      arith,
      by.simple kind,
      ap (λ (x : ChunkValue). x.decoded_size) is,
      ap (λ (x : ChunkValue). x.num_records) is,
      simple.decoded_size,
      simple.num_records,
      few_bytes k records simple,
      few_records k records simple,
      small,
      cost_of-is records,
      sum-map-length records,
    )

-- the records of a chunk that is judged alone cost no less than its header says, and there are none where that is less than 8
record HasRecords (k : ChunkValue) (header : Header) : Type 0 where
  pub held : List (List ℕ)
  pub holds : Holds k held
  pub costs : (cost : ℕ) → IsCostBy header cost → (cost ≤ cost_of held) × (cost < 8 → held ≡ [])

no_records : (k : ChunkValue) (header : Header) (kind : ℕ) → value_of header k.«data» ≡ k → k.kind ≡ kind → kind ≢ simple_kind → HasRecords k header
no_records k header kind fields is other = record {
  held = [];
  holds = inr ((λ simple. other (sym is ∙ simple.1.kind)), refl);
  costs = λ cost by. (
    omega (arith, by.other (λ simple. other (sym is ∙ sym (ap (λ (x : ChunkValue). x.kind) fields) ∙ simple))),
    λ little. refl,
  );
}

some_records : (k : ChunkValue) (header : Header) (records : List (List ℕ)) → value_of header k.«data» ≡ k → IsSimple k records → HasRecords k header
some_records k header records fields simple =
    let kind : header.kind ≡ simple_kind = ap (λ (x : ChunkValue). x.kind) fields ∙ simple.kind in
    let size : header.decoded_size ≡ k.decoded_size = ap (λ (x : ChunkValue). x.decoded_size) fields in
    let many : header.num_records ≡ k.num_records = ap (λ (x : ChunkValue). x.num_records) fields in
    record {
      held = records;
      holds = inl simple;
      costs = λ cost by. (
        omega (arith, by.simple kind, size, many, simple.decoded_size, simple.num_records, cost_of-is records, sum-map-length records),
        λ little. nil_from_length records (omega (arith, little, by.simple kind, many, simple.num_records)),
      );
    }

has_records : (k : ChunkValue) (header : Header) → value_of header k.«data» ≡ k → IsPlain k → HasRecords k header
has_records k header fields (small, inl (records, simple)) = some_records k header records fields simple
has_records k header fields (small, inr (inl is)) = no_records k header 0x73 fields is.0 (λ same. omega arith)
has_records k header fields (small, inr (inr (inl is))) = no_records k header 0x6d fields is.0 (λ same. omega arith)
has_records k header fields (small, inr (inr (inr is))) = no_records k header 0x70 fields is.0 (λ same. omega arith)

-- one chunk more that was judged alone
pub passed-more : (bytes : Option (List ℕ)) (before after : ReaderValue) (header : Header) (cost : ℕ) (fed more : Fed)
    → before.unread_ok ≡ false → IsNextPassed bytes before after header → IsCostBy header cost
    → ((records : List (List ℕ)) → cost ≤ cost_of records → (cost < 8 → records ≡ []) → HoldsOn fed more records)
    → IfSome bytes (λ file. IsTakenSoFar file before.totals fed → IsTakenSoFar file after.totals more)
passed-more None before after header cost fed more strict h by on = tt
passed-more (Some file) before after header cost fed more strict h by on =
    let k : ChunkValue = h.given.0 in
    let plain : IsPlain k = subst (λ (unread_ok : Bool). IsAllowed unread_ok k) strict h.given.2 in
    let own : HasRecords k header = has_records k header h.given.1 plain in
    let costs = own.costs cost by in
    taken-on file before.totals after.totals k own.held fed more
    (subst (λ (unread_ok : Bool). GoesOn unread_ok file before.totals after.totals k) strict h.given.3) own.holds
    (on own.held costs.0 costs.1)

-- a fault that the reader tells is that of the file
pub refused-file : (bytes : Option (List ℕ)) (at : ReaderValue) (fault : Fault) → at.unread_ok ≡ false → IsFaultBehind bytes at fault
    → IfSome bytes (λ file. IsFault false file fault)
refused-file None at fault strict h = tt
refused-file (Some file) at fault strict h = subst (λ (unread_ok : Bool). IsFault unread_ok file fault) strict h.is_fault
