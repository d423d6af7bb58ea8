-- Parts that are read from the front of a file.
use Rattle.std.proofs.Common.{◌≡◌, ◌∙◌, ℕ, ◌<◌, Bool, false, Option, Result, Ok, List, [], ◌∷◌, ◌++◌, Some, None, IfSome, length, refl, sym, ap, subst, arith}
use Rattle.std.specs.List.{AllZip, enumerate_from}
use Rattle.record_values.specs.declared.file_totals.Totals.{Totals}
use Rattle.chunk_header.specs.Chunks.{ChunkValue}
use Rattle.chunk_header.specs.Views.{value_of_chunk}
use Rattle.meta_chunk.specs.Files.{IsChainOf, IsReadable, Holds, HoldEach, placed_from}
use Rattle.meta_chunk.proofs.Chains.{AreLaid-one}
use Rattle.meta_chunk.proofs.Held.{HoldEach-append, HoldEach-one}
use Rattle.chunk_reader.specs.Faults.{IsAllowed, BeginsWithSignature, IsFault}
use Rattle.chunk_reader.specs.Progress.{ReaderValue}
use Rattle.chunk_reader.specs.Readers.{IsNextChunk, IsReadWhole, IsFaultBehind}
use Rattle.chunk_reader.specs.declared.judging.Judged.{Judged}
use Rattle.chunk_reader.specs.declared.reasons.Fault.{Fault}
use Rattle.chunk_reader.specs.declared.reasons.ReadEnd.{ReadEnd}
use Rattle.chunk_reader.proofs.ChainSteps.{bytes-chain, IsChainOf-nil}
use Rattle.chunk_reader.proofs.SignedFiles.{begins_signed}
use Rattle.record_ranges.specs.declared.stretches.Span.{Span}
use Rattle.record_ranges.specs.declared.stretches.Stretch.{Stretch}
use Rattle.record_ranges.specs.Ranges.{records_between}
use Rattle.record_ranges.specs.Stretches.{Adds, IsReadFromFront, IsReadSoFar, AreReadOf}
use Rattle.record_ranges.proofs.Runs.{kept-chunk}

-- one chunk more
pub so_far-more : {K : Type 0} (kept_as : List (List ℕ) → K) (bytes : Option (List ℕ)) (span : Span) (before after : ReaderValue) (j : Judged) (held : List (List ℕ)) (old new : K) → before.unread_ok ≡ false
    → IsNextChunk bytes before after j → Holds (value_of_chunk j.chunk) held
    → Adds kept_as old new (records_between span.from span.to (enumerate_from j.begin held))
    → IfSome bytes (λ file. IsReadSoFar kept_as file span before.totals old → IsReadSoFar kept_as file span after.totals new)
so_far-more kept_as None span before after j held old new strict h holds adds = tt
so_far-more kept_as (Some file) span before after j held old new strict h holds adds =
    λ s.
    let k : ChunkValue = value_of_chunk j.chunk in
    let chain = subst (λ (unread_ok : Bool). IsChainOf (IsAllowed unread_ok) s.chunks file before.totals.bytes) (sym strict) s.chain in
    let on = h.given s.chunks chain s.counted in
    record {
      chunks = s.chunks ++ k ∷ [];
      lists = s.lists ++ held ∷ [];
      chain = subst (λ (unread_ok : Bool). IsChainOf (IsAllowed unread_ok) (s.chunks ++ k ∷ []) file after.totals.bytes) strict on.0;
      counted = on.1;
      held = HoldEach-append s.chunks (k ∷ []) s.lists (held ∷ []) s.held (holds, refl);
      are =
          kept-chunk kept_as span.from span.to 0 before.totals.bytes j.begin s.chunks k s.lists held old new s.held
          (bytes-chain s.chunks file before.totals.bytes s.chain) h.judged.begin s.are adds;
    }

-- the first chunk shows that the file begins as files do
signed-first : (bytes : Option (List ℕ)) (before after : ReaderValue) (j : Judged) → before.totals ≡ record { chunks = 0; records = 0; bytes = 0; unread = 0 }
    → IsNextChunk bytes before after j → IfSome bytes BeginsWithSignature
signed-first None before after j none h = tt
signed-first (Some file) before after j none h =
    let chain = subst (λ (t : Totals). IsChainOf (IsAllowed before.unread_ok) [] file t.bytes) (sym none) (IsChainOf-nil file) in
    let on = h.given [] chain none in
    begins_signed (value_of_chunk j.chunk) [] file after.totals.bytes on.0

signed-whole : (bytes : Option (List ℕ)) (at : ReaderValue) → at.totals ≡ record { chunks = 0; records = 0; bytes = 0; unread = 0 } → IsReadWhole bytes at
    → IfSome bytes BeginsWithSignature
signed-whole bytes at none h =
    let empty : at.totals.bytes ≡ 0 = ap (λ (t : Totals). t.bytes) none in
    absurd (omega (arith, empty, h.at_end, h.signed))

pub signed-next : (bytes : Option (List ℕ)) (before after : ReaderValue) (result : Result (Option Judged) ReadEnd) (given : Option Judged) → result ≡ Ok given
    → before.totals ≡ record { chunks = 0; records = 0; bytes = 0; unread = 0 }
    → ((j : Judged) → result ≡ Ok (Some j) → IsNextChunk bytes before after j) → (result ≡ Ok None → (after ≡ before) × IsReadWhole bytes before)
    → IfSome bytes BeginsWithSignature
signed-next bytes before after result (Some j) is none chunk ended = signed-first bytes before after j none (chunk j is)
signed-next bytes before after result None is none chunk ended = signed-whole bytes before none (ended is).1

-- a fault that the reader tells is that of the file
pub refused-front : (bytes : Option (List ℕ)) (at : ReaderValue) (fault : Fault) → at.unread_ok ≡ false → IsFaultBehind bytes at fault
    → IfSome bytes (λ file. IsFault false file fault)
refused-front None at fault strict h = tt
refused-front (Some file) at fault strict h = subst (λ (unread_ok : Bool). IsFault unread_ok file fault) strict h.is_fault

-- parts of one file, which has one list of chunks
same_file : {K : Type 0} (kept_as : List (List ℕ) → K) (file : List ℕ) (ks : List ChunkValue) (lists : List (List (List ℕ))) (span : Span) (part : Stretch K)
    → IsReadable ks file → HoldEach ks lists → IsReadFromFront kept_as file span part
    → part.kept ≡ kept_as (records_between span.from span.to (placed_from 0 ks lists))
same_file kept_as file ks lists span part is held h =
    let same : h.chunks ≡ ks = AreLaid-one h.chunks ks file (length file) (omega arith) h.is_file.1.laid is.1.laid in
    let each : HoldEach ks h.lists = subst (λ (zs : List ChunkValue). HoldEach zs h.lists) same h.held in
    h.kept
    ∙ ap (λ (zs : List ChunkValue). kept_as (records_between span.from span.to (placed_from 0 zs h.lists))) same
    ∙ ap (λ (zs : List (List (List ℕ))). kept_as (records_between span.from span.to (placed_from 0 ks zs))) (HoldEach-one ks h.lists lists each held)

same_files : {K : Type 0} (kept_as : List (List ℕ) → K) (file : List ℕ) (ks : List ChunkValue) (lists : List (List (List ℕ))) (spans : List Span) (parts : List (Stretch K))
    → IsReadable ks file → HoldEach ks lists → AllZip (IsReadFromFront kept_as file) spans parts
    → AllZip (λ span s. s.kept ≡ kept_as (records_between span.from span.to (placed_from 0 ks lists))) spans parts
same_files kept_as file ks lists [] [] is held h = tt
same_files kept_as file ks lists [] (s ∷ parts) is held h = absurd h
same_files kept_as file ks lists (p ∷ spans) [] is held h = absurd h
same_files kept_as file ks lists (p ∷ spans) (s ∷ parts) is held h =
    (same_file kept_as file ks lists p s is held h.0, same_files kept_as file ks lists spans parts is held h.1)

pub parts_read : {K : Type 0} (kept_as : List (List ℕ) → K) (file : List ℕ) (size : ℕ) (spans : List Span) (parts : List (Stretch K)) → size ≡ length file → 0 < length spans
    → AllZip (IsReadFromFront kept_as file) spans parts → AreReadOf kept_as file size spans parts
parts_read kept_as file size [] parts is some h = absurd (omega (arith, some))
parts_read kept_as file size (p ∷ spans) [] is some h = absurd h
parts_read kept_as file size (p ∷ spans) (s ∷ parts) is some h =
    let first = h.0 in
    record {
      chunks = first.chunks;
      placed = placed_from 0 first.chunks first.lists;
      is_file = first.is_file;
      are_placed = (first.lists, first.held, refl);
      sized = is;
      each = same_files kept_as file first.chunks first.lists (p ∷ spans) (s ∷ parts) first.is_file first.held h;
    }
