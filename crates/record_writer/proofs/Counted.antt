-- What is counted of the file of records.
use Rattle.std.proofs.Common.{◌≡◌, ◌∙◌, ℕ, ◌+◌, ◌-◌, ◌%◌, ◌<◌, ◌⊎◌, Bool, true, false, Some, None, Result, Ok, Err, List, [], ◌∷◌, ◌++◌, length, cond, refl, sym, ap, subst, inl, inr, arith}
use Rattle.std.specs.Prelude.{map, ◌==◌, Option}
use Rattle.std.specs.Option.{IfSome}
use Rattle.std.specs.Result.{IfOk}
use Rattle.std.proofs.lemmas.Bool.{cond_both}
use Rattle.std.proofs.lemmas.List.{length-append}
use Rattle.std.proofs.lemmas.List.Sums.{sum_by-cons, sum_by-append}
use Rattle.record_values.specs.declared.file_totals.Totals.{Totals}
use Rattle.chunk_header.specs.Chunks.{ChunkValue}
use Rattle.chunk_header.specs.SimpleChunks.{simple_chunk}
use Rattle.meta_chunk.specs.Files.{is_unread, totals_of, signature, end_of_chunks, laid_each}
use Rattle.meta_chunk.specs.Laid.{end_of_chunk}
use Rattle.meta_chunk.proofs.Joins.{length-laid_each}
use Rattle.meta_chunk.proofs.LaidChunks.{end_of_chunk_after}
use Rattle.meta_chunk.specs.PaddingSizes.{padding, padding_size_of, padding_at}
use Rattle.record_group.specs.Groups.{groups, padding_if, pads_start, pads_end, front_padding, end_padding}
use Rattle.block_layout.specs.Layout.{IsBoundary}
use Rattle.record_group.proofs.Grouping.{joined, joined-groups}
use Rattle.record_group.proofs.Signed.{end_of_chunk-signature}
use Rattle.record_writer.specs.declared.cut_off.CutOff.{CutOff}
use Rattle.record_writer.specs.declared.cut_off.CutOff.TheVariants as cut
use Rattle.record_writer.specs.declared.feed.Stop.{Stop}
use Rattle.record_writer.specs.declared.feed.Stop.TheVariants.{TooLong, InputTooLong, BadLine}
use Rattle.record_writer.specs.declared.options.WriteOptions.{WriteOptions}
use Rattle.record_writer.specs.Feeds.{Rest}
use Rattle.record_writer.specs.Ends.{answer_of, end_of_cut}
use Rattle.record_writer.specs.declared.engine.WriteEnd.{WriteEnd}
use Rattle.record_writer.specs.Written.{chunks_under, tail_chunks}
use Rattle.record_writer.specs.WriteAnswers.{TellsTotals, totals_from}
use Rattle.record_writer.specs.MadeFiles.{MadeFileValue, Lays, nothing_made, resumed_at, totals_behind, totals_made}
use Rattle.record_writer.specs.declared.engine.WriteEnd.TheVariants as end

-- so many records are counted of chunks, and none of them is unread
record Count (ks : List ChunkValue) (records : ℕ) : Type 0 where
  counted : (totals_of ks).records ≡ records
  unread : (totals_of ks).unread ≡ 0

Count-nil : Count [] 0
Count-nil = record { counted = refl; unread = refl }

-- a chunk that is read counts the records that its header says
Count-one : (k : ChunkValue) → is_unread k ≡ false → Count (k ∷ []) k.num_records
Count-one k read =
    let chosen : (m n : ℕ) → cond (is_unread k) m n ≡ n = λ m n. ap (λ (b : Bool). cond b m n) read in
    record {
      counted = omega (arith, sum_by-cons (λ (x : ChunkValue). cond (is_unread x) 0 x.num_records) k [], chosen 0 k.num_records);
      unread = omega (arith, sum_by-cons (λ (x : ChunkValue). cond (is_unread x) 1 0) k [], chosen 1 0);
    }

Count-append : (ks more : List ChunkValue) (m n : ℕ) → Count ks m → Count more n → Count (ks ++ more) (m + n)
Count-append ks more m n h g = record {
  counted = omega (arith, sum_by-append (λ (k : ChunkValue). cond (is_unread k) 0 k.num_records) ks more, h.counted, g.counted);
  unread = omega (arith, sum_by-append (λ (k : ChunkValue). cond (is_unread k) 1 0) ks more, h.unread, g.unread);
}

-- the chunks of groups count their records
Count-groups : (gs : List (List (List ℕ))) → Count (map simple_chunk gs) (length (joined gs))
Count-groups [] = Count-nil
Count-groups (group ∷ gs) =
    subst (λ (n : ℕ). Count (map simple_chunk (group ∷ gs)) n)
    (sym (length-append group (joined gs)))
    (Count-append (simple_chunk group ∷ []) (map simple_chunk gs) (length group) (length (joined gs))
    (Count-one (simple_chunk group) refl)
    (Count-groups gs))

-- padding counts none
Count-padding : (wanted : Bool) (place : ℕ) → Count (padding_if wanted place) 0
unfolding padding_at
Count-padding false place = Count-nil
Count-padding true place =
    cond_both (place % 65536 == 0) [] (padding (padding_size_of place) ∷ []) (λ (ks : List ChunkValue). Count ks 0)
    (λ at_block. Count-nil)
    (λ inside. Count-one (padding (padding_size_of place)) refl)

pub counted-padding_at : (place : ℕ) → ((totals_of (padding_at place)).records ≡ 0) × ((totals_of (padding_at place)).unread ≡ 0)
counted-padding_at place = let count = Count-padding true place in (count.counted, count.unread)

-- it is one chunk that ends further on, or none
pub length-padding_at : (place : ℕ)
    → ((place < end_of_chunks place (padding_at place)) × (length (padding_at place) ≡ 1))
    ⊎ ((end_of_chunks place (padding_at place) ≡ place) × (length (padding_at place) ≡ 0))
unfolding padding_at
length-padding_at place =
    cond_both (place % 65536 == 0) [] (padding (padding_size_of place) ∷ [])
    (λ (ks : List ChunkValue). ((place < end_of_chunks place ks) × (length ks ≡ 1)) ⊎ ((end_of_chunks place ks ≡ place) × (length ks ≡ 0)))
    (λ at_block. inr (refl, refl))
    (λ inside. inl (omega (arith, end_of_chunk_after place (padding (padding_size_of place))), refl))

-- the chunks of records count all records
Count-tail : (options : WriteOptions) (place : ℕ) (records : List (List ℕ)) → Count (tail_chunks options place records) (length records)
Count-tail options place records =
    let gs : List (List (List ℕ)) = groups records options.size options.every in
    let front : List ChunkValue = front_padding place options.pad in
    let end : List ChunkValue = end_padding place records options.size options.every options.pad in
    subst (λ (n : ℕ). Count (tail_chunks options place records) n)
    (omega (arith, ap length (joined-groups records options.size options.every)))
    (Count-append (front ++ map simple_chunk gs) end (0 + length (joined gs)) 0
    (Count-append front (map simple_chunk gs) 0 (length (joined gs)) (Count-padding (pads_start options.pad) place) (Count-groups gs))
    (Count-padding (pads_end options.pad) (end_of_chunks place (front ++ map simple_chunk gs))))

pub counted-tail : (options : WriteOptions) (place : ℕ) (records : List (List ℕ)) → (totals_of (tail_chunks options place records)).records ≡ length records
counted-tail options place records = (Count-tail options place records).counted

-- totals of equal counts are equal
same_totals : (chunks records bytes unread c r b u : ℕ) → chunks ≡ c → records ≡ r → bytes ≡ b → unread ≡ u
    → let t : Totals = record { chunks = chunks; records = records; bytes = bytes; unread = unread } in
    t ≡ record { chunks = c; records = r; bytes = b; unread = u }
same_totals chunks records bytes unread c r b u p q s t = rw (p, q, s, t)

-- what was counted once a file's chunks were laid are their totals
pub totals_made-laid : (a b : Option (List ℕ)) (made : MadeFileValue) (ks : List ChunkValue)
    → Lays a b nothing_made made ks → totals_made made ≡ totals_of ks
totals_made-laid a b made ks h =
    same_totals made.chunks made.records made.place made.unread
    (totals_of ks).chunks (totals_of ks).records (totals_of ks).bytes (totals_of ks).unread
    (omega (arith, h.chunks)) (omega (arith, h.records)) h.place (omega (arith, h.unread))

-- behind what was there before, they are counted besides
pub totals_made-behind : (a b : Option (List ℕ)) (s t : MadeFileValue) (ks : List ChunkValue) → Lays a b s t ks → totals_made t ≡ totals_behind s ks
totals_made-behind a b s t ks h =
    same_totals t.chunks t.records t.place t.unread
    (s.chunks + length ks) (s.records + (totals_of ks).records) (end_of_chunks s.place ks) (s.unread + (totals_of ks).unread)
    h.chunks h.records h.place h.unread

-- behind the signature that is the file's
pub totals_behind-signed : (a b : Option (List ℕ)) (s : MadeFileValue) (options : WriteOptions) (records : List (List ℕ))
    → Lays a b nothing_made s (signature ∷ [])
    → totals_behind s (tail_chunks options s.place records) ≡ totals_of (chunks_under options records)
totals_behind-signed a b s options records h =
    let start : ℕ = end_of_chunk 0 signature in
    let tail : ℕ → List ChunkValue = λ place. tail_chunks options place records in
    let chunks : ℕ → ℕ = λ place. s.chunks + length (tail place) in
    let all = Count-append (signature ∷ []) (tail start) 0 (length records) (Count-one signature refl) (Count-tail options start records) in
    same_totals (s.chunks + length (tail s.place)) (s.records + (totals_of (tail s.place)).records) (end_of_chunks s.place (tail s.place))
    (s.unread + (totals_of (tail s.place)).unread)
    (length (chunks_under options records)) (totals_of (chunks_under options records)).records
    (end_of_chunks 0 (chunks_under options records)) (totals_of (chunks_under options records)).unread
    (omega (arith, h.chunks, ap (λ (place : ℕ). length (tail place)) h.place))
    (omega (arith, h.records, (Count-one signature refl).counted, (Count-tail options s.place records).counted, all.counted))
    (ap (λ (place : ℕ). end_of_chunks place (tail place)) h.place)
    (omega (arith, h.unread, (Count-one signature refl).unread, (Count-tail options s.place records).unread, all.unread))

-- behind bytes that others wrote, those of the chunks alone, but for these bytes
pub totals_behind-resumed : (at bytes : ℕ) (ks : List ChunkValue) → bytes ≡ end_of_chunks at ks
    → let t : Totals = totals_behind (resumed_at at) ks in
    record { chunks = t.chunks; records = t.records; bytes = bytes - at; unread = t.unread } ≡ totals_from at ks
totals_behind-resumed at bytes ks is =
    same_totals (0 + length ks) (0 + (totals_of ks).records) (bytes - at) (0 + (totals_of ks).unread)
    (length ks) (totals_of ks).records (length (laid_each at ks)) (totals_of ks).unread
    (omega arith) (omega arith) (omega (arith, is, length-laid_each at ks)) (omega arith)

-- with these totals the answer is the right one
TellsTotals-ended : (options : WriteOptions) (s : MadeFileValue) (rest : Rest) (stop : Option Stop) (totals : Totals) → s.records ≡ 0 → rest.stop ≡ stop
    → totals ≡ totals_behind s (tail_chunks options s.place rest.records)
    → TellsTotals (answer_of stop totals) (totals_behind s (tail_chunks options s.place rest.records)) rest
TellsTotals-ended options s rest None totals none same counted = (same, counted)
TellsTotals-ended options s rest (Some TooLong) totals none same counted =
    (same, omega (arith, none, ap (λ (t : Totals). t.records) counted, (Count-tail options s.place rest.records).counted))
TellsTotals-ended options s rest (Some InputTooLong) totals none same counted = same
TellsTotals-ended options s rest (Some BadLine) totals none same counted =
    (same, omega (arith, none, ap (λ (t : Totals). t.records) counted, (Count-tail options s.place rest.records).counted))

-- where a feed showed what was to come
pub TellsTotals-told : (options : WriteOptions) (s : MadeFileValue) (ra : Option Rest) (stop : Option Stop) (totals : Totals) → s.records ≡ 0
    → IfSome ra (λ rest. rest.stop ≡ stop)
    → IfSome ra (λ rest. totals ≡ totals_behind s (tail_chunks options s.place rest.records))
    → IfSome ra (λ rest. TellsTotals (answer_of stop totals) (totals_behind s (tail_chunks options s.place rest.records)) rest)
TellsTotals-told options s None stop totals none same counted = tt
TellsTotals-told options s (Some rest) stop totals none same counted = TellsTotals-ended options s rest stop totals none same counted

-- what holds of the totals holds of the answer where it is they
pub IfOk-ended : (P : Totals → Type 0) (stop : Option Stop) (totals : Totals) → P totals → IfOk (answer_of stop totals) P
IfOk-ended P None totals h = h
IfOk-ended P (Some TooLong) totals h = tt
IfOk-ended P (Some InputTooLong) totals h = tt
IfOk-ended P (Some BadLine) totals h = tt

-- an answer of other totals says the same where it is no totals
TellsTotals-err : (end : WriteEnd) (wanted other : Totals) (rest : Rest) → TellsTotals (Err end) wanted rest → TellsTotals (Err end) other rest
TellsTotals-err (end.TooLong count) wanted other rest h = h
TellsTotals-err end.InputTooLong wanted other rest h = h
TellsTotals-err (end.BadLine count) wanted other rest h = h
TellsTotals-err end.Input wanted other rest h = h
TellsTotals-err end.Made wanted other rest h = h
TellsTotals-err end.Memory wanted other rest h = h

pub TellsTotals-stopped : (ra : Option Rest) (end : WriteEnd) (wanted other : List (List ℕ) → Totals)
    → IfSome ra (λ rest. TellsTotals (Err end) (wanted rest.records) rest) → IfSome ra (λ rest. TellsTotals (Err end) (other rest.records) rest)
TellsTotals-stopped None end wanted other h = tt
TellsTotals-stopped (Some rest) end wanted other h = TellsTotals-err end (wanted rest.records) (other rest.records) rest h

-- where the work was cut off, it says nothing of them
pub TellsTotals-cut : (ra : Option Rest) (cause : CutOff) (wanted : List (List ℕ) → Totals)
    → IfSome ra (λ rest. TellsTotals (Err (end_of_cut cause)) (wanted rest.records) rest)
TellsTotals-cut None cause wanted = tt
TellsTotals-cut (Some rest) cut.Input wanted = tt
TellsTotals-cut (Some rest) cut.Made wanted = tt
TellsTotals-cut (Some rest) cut.Memory wanted = tt

-- the answer of the file is that of the chunks behind the signature
pub TellsTotals-signed : (a b : Option (List ℕ)) (s : MadeFileValue) (options : WriteOptions) (ra : Option Rest) (result : Result Totals WriteEnd)
    → Lays a b nothing_made s (signature ∷ [])
    → IfSome ra (λ rest. TellsTotals result (totals_behind s (tail_chunks options s.place rest.records)) rest)
    → IfSome ra (λ rest. TellsTotals result (totals_of (chunks_under options rest.records)) rest)
TellsTotals-signed a b s options None result h answer = tt
TellsTotals-signed a b s options (Some rest) result h answer =
    subst (λ (wanted : Totals). TellsTotals result wanted rest) (totals_behind-signed a b s options rest.records h) answer

-- the answer of the tail is that of the chunks behind bytes that others wrote, without these bytes
pub TellsTotals-resumed : (at : ℕ) (options : WriteOptions) (ra : Option Rest) (totals : Totals)
    → IfSome ra (λ rest. TellsTotals (Ok totals) (totals_behind (resumed_at at) (tail_chunks options at rest.records)) rest)
    → IfSome ra (λ rest. TellsTotals (Ok (record totals { bytes = totals.bytes - at })) (totals_from at (tail_chunks options at rest.records)) rest)
TellsTotals-resumed at options None totals answer = tt
TellsTotals-resumed at options (Some rest) totals answer =
    let ks : List ChunkValue = tail_chunks options at rest.records in (
      answer.0,
      ap (λ (t : Totals). record t { bytes = t.bytes - at }) answer.1 ∙ totals_behind-resumed at (end_of_chunks at ks) ks refl,
    )

-- behind the signature the next chunk begins at 64, and no record is there
pub signed_place : (a b : Option (List ℕ)) (s : MadeFileValue) → Lays a b nothing_made s (signature ∷ []) → s.place ≡ 64
signed_place a b s h = h.place ∙ end_of_chunk-signature

pub signed_records : (a b : Option (List ℕ)) (s : MadeFileValue) → Lays a b nothing_made s (signature ∷ []) → s.records ≡ 0
signed_records a b s h = omega (arith, h.records, (Count-one signature refl).counted)

pub signed_boundary : (a b : Option (List ℕ)) (s : MadeFileValue) → Lays a b nothing_made s (signature ∷ []) → IsBoundary s.place
signed_boundary a b s h = subst IsBoundary (sym (signed_place a b s h)) (inr (omega arith))
