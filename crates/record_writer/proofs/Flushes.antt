-- The chunks of records whole, or a front of them, once what was held went out.
use Rattle.std.proofs.Common.{◌≡◌, ◌∙◌, ℕ, Option, Some, None, Result, Ok, Err, List, [], ◌∷◌, ◌++◌, sym, ap, subst, append_assoc}
use Rattle.std.proofs.lemmas.List.{append-nil}
use Rattle.std.specs.Option.{IfSome}
use Rattle.std.specs.Result.{OnOk, OnErr}
use Rattle.record_io.specs.Outside.{Takes, TakesShort}
use Rattle.record_io.specs.Calls.{TakesFront}
use Rattle.record_io.proofs.Calls.{Takes-append, TakesFront-append, TakesFront-none, TakesShort-append, TakesShort-longer}
use Rattle.meta_chunk.specs.Files.{signature, signature_bytes, laid_each}
use Rattle.meta_chunk.specs.Laid.{end_of_chunk}
use Rattle.record_group.proofs.Signed.{file_of-signed}
use Rattle.record_values.specs.declared.file_totals.Totals.{Totals}
use Rattle.record_writer.specs.declared.cut_off.CutOff.{CutOff}
use Rattle.record_writer.specs.declared.cut_off.CutOff.TheVariants.{Input, Made, Memory}
use Rattle.record_writer.specs.declared.feed.Stop.{Stop}
use Rattle.record_writer.specs.declared.feed.Stop.TheVariants.{TooLong, InputTooLong, BadLine}
use Rattle.record_writer.specs.declared.engine.WriteEnd.{WriteEnd}
use Rattle.record_writer.specs.declared.engine.WriteEnd.TheVariants as end
use Rattle.record_writer.specs.declared.options.WriteOptions.{WriteOptions}
use Rattle.record_writer.specs.Ends.{answer_of, end_of_cut}
use Rattle.record_writer.specs.Feeds.{Rest}
use Rattle.record_writer.specs.Written.{file_under, tail_chunks}
use Rattle.record_writer.specs.WriteAnswers.{TakesFile, tail_under}
use Rattle.record_writer.specs.MadeFiles.{MadeFileValue, Lays, LaysFront, nothing_made, totals_behind, totals_made}
use Rattle.record_writer.proofs.Counted.{totals_made-behind}
use Rattle.record_writer.proofs.Fronts.{Takes-flushed, TakesShort-flushed, TakesShort-front_flushed, TakesFront-front_flushed, TakesShort-put_failed}

-- the bytes of the chunks of records behind what is held
abbrev bytes_behind : WriteOptions → MadeFileValue → List (List ℕ) → List ℕ
bytes_behind options s records = s.held ++ tail_under options s.place records

-- once what was held went out, the sink took these bytes, where the chunks were put whole
pub Takes-ended : {T E : Type 0} (options : WriteOptions) (s : MadeFileValue) (a b c : Option (List ℕ)) (t : MadeFileValue) (ra : Option Rest) (r : Result T E)
    → OnOk r (IfSome ra (λ rest. Lays a b s t (tail_chunks options s.place rest.records))) → Takes b c t.held
    → OnOk r (IfSome ra (λ rest. Takes a c (bytes_behind options s rest.records)))
Takes-ended options s a b c t ra (Err e) whole flushed = tt
Takes-ended options s a b c t None (Ok x) whole flushed = tt
Takes-ended options s a b c t (Some rest) (Ok x) whole flushed =
    Takes-flushed a b c (bytes_behind options s rest.records) t.held whole.bytes flushed

-- not all of them where that failed, however the chunks were put
pub TakesShort-ended : {T E : Type 0} (F : Type 0) (options : WriteOptions) (s : MadeFileValue) (a b c : Option (List ℕ)) (t : MadeFileValue) (ra : Option Rest) (r : Result T E)
    → OnOk r (IfSome ra (λ rest. Lays a b s t (tail_chunks options s.place rest.records)))
    → OnErr r (IfSome ra (λ rest. LaysFront F a b s t (tail_chunks options s.place rest.records)))
    → TakesShort b c t.held → IfSome ra (λ rest. TakesShort a c (bytes_behind options s rest.records))
TakesShort-ended F options s a b c t None r whole front flushed = tt
TakesShort-ended F options s a b c t (Some rest) (Ok x) whole front flushed =
    TakesShort-flushed a b c (bytes_behind options s rest.records) t.held whole.bytes flushed
TakesShort-ended F options s a b c t (Some rest) (Err e) whole front flushed =
    TakesShort-front_flushed a b c (bytes_behind options s rest.records) t.held front.bytes flushed

-- what is said of the sink where the work was cut off
pub TakesFile-cut : {T : Type 0} (options : WriteOptions) (s : MadeFileValue) (a b c : Option (List ℕ)) (t : MadeFileValue) (ra : Option Rest) (r : Result T CutOff)
    (cut : CutOff) → r ≡ Err cut
    → OnErr r (IfSome ra (λ rest. LaysFront (r ≡ Err Made) a b s t (tail_chunks options s.place rest.records)))
    → TakesFront b c t.held → IfSome ra (λ rest. TakesFile (Err (end_of_cut cut)) a c (bytes_behind options s rest.records))
TakesFile-cut options s a b c t None r cut is front flushed = tt
TakesFile-cut options s a b c t (Some rest) (Ok x) cut is front flushed = absurd cc
TakesFile-cut options s a b c t (Some rest) (Err e) Input is front flushed =
    TakesFront-front_flushed a b c (bytes_behind options s rest.records) t.held front.bytes flushed
TakesFile-cut options s a b c t (Some rest) (Err e) Made is front flushed =
    TakesShort-put_failed a b c (bytes_behind options s rest.records) t.held front.bytes is flushed
TakesFile-cut options s a b c t (Some rest) (Err e) Memory is front flushed =
    TakesFront-front_flushed a b c (bytes_behind options s rest.records) t.held front.bytes flushed

-- and of all of the file where it wasn't
pub TakesFile-ended : (bytes : List (List ℕ) → List ℕ) (a c : Option (List ℕ)) (ra : Option Rest) (stop : Option Stop) (totals : Totals)
    → IfSome ra (λ rest. Takes a c (bytes rest.records))
    → IfSome ra (λ rest. TakesFile (answer_of stop totals) a c (bytes rest.records))
TakesFile-ended bytes a c ra None totals whole = whole
TakesFile-ended bytes a c ra (Some TooLong) totals whole = whole
TakesFile-ended bytes a c ra (Some InputTooLong) totals whole = whole
TakesFile-ended bytes a c ra (Some BadLine) totals whole = whole

-- what was counted then are the totals of the chunks behind what was there
pub totals_made-ended : {T E : Type 0} (options : WriteOptions) (s : MadeFileValue) (a b : Option (List ℕ)) (t : MadeFileValue) (ra : Option Rest) (r : Result T E)
    → OnOk r (IfSome ra (λ rest. Lays a b s t (tail_chunks options s.place rest.records)))
    → OnOk r (IfSome ra (λ rest. totals_made t ≡ totals_behind s (tail_chunks options s.place rest.records)))
totals_made-ended options s a b t ra (Err e) whole = tt
totals_made-ended options s a b t None (Ok x) whole = tt
totals_made-ended options s a b t (Some rest) (Ok x) whole = totals_made-behind a b s t (tail_chunks options s.place rest.records) whole

-- bytes of which some are held, and then what goes on behind these
TakesFile-behind : (result : Result Totals WriteEnd) (a b c : Option (List ℕ)) (passed bytes : List ℕ)
    → Takes a b passed → TakesFile result b c bytes → TakesFile result a c (passed ++ bytes)
TakesFile-behind (Ok totals) a b c passed bytes first then = Takes-append a b c passed bytes first then
TakesFile-behind (Err (end.TooLong count)) a b c passed bytes first then = Takes-append a b c passed bytes first then
TakesFile-behind (Err end.InputTooLong) a b c passed bytes first then = Takes-append a b c passed bytes first then
TakesFile-behind (Err (end.BadLine count)) a b c passed bytes first then = Takes-append a b c passed bytes first then
TakesFile-behind (Err end.Input) a b c passed bytes first then = TakesFront-append a b c passed bytes first then
TakesFile-behind (Err end.Made) a b c passed bytes first then = TakesShort-append a b c passed bytes first then
TakesFile-behind (Err end.Memory) a b c passed bytes first then = TakesFront-append a b c passed bytes first then

-- the bytes of the signature alone
signature-alone : laid_each 0 (signature ∷ []) ≡ signature_bytes
unfolding laid_each
signature-alone = append-nil signature_bytes

-- behind the signature the chunks of records make the file
signed_bytes : (a b : Option (List ℕ)) (s : MadeFileValue) (options : WriteOptions) (records : List (List ℕ)) (h : Lays a b nothing_made s (signature ∷ []))
    → h.bytes.passed ++ bytes_behind options s records ≡ file_under options records
signed_bytes a b s options records h =
    let tail : ℕ → List ℕ = λ place. tail_under options place records in
    sym (append_assoc h.bytes.passed s.held (tail s.place))
    ∙ ap (λ (front : List ℕ). front ++ tail s.place) (sym h.bytes.parts ∙ signature-alone)
    ∙ ap (λ (place : ℕ). signature_bytes ++ tail place) h.place
    ∙ sym (file_of-signed records options.size options.every options.pad)

pub TakesFile-signed : (a b c : Option (List ℕ)) (s : MadeFileValue) (options : WriteOptions) (ra : Option Rest) (result : Result Totals WriteEnd)
    → Lays a b nothing_made s (signature ∷ [])
    → IfSome ra (λ rest. TakesFile result b c (bytes_behind options s rest.records))
    → IfSome ra (λ rest. TakesFile result a c (file_under options rest.records))
TakesFile-signed a b c s options None result h took = tt
TakesFile-signed a b c s options (Some rest) result h took =
    subst (λ (bytes : List ℕ). TakesFile result a c bytes) (signed_bytes a b s options rest.records h)
    (TakesFile-behind result a b c h.bytes.passed (bytes_behind options s rest.records) h.bytes.taken took)

-- where the signature failed, not all of it was taken, nor of the file
pub TakesFile-unsigned : {F : Type 0} (a b : Option (List ℕ)) (s : MadeFileValue) (options : WriteOptions) (ra : Option Rest)
    → LaysFront F a b nothing_made s (signature ∷ []) → F
    → IfSome ra (λ rest. TakesFile (Err end.Made) a b (file_under options rest.records))
TakesFile-unsigned a b s options None h fails = tt
TakesFile-unsigned a b s options (Some rest) h fails =
    let tail : List ℕ = tail_under options (end_of_chunk 0 signature) rest.records in
    subst (λ (bytes : List ℕ). TakesShort a b bytes) (sym (file_of-signed rest.records options.size options.every options.pad))
    (TakesShort-longer a b signature_bytes tail
    (subst (λ (bytes : List ℕ). TakesShort a b bytes) signature-alone
    (TakesShort-put_failed a b b (laid_each 0 (signature ∷ [])) s.held h.bytes fails (TakesFront-none b s.held))))
