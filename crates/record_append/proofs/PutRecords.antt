-- What a sink over a device takes, behind what the device held.
use Rattle.std.proofs.Common.{◌≡◌, ◌≢◌, ◌∙◌, ℕ, zero, suc, ◌^◌, ◌<◌, Option, Some, None, IfSome, IsSomeAnd, Result, Ok, Err, List, [], ◌++◌, length, take, drop, refl, sym, ap, subst, arith}
use Rattle.std.specs.Prelude.{option_map}
use Rattle.std.specs.Option.{ForSome}
use Rattle.std.proofs.lemmas.List.{take-append-drop}
use Rattle.record_io.specs.Outside.{Takes, TakesShort}
use Rattle.record_io.specs.Calls.{TakesFront}
use Rattle.record_values.specs.declared.file_totals.Totals.{Totals}
use Rattle.chunk_header.specs.Chunks.{ChunkValue}
use Rattle.meta_chunk.specs.Files.{totals_of, end_of_chunks, laid_each}
use Rattle.meta_chunk.proofs.Joins.{end-laid_each}
use Rattle.record_group.specs.Groups.{file_of}
use Rattle.record_writer.specs.Feeds.{Rest}
use Rattle.record_writer.specs.declared.engine.WriteEnd.{WriteEnd}
use Rattle.record_writer.specs.declared.engine.WriteEnd.TheVariants.{TooLong, InputTooLong, BadLine, Input, Made, Memory}
use Rattle.record_writer.specs.declared.options.WriteOptions.{WriteOptions}
use Rattle.record_writer.specs.Written.{chunks_under, file_under}
use Rattle.record_writer.specs.WriteAnswers.{TellsWritten, TellsTotals, TakesFile, tail_under, totals_from}
use Rattle.record_append.specs.Devices.{bytes_before, bytes_from, name_of_sized}
use Rattle.record_append.specs.Grown.{bytes_at}
use Rattle.record_append.specs.AppendAnswers.{totals_at}

-- bytes that end at a place, and those from there on
held_behind : (front taken : List ℕ) (place : ℕ) (held : Option (List ℕ))
    → bytes_before place held ≡ Some front → bytes_from place held ≡ Some taken → held ≡ Some (front ++ taken)
held_behind front taken place None before behind = cc
held_behind front taken place (Some file) before behind =
    let first : take place file ≡ front = cc in
    let rest : drop place file ≡ taken = cc in
    ap Some (sym (take-append-drop place file) ∙ ap (λ (xs : List ℕ). xs ++ drop place file) first ∙ ap (λ (xs : List ℕ). front ++ xs) rest)

-- so what the sink took stands behind what the device held
takes_behind : (front file : List ℕ) (place : ℕ) (held : Option (List ℕ)) → bytes_before place held ≡ Some front
    → Takes (Some []) (bytes_from place held) file → Takes (Some front) held file
takes_behind front file place held before took = held_behind front file place held before took

front_behind : (front file : List ℕ) (place : ℕ) (held : Option (List ℕ)) → bytes_before place held ≡ Some front
    → TakesFront (Some []) (bytes_from place held) file → TakesFront (Some front) held file
front_behind front file place held before (n, fits, took) = (n, fits, held_behind front (take n file) place held before took)

short_behind : (front file : List ℕ) (place : ℕ) (held : Option (List ℕ)) → bytes_before place held ≡ Some front
    → TakesShort (Some []) (bytes_from place held) file → TakesShort (Some front) held file
short_behind front file place held before (n, less, took) = (n, less, held_behind front (take n file) place held before took)

file_behind : (result : Result Totals WriteEnd) (front file : List ℕ) (place : ℕ) (held : Option (List ℕ)) → bytes_before place held ≡ Some front
    → TakesFile result (Some []) (bytes_from place held) file → TakesFile result (Some front) held file
file_behind (Ok totals) front file place held before took = takes_behind front file place held before took
file_behind (Err (TooLong count)) front file place held before took = takes_behind front file place held before took
file_behind (Err InputTooLong) front file place held before took = takes_behind front file place held before took
file_behind (Err (BadLine count)) front file place held before took = takes_behind front file place held before took
file_behind (Err Input) front file place held before took = front_behind front file place held before took
file_behind (Err Made) front file place held before took = short_behind front file place held before took
file_behind (Err Memory) front file place held before took = front_behind front file place held before took

-- of a device that shows nothing no more is said than that it failed before some byte
file_untold : (result : Result Totals WriteEnd) (taken held : Option (List ℕ)) (file : List ℕ)
    → TakesFile result None taken file → TakesFile result None held file
file_untold (Ok totals) taken held file took = tt
file_untold (Err (TooLong count)) taken held file took = tt
file_untold (Err InputTooLong) taken held file took = tt
file_untold (Err (BadLine count)) taken held file took = tt
file_untold (Err Input) taken held file took = tt
file_untold (Err Made) taken held file (n, less, took) = (n, less, tt)
file_untold (Err Memory) taken held file took = tt

device_takes : (result : Result Totals WriteEnd) (bytes held : Option (List ℕ)) (place : ℕ) (file : List ℕ)
    → bytes_before place held ≡ bytes
    → TakesFile result (option_map (λ _. []) bytes) (bytes_from place held) file → TakesFile result bytes held file
device_takes result None held place file before took = file_untold result (bytes_from place held) held file took
device_takes result (Some front) held place file before took = file_behind result front file place held before took

pub put_behind : (result : Result Totals WriteEnd) (rests : Option Rest) (bytes taken then held : Option (List ℕ)) (place : ℕ)
    (bytes_of : List (List ℕ) → List ℕ)
    → taken ≡ option_map (λ _. []) bytes → bytes_before place held ≡ bytes → then ≡ bytes_from place held
    → IfSome rests (λ rest. TakesFile result taken then (bytes_of rest.records))
    → IfSome rests (λ rest. TakesFile result bytes held (bytes_of rest.records))
put_behind result None bytes taken then held place bytes_of nothing before is took = tt
put_behind result (Some rest) bytes taken then held place bytes_of nothing before is took =
    device_takes result bytes held place (bytes_of rest.records) before
    (subst (λ (o : Option (List ℕ)). TakesFile result o (bytes_from place held) (bytes_of rest.records)) nothing
    (subst (λ (o : Option (List ℕ)). TakesFile result taken o (bytes_of rest.records)) is took))

-- at the front the file of the records is written, and at any other place their tail
pub bytes_at-front : (options : WriteOptions) (place : ℕ) → place ≡ 0 → (P : (List (List ℕ) → List ℕ) → Type 0)
    → P (file_under options) → P (bytes_at options place)
unfolding file_of
bytes_at-front options place front P h = subst (λ (n : ℕ). P (bytes_at options n)) (sym front) h

pub bytes_at-behind : (options : WriteOptions) (place : ℕ) → place ≢ 0 → (P : (List (List ℕ) → List ℕ) → Type 0)
    → P (tail_under options place) → P (bytes_at options place)
bytes_at-behind options zero behind P h = absurd (behind refl)
bytes_at-behind options (suc n) behind P h = h

-- the totals of a whole file are those of its chunks from the front on
totals_from-front : (ks : List ChunkValue) → totals_of ks ≡ totals_from 0 ks
totals_from-front ks =
    let end : end_of_chunks 0 ks ≡ length (laid_each 0 ks) = omega (arith, end-laid_each 0 ks) in
    ap (λ (n : ℕ). record { chunks = length ks; records = (totals_of ks).records; bytes = n; unread = (totals_of ks).unread }) end

pub totals_at-front : (options : WriteOptions) (place : ℕ) → place ≡ 0 → (records : List (List ℕ))
    → totals_of (chunks_under options records) ≡ totals_at options place records
totals_at-front options place front records =
    subst (λ (n : ℕ). totals_of (chunks_under options records) ≡ totals_at options n records) (sym front)
    (totals_from-front (chunks_under options records))

pub answered_at-front : (options : WriteOptions) (place : ℕ) (result : Result Totals WriteEnd) (rests : Option Rest) → place ≡ 0
    → IfSome rests (TellsWritten result options)
    → IfSome rests (λ rest. TellsTotals result (totals_at options place rest.records) rest)
answered_at-front options place result None front answer = tt
answered_at-front options place result (Some rest) front answer =
    subst (λ (t : Totals). TellsTotals result t rest) (totals_at-front options place front rest.records) answer

-- and the device holds what it held, and what was put behind
pub held_more : (bytes held : Option (List ℕ)) (place : ℕ) → bytes_before place held ≡ bytes
    → IfSome bytes (λ front. IsSomeAnd held (λ now. (rest : List ℕ) × (now ≡ front ++ rest)))
held_more None held place before = tt
held_more (Some front) None place before = cc
held_more (Some front) (Some file) place before =
    let first : take place file ≡ front = cc in
    (drop place file, sym (take-append-drop place file) ∙ ap (λ (xs : List ℕ). xs ++ drop place file) first)

-- one name is of one loan and of one size
pub named_loan : (a b m n : ℕ) → m < 2 ^ 64 → n < 2 ^ 64 → name_of_sized a m ≡ name_of_sized b n → a ≡ b
named_loan a b m n below under same = omega (arith, below, under, same)

pub named_size : (a b m n : ℕ) → m < 2 ^ 64 → n < 2 ^ 64 → name_of_sized a m ≡ name_of_sized b n → m ≡ n
named_size a b m n below under same = omega (arith, below, under, same)

-- a size that is told, if one is
pub told_still : (said size : ℕ) (told held : Option ℕ) → said ≡ size → held ≡ told → ForSome told (λ n. n ≡ said) → IfSome held (λ n. n ≡ size)
told_still said size told None same is still = tt
told_still said size told (Some n) same is still = still n (sym is) ∙ same
