-- Reads of usable bytes that lie in a file of which a size was told.
use Rattle.std.proofs.Common.{◌≡◌, ◌∙◌, ℕ, ◌+◌, ◌-◌, ◌%◌, ◌^◌, ◌≤◌, Option, Some, None, IfSome, IsSomeAnd, List, [], ◌++◌, length, take, refl, sym, ap, subst, arith}
use Rattle.std.specs.Prelude.{slice_range}
use Rattle.std.proofs.lemmas.List.{take_at}
use borrow.Rule.Slice.PartMut.{put_mid}
use Rattle.record_io.proofs.Readings.{take-put_behind}
use Rattle.chunk_reader.specs.PlaceChecks.{HasUsableBytes}
use Rattle.block_layout.specs.Layout.{end_of, usable_bytes_at}
use Rattle.block_layout.specs.NextPlaces.{IsNextPlace, usable_from}
use Rattle.block_layout.proofs.Ends.{end_of_after, end_of-more}
use Rattle.block_layout.proofs.Runs.{end_of-run, end_of-rest}
use Rattle.block_layout.proofs.UsableBytes.{usable_bytes_at-run, usable_bytes_at-more}

-- they end within the limit
pub HasUsableBytes-small : (told : Option ℕ) (place count : ℕ) → HasUsableBytes told place count → end_of place count ≤ 2 ^ 60
HasUsableBytes-small None place count h = elim h [ ]
HasUsableBytes-small (Some size) place count h = h.0

-- fewer bytes end no later
pub end_of-le : (place m n : ℕ) → m ≤ n → end_of place m ≤ end_of place n
end_of-le place m n h =
    let all : m + (n - m) ≡ n = omega arith in
    let whole : end_of (end_of place m) (n - m) ≡ end_of place n = end_of-more place m (n - m) ∙ ap (end_of place) all in
    omega (arith, whole, end_of_after (end_of place m) (n - m))

-- so a run of some of them lies in the file
pub HasUsableBytes-run : (told : Option ℕ) (place count n : ℕ) → HasUsableBytes told place count → n ≤ count → 1 ≤ n → IsNextPlace place
    → usable_from place % 65536 + n ≤ 65536 → IsSomeAnd told (λ size. usable_from place + n ≤ size)
HasUsableBytes-run None place count n h less some next fits = elim h [ ]
HasUsableBytes-run (Some size) place count n h less some next fits =
    omega (arith, h.1, end_of-le place n count less, end_of-run place n some next fits)

-- where bytes are shown they are as many as was told
abbrev pub IsSized : Option (List ℕ) → Option ℕ → Type 0
IsSized bytes told = IfSome bytes (λ file. IfSome told (λ size. size ≡ length file))

-- what came of such a run into the front of a buffer are usable bytes
pub own_run : (bytes : Option (List ℕ)) (told : Option ℕ) (place count n : ℕ) (run behind : List ℕ) → IsSized bytes told
    → HasUsableBytes told place count → n ≤ count → 1 ≤ n → IsNextPlace place → usable_from place % 65536 + n ≤ 65536 → length run ≡ n
    → IfSome bytes (λ file. run ≡ slice_range file (usable_from place) (usable_from place + n))
    → IfSome bytes (λ file. take n (run ++ behind) ≡ usable_bytes_at file place n)
own_run None told place count n run behind sized room less some next fits size given = tt
own_run (Some file) None place count n run behind sized room less some next fits size given = elim room [ ]
own_run (Some file) (Some told) place count n run behind sized room less some next fits size given =
    take_at run behind n size ∙ given
    ∙ sym (usable_bytes_at-run file place n some next fits (omega (arith, HasUsableBytes-run (Some told) place count n room less some next fits)))

-- behind some of the bytes the rest have room
pub HasUsableBytes-rest : (told : Option ℕ) (place count i : ℕ) → HasUsableBytes told place count → i ≤ count → HasUsableBytes told (end_of place i) (count - i)
HasUsableBytes-rest None place count i h within = elim h [ ]
HasUsableBytes-rest (Some size) place count i h within =
    (omega (arith, h.0, end_of-rest place i count within), omega (arith, h.1, end_of-rest place i count within))

-- a buffer that holds usable bytes holds them with the next ones
pub own_filled : (bytes now : Option (List ℕ)) (told : Option ℕ) (place i n : ℕ) (xs ys : List ℕ) → now ≡ bytes → IsSized bytes told
    → HasUsableBytes told place (length xs) → i + length ys ≡ length xs → n ≤ length ys
    → IfSome bytes (λ file. take i xs ≡ usable_bytes_at file place i)
    → IfSome now (λ file. take n ys ≡ usable_bytes_at file (end_of place i) n)
    → IfSome bytes (λ file. take (i + n) (put_mid i (length xs - i) xs ys) ≡ usable_bytes_at file place (i + n))
own_filled None now told place i n xs ys same sized room whole fits front next = tt
own_filled (Some file) now None place i n xs ys same sized room whole fits front next = elim room [ ]
own_filled (Some file) now (Some told) place i n xs ys same sized room whole fits front next =
    let P : Option (List ℕ) → Type 0 = λ o. IfSome o (λ bytes. take n ys ≡ usable_bytes_at bytes (end_of place i) n) in
    take-put_behind xs ys i (length xs - i) n (omega arith) fits
    ∙ ap (λ zs. zs ++ take n ys) front
    ∙ ap (λ zs. usable_bytes_at file place i ++ zs) (subst P same next)
    ∙ sym (usable_bytes_at-more file place i n (omega (arith, room.1, end_of-le place i (length xs) (omega arith))))

-- at first it holds none
pub own_filled-none : (bytes : Option (List ℕ)) → IfSome bytes (λ file. let none : List ℕ = [] in none ≡ [])
own_filled-none None = tt
own_filled-none (Some file) = refl

-- what holds of no bytes holds of the first none at a place
pub own_none : (bytes : Option (List ℕ)) (P : List ℕ → Type 0) (place n : ℕ) → n ≡ 0 → P []
    → IfSome bytes (λ file. P (usable_bytes_at file place n))
own_none None P place n none holds = tt
own_none (Some file) P place n none holds = subst (λ (m : ℕ). P (usable_bytes_at file place m)) (sym none) holds

-- what holds of usable bytes from a place gives, with a piece of those behind them, what holds of more of these
pub own_more : (bytes now : Option (List ℕ)) (told : Option ℕ) (P Q : List ℕ → Type 0) (place i n whole end : ℕ) (piece : List ℕ)
    → now ≡ bytes → IsSized bytes told → IsSomeAnd told (λ size. end ≤ size) → end_of place i ≤ end → whole ≡ i + n
    → ((taken : List ℕ) → P taken → Q (taken ++ piece))
    → IfSome bytes (λ file. P (usable_bytes_at file place i))
    → IfSome now (λ file. piece ≡ usable_bytes_at file (end_of place i) n)
    → IfSome bytes (λ file. Q (usable_bytes_at file place whole))
own_more None now told P Q place i n whole end piece same sized within fits sum on taken given = tt
own_more (Some file) None told P Q place i n whole end piece same sized within fits sum on taken given = cc
own_more (Some file) (Some other) None P Q place i n whole end piece same sized within fits sum on taken given = elim within [ ]
own_more (Some file) (Some other) (Some size) P Q place i n whole end piece same sized within fits sum on taken given =
    let is : other ≡ file = cc in
    let here : piece ≡ usable_bytes_at file (end_of place i) n =
    given ∙ ap (λ (bytes : List ℕ). usable_bytes_at bytes (end_of place i) n) is in
    let joined : usable_bytes_at file place i ++ piece ≡ usable_bytes_at file place whole =
    ap (λ (xs : List ℕ). usable_bytes_at file place i ++ xs) here
    ∙ sym (usable_bytes_at-more file place i n (omega (arith, fits, within, sized)))
    ∙ ap (usable_bytes_at file place) (sym sum) in
    subst Q joined (on (usable_bytes_at file place i) taken)
