-- Lemmas on bytes that are read at a place of a file.
use Rattle.std.proofs.Common.{◌≡◌, ℕ, ◌+◌, ◌-◌, ◌^◌, ◌<◌, ◌≤◌, ◌⊎◌, inl, inr, min, Option, Some, None, IsSomeAnd, IfSome, List, ◌++◌, length, take, drop, slice_range, sym, ap, ◌∙◌, arith}
use Rattle.std.proofs.lemmas.Bool.{cases_lt}
use Rattle.std.proofs.lemmas.List.{drop-drop, length-take-le, take-append-le}
use Rattle.std.proofs.Math.Seq.{take-append-add}
use Rattle.record_io.proofs.Pieces.{take-add}
use borrow.Rule.Slice.PartMut.{put_mid, post_of}

-- so many bytes that begin at a place
pub slice_range-by_length : (file : List ℕ) (at n : ℕ) → slice_range file at (at + n) ≡ take n (drop at file)
slice_range-by_length file at n = let size : at + n - at ≡ n = omega arith in ap (λ k. take k (drop at file)) size

-- bytes at a place, and those behind them, are one longer run
pub slice_range-append : (file : List ℕ) (at got n : ℕ)
    → slice_range file at (at + got) ++ slice_range file (at + got) (at + got + n) ≡ slice_range file at (at + (got + n))
slice_range-append file at got n =
    let rest : drop got (drop at file) ≡ drop (at + got) file = drop-drop got at file in
    rw (slice_range-by_length file at got, slice_range-by_length file (at + got) n, slice_range-by_length file at (got + n), ← rest)
    (take-add (drop at file) got n)

-- what is written behind a front of a buffer makes a longer front
pub take-put_behind : (buf new : List ℕ) (got k n : ℕ) → got ≤ length buf → n ≤ length new
    → take (got + n) (put_mid got k buf new) ≡ take got buf ++ take n new
take-put_behind buf new got k n within fits =
    let size : length (take got buf) ≡ got = length-take-le got buf within in
    ap (λ m. take (m + n) (put_mid got k buf new)) (sym size)
    ∙ take-append-add (take got buf) (new ++ post_of got k buf) n
    ∙ ap (λ xs. take got buf ++ xs) (take-append-le n new (post_of got k buf) fits)

-- bytes read at a place into the front of a buffer, and then those behind them
pub read-behind : (bytes : Option (List ℕ)) (buf new : List ℕ) (at got k n : ℕ) → got ≤ length buf → n ≤ length new
    → IfSome bytes (λ file. take got buf ≡ slice_range file at (at + got))
    → IfSome bytes (λ file. take n new ≡ slice_range file (at + got) (at + got + n))
    → IfSome bytes (λ file. take (got + n) (put_mid got k buf new) ≡ slice_range file at (at + (got + n)))
read-behind None buf new at got k n within fits front behind = tt
read-behind (Some file) buf new at got k n within fits front behind =
    take-put_behind buf new got k n within fits
    ∙ (λ i. front i ++ behind i)
    ∙ slice_range-append file at got n

-- where a size is told and bytes lie within it, they end below 2^64
pub end-fits : (told : Option ℕ) (P : ℕ → Type 0) (at got n : ℕ) → IsSomeAnd told P → IfSome told (λ size. at + got + n ≤ size)
    → IfSome told (λ size. size < 2 ^ 64) → at + (got + n) < 2 ^ 64
end-fits None P at got n is within small = absurd is
end-fits (Some size) P at got n is within small = omega arith

-- a count that stands at its greatest stays there, and any other rises by what is added or comes to stand there
pub raised-or_greatest : (old got n now new most : ℕ)
    → (now ≡ old + got) ⊎ (now ≡ most) → new ≡ min (now + n) most
    → (new ≡ old + (got + n)) ⊎ (new ≡ most)
raised-or_greatest old got n now new most (inr greatest) raised = inr (omega (arith, raised))
raised-or_greatest old got n now new most (inl counted) raised =
    elim (cases_lt most (now + n)) [
      | inl past ↦ inr (omega (arith, raised))
      | inr within ↦ inl (omega (arith, raised))
    ]
