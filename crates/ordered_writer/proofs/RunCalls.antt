-- What the steps in which a chunk is laid hand to a buffer and a sink.
use Rattle.std.proofs.Common.{◌≡◌, ◌∙◌, ℕ, ◌+◌, ◌-◌, ◌%◌, ◌<◌, ◌≤◌, min, Option, List, [], ◌++◌, length, take, drop, replicate, sym, ap, subst, arith}
use Rattle.std.proofs.lemmas.List.{take_rest, drop_all, length-drop}
use Rattle.block_layout.specs.Layout.{room, end_of}
use Rattle.block_layout.specs.NextPlaces.{IsNextPlace, IsOnBoundary, usable_from}
use Rattle.block_layout.proofs.Ends.{end_of_mono}
use Rattle.record_io.specs.Outside.{TakesShort}
use Rattle.record_io.specs.Buffers.{TakesAndHolds}
use Rattle.record_io.proofs.Buffered.{TakesAndHolds-none, TakesAndHolds-append, TakesShort-behind, TakesShort-held_longer}
use Rattle.ordered_writer.specs.Layings.{laid_between}
use Rattle.ordered_writer.proofs.Between.{laid_between-none, laid_between-split}
use Rattle.block_layout.proofs.Runs.{room-usable_from, usable_from-before, usable_from-le-end_of, end_of-run, end_of-rest}
use Rattle.ordered_writer.proofs.Runs.{laid_between-zeros, laid_between-no_room, laid_between-header_and_run}

-- not all of what is held and the bytes up to a place is not all of what is held and the bytes up to a later place
pub TakesShort-laid_longer : (a b : Option (List ℕ)) (held : List ℕ) (begin end place until later : ℕ) (own : List ℕ)
    → place ≤ until → until ≤ later
    → TakesShort a b (held ++ laid_between begin end place until own)
    → TakesShort a b (held ++ laid_between begin end place later own)
TakesShort-laid_longer a b held begin end place until later own low high front =
    let behind : List ℕ = laid_between begin end until later (drop (room place until) own) in
    subst (λ (xs : List ℕ). TakesShort a b (held ++ xs))
    (sym (laid_between-split begin end place until later own low high))
    (TakesShort-held_longer a b held (laid_between begin end place until own) behind front)

-- how far a run of bytes goes at most
abbrev pub run_end : (place end : ℕ) → List ℕ → ℕ
run_end place end bytes = min (end_of place (length bytes)) end

-- where the block header failed
pub TakesShort-header : (a b : Option (List ℕ)) (held : List ℕ) (begin end place : ℕ) (bytes : List ℕ)
    → IsNextPlace place → IsOnBoundary end → place < end → 0 < length bytes
    → TakesShort a b (held ++ laid_between begin end place (usable_from place) [])
    → TakesShort a b (held ++ laid_between begin end place (run_end place end bytes) bytes)
TakesShort-header a b held begin end place bytes next boundary before some front =
    TakesShort-laid_longer a b held begin end place (usable_from place) (run_end place end bytes) bytes
    (omega arith)
    (omega (arith, usable_from-before place end before next boundary, usable_from-le-end_of place (length bytes) (omega arith)))
    (subst (λ (xs : List ℕ). TakesShort a b (held ++ xs))
    (laid_between-no_room begin end place (usable_from place) [] bytes (room-usable_from place))
    front)

-- where the run behind it failed
pub TakesShort-run : (a b c : Option (List ℕ)) (held between : List ℕ) (begin end place n : ℕ) (bytes : List ℕ)
    → IsNextPlace place → 0 < n → n ≤ length bytes → usable_from place % 65536 + n ≤ 65536 → usable_from place + n ≤ end
    → TakesAndHolds a b (held ++ laid_between begin end place (usable_from place) []) between
    → TakesShort b c (between ++ take n bytes)
    → TakesShort a c (held ++ laid_between begin end place (run_end place end bytes) bytes)
TakesShort-run a b c held between begin end place n bytes next some enough fits within header front =
    TakesShort-laid_longer a c held begin end place (usable_from place + n) (run_end place end bytes) bytes
    (omega arith)
    (omega (arith, end_of-run place n (omega arith) next fits, end_of_mono place n (length bytes) enough))
    (subst (λ (xs : List ℕ). TakesShort a c (held ++ xs))
    (sym (laid_between-header_and_run begin end place n bytes next fits enough))
    (TakesShort-behind a b c held between (laid_between begin end place (usable_from place) []) (take n bytes) header front))

-- where both went well
pub TakesAndHolds-run : (a b c : Option (List ℕ)) (held between after : List ℕ) (begin end place n : ℕ) (bytes : List ℕ)
    → IsNextPlace place → n ≤ length bytes → usable_from place % 65536 + n ≤ 65536
    → TakesAndHolds a b (held ++ laid_between begin end place (usable_from place) []) between
    → TakesAndHolds b c (between ++ take n bytes) after
    → TakesAndHolds a c (held ++ laid_between begin end place (usable_from place + n) bytes) after
TakesAndHolds-run a b c held between after begin end place n bytes next enough fits header run =
    subst (λ (xs : List ℕ). TakesAndHolds a c (held ++ xs) after)
    (sym (laid_between-header_and_run begin end place n bytes next fits enough))
    (TakesAndHolds-append a b c held between after (laid_between begin end place (usable_from place) []) (take n bytes) header run)

-- bytes up to a place went well, and the bytes from there on too
pub TakesAndHolds-more : (a b c : Option (List ℕ)) (held between after : List ℕ) (begin end place middle until : ℕ) (own next : List ℕ)
    → place ≤ middle → middle ≤ until
    → laid_between begin end middle until next ≡ laid_between begin end middle until (drop (room place middle) own)
    → TakesAndHolds a b (held ++ laid_between begin end place middle own) between
    → TakesAndHolds b c (between ++ laid_between begin end middle until next) after
    → TakesAndHolds a c (held ++ laid_between begin end place until own) after
TakesAndHolds-more a b c held between after begin end place middle until own next low high same first then =
    subst (λ (xs : List ℕ). TakesAndHolds a c (held ++ xs) after)
    (ap (λ (xs : List ℕ). laid_between begin end place middle own ++ xs) same ∙ sym (laid_between-split begin end place middle until own low high))
    (TakesAndHolds-append a b c held between after (laid_between begin end place middle own) (laid_between begin end middle until next) first then)

-- and where the bytes from there on failed
pub TakesShort-more : (a b c : Option (List ℕ)) (held between : List ℕ) (begin end place middle until : ℕ) (own next : List ℕ)
    → place ≤ middle → middle ≤ until
    → laid_between begin end middle until next ≡ laid_between begin end middle until (drop (room place middle) own)
    → TakesAndHolds a b (held ++ laid_between begin end place middle own) between
    → TakesShort b c (between ++ laid_between begin end middle until next)
    → TakesShort a c (held ++ laid_between begin end place until own)
TakesShort-more a b c held between begin end place middle until own next low high same first then =
    subst (λ (xs : List ℕ). TakesShort a c (held ++ xs))
    (ap (λ (xs : List ℕ). laid_between begin end place middle own ++ xs) same ∙ sym (laid_between-split begin end place middle until own low high))
    (TakesShort-behind a b c held between (laid_between begin end place middle own) (laid_between begin end middle until next) first then)

-- nothing is laid yet
pub TakesAndHolds-nothing_laid : (a : Option (List ℕ)) (held : List ℕ) (begin end place : ℕ) (own : List ℕ)
    → TakesAndHolds a a (held ++ laid_between begin end place place own) held
TakesAndHolds-nothing_laid a held begin end place own =
    subst (λ (xs : List ℕ). TakesAndHolds a a (held ++ xs) held)
    (sym (laid_between-none begin end place place own (omega arith)))
    (TakesAndHolds-none a held)

-- the rest of some bytes goes up to where all of them end
pub run_end-rest : (place end at : ℕ) (bytes : List ℕ) → at ≤ length bytes → end_of place (length bytes) ≤ end
    → run_end (end_of place at) end (take (length bytes - at) (drop at bytes)) ≡ end_of place (length bytes)
run_end-rest place end at bytes within room =
    let size : length (take (length bytes - at) (drop at bytes)) ≡ length bytes - at = ap length (take_rest bytes at) ∙ length-drop at bytes in
    omega (arith, ap (end_of (end_of place at)) size ∙ end_of-rest place at (length bytes) within)

-- zero bytes go on where no usable bytes are left
zeros-rest : (begin end place middle until n : ℕ)
    → laid_between begin end middle until (replicate n 0) ≡ laid_between begin end middle until (drop (room place middle) [])
zeros-rest begin end place middle until n =
    laid_between-zeros begin end middle until n
    ∙ ap (laid_between begin end middle until) (sym (drop_all (room place middle) [] (omega arith)))

pub TakesAndHolds-more_zeros : (a b c : Option (List ℕ)) (held between after : List ℕ) (begin end place middle until n : ℕ)
    → place ≤ middle → middle ≤ until
    → TakesAndHolds a b (held ++ laid_between begin end place middle []) between
    → TakesAndHolds b c (between ++ laid_between begin end middle until (replicate n 0)) after
    → TakesAndHolds a c (held ++ laid_between begin end place until []) after
TakesAndHolds-more_zeros a b c held between after begin end place middle until n low high first then =
    TakesAndHolds-more a b c held between after begin end place middle until [] (replicate n 0) low high
    (zeros-rest begin end place middle until n) first then

pub TakesShort-more_zeros : (a b c : Option (List ℕ)) (held between : List ℕ) (begin end place middle until n : ℕ)
    → place ≤ middle → middle ≤ until → until ≤ end
    → TakesAndHolds a b (held ++ laid_between begin end place middle []) between
    → TakesShort b c (between ++ laid_between begin end middle until (replicate n 0))
    → TakesShort a c (held ++ laid_between begin end place end [])
TakesShort-more_zeros a b c held between begin end place middle until n low high within first then =
    TakesShort-laid_longer a c held begin end place until end [] (omega arith) within
    (TakesShort-more a b c held between begin end place middle until [] (replicate n 0) low high
    (zeros-rest begin end place middle until n) first then)
