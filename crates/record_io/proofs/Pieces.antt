-- Lemmas on bytes that move in pieces.
use Rattle.std.proofs.Common.{◌≡◌, ℕ, ◌+◌, ◌-◌, Option, Some, None, List, ◌++◌, length, take, drop, subst, arith, append_assoc}
use Rattle.std.proofs.lemmas.List.{take-append-drop, take-take, drop-take, take_rest}
use Rattle.record_io.specs.Outside.{Takes}

-- a front, and the front of what comes after it, are one longer front
pub take-add : (bytes : List ℕ) (at n : ℕ) → take at bytes ++ take n (drop at bytes) ≡ take (at + n) bytes
take-add bytes at n =
    let front : take at (take (at + n) bytes) ≡ take at bytes = take-take at (at + n) bytes (omega arith) in
    let rest : drop at (take (at + n) bytes) ≡ take n (drop at bytes) = drop-take at n bytes in
    let whole : take at (take (at + n) bytes) ++ drop at (take (at + n) bytes) ≡ take (at + n) bytes =
    take-append-drop at (take (at + n) bytes)
    in cc

-- a sink that took a front of a piece, and then the front of its rest, took one longer front
pub Takes-more : (before between after : Option (List ℕ)) (piece : List ℕ) (at n : ℕ)
    → Takes before between (take at piece) → Takes between after (take n (take (length piece - at) (drop at piece)))
    → Takes before after (take (at + n) piece)
Takes-more None between after piece at n first second = first
Takes-more (Some taken) between after piece at n first second =
    let seen : Takes (Some (taken ++ take at piece)) after (take n (take (length piece - at) (drop at piece))) =
    (let P : Option (List ℕ) → Type 0 = λ b. Takes b after (take n (take (length piece - at) (drop at piece))) in subst P first second) in
    let rest : take (length piece - at) (drop at piece) ≡ drop at piece = take_rest piece at in
    let joined : take at piece ++ take n (drop at piece) ≡ take (at + n) piece = take-add piece at n in
    let grouped : (taken ++ take at piece) ++ take n (drop at piece) ≡ taken ++ (take at piece ++ take n (drop at piece)) = append_assoc taken (take at piece) (take n (drop at piece)) in
    cc
