use Rattle.std.proofs.Common.{◌≡◌, ◌∙◌, ℕ, ◌+◌, ◌-◌, ◌≤◌, ◌++◌, take, replicate, ap, arith}
use Rattle.std.proofs.lemmas.List.{take-replicate, replicate-append-replicate}
use Rattle.highway_hash.specs.Riegeli.{riegeli_key}
use Rattle.highway_hash.specs.Hashers.{hasher_of}
use Rattle.ordered_writer.proofs.writer.hash_of_zeros.Goals as goal

-- zero bytes and some more of them
zeros_more : (count left n most : ℕ) → left ≤ count → n ≤ left → n ≤ most
    → replicate {A = ℕ} (count - left) 0 ++ take n (replicate most 0) ≡ replicate (count - (left - n)) 0
zeros_more count left n most within some enough =
    let front : take n (replicate {A = ℕ} most 0) ≡ replicate n 0 = take-replicate n most 0 enough in
    let all : count - left + n ≡ count - (left - n) = omega arith in
    rw (front, replicate-append-replicate {A = ℕ} (count - left) n 0) (ap (λ (m : ℕ). replicate m 0) all)

pub loop-left-preserved : goal.loop-left-preserved
loop-left-preserved c =
    let i = c.loop-left.invariant in
    record {
      within = omega arith;
      taken =
          c.update.ensures riegeli_key (replicate (c.args.count - c.loop-left.left) 0) i.taken
          ∙ ap (hasher_of riegeli_key) (zeros_more c.args.count c.loop-left.left c.min-piece.result 4096 i.within (omega arith) (omega arith));
    }
