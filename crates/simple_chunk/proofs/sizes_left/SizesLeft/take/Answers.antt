use Rattle.std.proofs.Common.{◌+◌, ◌++◌, drop, get_or, refl, arith}
use Rattle.std.proofs.lemmas.List.{drop_more}
use Rattle.simple_chunk.proofs.SizeLemmas.{AreSizes-long, AreSizes-on, AreSizes-other, AreSizes-whole}
use Rattle.simple_chunk.proofs.sizes_left.SizesLeft.take.Goals as goal
use Rattle.simple_chunk.proofs.sizes_left.SizesLeft.take.Goals.{then-self-eq0-via-then-self-eq0, then-self-eq0-via-else-self-eq0+then-size-self}

pub returns-in-Long-clause-wrong : goal.returns-in-Long-clause-wrong
returns-in-Long-clause-wrong c = λ _ rest h.
    let next = drop_more _ c.loop-byte.byte-index 0 c.loop-byte-test.true in
    AreSizes-long _ _ _ _ _ (c.in-Long.ensures.long.0 refl) (rw next at ((c.loop-byte.invariant rest).0 h))

pub returns-then-self-eq0-clause-wrong : goal.returns-then-self-eq0-clause-wrong
returns-then-self-eq0-clause-wrong c = λ _ rest h.
    let next = drop_more _ c.loop-byte.byte-index 0 c.loop-byte-test.true in
    AreSizes-other _ _ _ _ _ _ ((c.in-Value.ensures.value c.in-Value.size).0 refl)
    (λ both. elim c.then-self-eq0.branch [
      | then-self-eq0-via-then-self-eq0 w ↦ omega (arith, both.0)
      | then-self-eq0-via-else-self-eq0+then-size-self w ↦ omega (arith, both.1)
    ])
    (rw next at ((c.loop-byte.invariant rest).0 h))

pub loop-byte-preserved-in-More : goal.loop-byte-preserved-in-More
loop-byte-preserved-in-More c = λ rest.
    let next = drop_more _ c.loop-byte.byte-index 0 c.loop-byte-test.true in
    let before = rw next at (c.loop-byte.invariant rest) in
    let step = AreSizes-on c.loop-byte.self-inside.count c.loop-byte.self-inside.whole (get_or c.split_at.result.1.now c.loop-byte.byte-index 0)
    c.loop-byte.self-inside.feed c.push.new.self (drop (c.loop-byte.byte-index + 1) c.split_at.result.1.now ++ rest) (c.in-More.ensures.kept refl) in
    (λ h. step.0 (before.0 h), λ h. before.1 (step.1 h))

pub loop-byte-preserved : goal.loop-byte-preserved
loop-byte-preserved c = λ rest.
    let next = drop_more _ c.loop-byte.byte-index 0 c.loop-byte-test.true in
    let before = rw next at (c.loop-byte.invariant rest) in
    let step = AreSizes-whole c.loop-byte.self-inside.count c.loop-byte.self-inside.whole (get_or c.split_at.result.1.now c.loop-byte.byte-index 0) c.in-Value.size
    c.loop-byte.self-inside.feed c.push.new.self (drop (c.loop-byte.byte-index + 1) c.split_at.result.1.now ++ rest)
    ((c.in-Value.ensures.value c.in-Value.size).0 refl) (c.in-Value.ensures.as_new (λ e. cc)) (omega arith) (omega arith) in
    (λ h. step.0 (before.0 h), λ h. before.1 (step.1 h))
