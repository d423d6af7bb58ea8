use Rattle.std.proofs.Common.{refl, arith}
use Rattle.simple_chunk.proofs.PartLemmas.{Parts-split, Parts-long}
use Rattle.simple_chunk.proofs.decoding.split_data.Goals as goal

pub returns-in_err-sizes_len-clause-none : goal.returns-in_err-sizes_len-clause-none
returns-in_err-sizes_len-clause-none c = λ _ sizes values p.
    c.in_err-sizes_len.ensures.none refl _ _
    (Parts-split c.in_ok-compression.compression.now c.in_ok-compression.rest.now c.args.bytes.now sizes values
    c.in_ok-compression.ensures.cases.0 p)

pub returns-then-sizes_len-rest-clause-none : goal.returns-then-sizes_len-rest-clause-none
returns-then-sizes_len-rest-clause-none c = λ _ sizes values p.
    let long = Parts-long c.in_ok-compression.compression.now c.in_ok-sizes_len.sizes_len c.in_ok-sizes_len.rest.now
    c.in_ok-compression.rest.now c.args.bytes.now sizes values c.in_ok-compression.ensures.cases.0
    c.in_ok-sizes_len.ensures.found p in
    omega arith
