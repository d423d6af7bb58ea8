use Rattle.std.proofs.Common.{◌≡◌, ◌+◌, ◌≤◌, ℕ, ◌^◌, length, inl, inr, arith}
use Rattle.meta_chunk.specs.PaddingSizes.{padding_at}
use Rattle.record_join.proofs.Behind.{bounds_behind, counted_behind, on_boundary, padding_count}
use Rattle.record_join.proofs.joins.totals_joined.Goals as goal

pub returns-clause-value : goal.returns-clause-value
returns-clause-value c =
    let place : ℕ = c.args.before.now.bytes in
    let h = c.from.ensures in
    let count : c.from.result ≡ length (padding_at place) = elim (padding_count place (on_boundary place c.requires.before.boundary)) [
      | inl none ↦ grind arith
      | inr some ↦ grind arith
    ] in
    counted_behind c.args.before.now c.args.file.now c.padded-begin.result c.from.result c.padded-begin.ensures.end count

pub returns-clause-bounds : goal.returns-clause-bounds
returns-clause-bounds c =
    let place : ℕ = c.args.before.now.bytes in
    let past : place + c.from.result ≤ c.padded-begin.result = elim (padding_count place (on_boundary place c.requires.before.boundary)) [
      | inl none ↦ grind arith
      | inr some ↦ grind arith
    ] in
    bounds_behind c.args.before.now c.args.file.now (2 ^ 60) c.padded-begin.result c.from.result c.requires.before c.requires.file c.padded-begin.ensures.block past
