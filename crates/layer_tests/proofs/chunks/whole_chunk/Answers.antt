use Rattle.std.proofs.Common.{◌≡◌, ◌∙◌, ℕ, ◌^◌, ◌≤◌, Option, Some, IsSomeAnd, subst, sym, arith}
use Rattle.chunk_header.specs.Views.{value_of_header}
use Rattle.chunk_reader.specs.Places.{end_by}
use Rattle.layer_tests.proofs.chunks.whole_chunk.Goals as goal

told_end : (o : Option ℕ) (size limit end : ℕ) → o ≡ Some size → size ≤ limit → end ≤ size → IsSomeAnd o (λ n. (n ≤ limit) × (end ≤ n))
told_end o size limit end is small within =
    let P : Option ℕ → Type 0 = λ x. IsSomeAnd x (λ n. (n ≤ limit) × (end ≤ n)) in subst P (sym is) (small, within)

pub data_at-requires-clause-told : goal.data_at-requires-clause-told
data_at-requires-clause-told g c =
    let header = c.in-Right-default-Some.header in
    let end = end_by c.args.at (value_of_header header) in
    let is : c.in-Right-default-Some.end ≡ end = c.in_ok-header.ensures.end header (Some c.in-Right-default-Some.end) (cc) in
    told_end _ c.args.size (2 ^ 60) end (c.head_at.ensures.store.asks.same_told ∙ c.requires.told) c.requires.in_reach (omega (arith, is, c.if-end-size.false))
