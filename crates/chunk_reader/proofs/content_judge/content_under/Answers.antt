use Rattle.std.proofs.Common.{◌≡◌, inl, inr, sym, rules}
use Rattle.chunk_header.specs.Kinds.{simple_kind}
use Rattle.chunk_header.specs.SimpleChunks.{IsSimpleChunk, IsCompressed}
use Rattle.chunk_header.specs.Views.{HasRightHash, value_of_chunk}
use Rattle.chunk_reader.proofs.BadContents.{bad_simple}
use Rattle.chunk_reader.specs.declared.reasons.Why.TheVariants as why
use Rattle.chunk_reader.proofs.content_judge.content_under.Goals as goal

pub returns-in-Err-Contents-clause-judged : goal.returns-in-Err-Contents-clause-judged
returns-in-Err-Contents-clause-judged c = record {
  sound = search rules;
  refused =
      λ reason same.
      let k = value_of_chunk c.args.chunk.now in
      let right : HasRightHash c.args.chunk.now = search rules in
      let kind : k.kind ≡ simple_kind = search rules in
      let none : (¬ IsCompressed k) × (¬ IsSimpleChunk k) = c.in-Err-Contents.ensures.judged.contents (search rules) in
      let is : reason ≡ why.Contents = cc in
      inr (λ wrong. wrong (sym right), inl (bad_simple k kind none.0 none.1, is));
}
