use Rattle.std.proofs.Common.{◌∙◌, List, ap, subst}
use Rattle.std.proofs.lemmas.Result.{on_ok_weaker}
use Rattle.chunk_header.specs.Chunks.{ChunkValue}
use Rattle.chunk_header.specs.Views.{IsHeaderOf}
use Rattle.chunk_header.proofs.ChunkBytes.{IsHeaderOf-right}
use Rattle.std.specs.List.{concat}
use Rattle.chunk_workers.specs.Coded.{CodedValue, IsCodedAfter, coded_of}
use Rattle.chunk_workers.proofs.CodedLists.{coded_after, whole_joined}
use Rattle.chunk_workers.proofs.coded_chunks.CodedChunks.push.Goals as goal

pub returns : goal.returns
returns c =
    let heads = c.self.inside.heads.items in
    let fronts = c.self.inside.fronts in
    let more_heads = c.append_chunk.new.heads.items in
    let more_fronts = c.append_chunk.new.fronts in
    let head = c.head_of-head.result in
    let chunk = c.args.chunk.now in
    let front = c.as_slice.result.now in
    on_ok_weaker c.append_chunk.result
    (λ both chunk_of group is.
    subst (λ (old : List CodedValue). IsCodedAfter chunk_of group old (coded_of more_heads more_fronts)) c.self.view_is
    (coded_after chunk_of group heads more_heads fronts more_fronts head front c.self.invariant both.0 both.1
    (c.head_of-head.ensures.header (chunk_of group) (subst (λ (k : ChunkValue). IsHeaderOf chunk.header k) is (IsHeaderOf-right chunk c.requires)))
    (c.head_of-head.ensures.records ∙ ap (λ (k : ChunkValue). k.num_records) is)
    (whole_joined front chunk.bytes (concat group) head.takes_values c.as_slice.ensures.value c.head_of-head.ensures.takes ∙ ap (λ (k : ChunkValue). k.«data») is)))
    c.append_chunk.ensures.appends
