use Rattle.std.proofs.Common.{◌∙◌, List, subst}
use Rattle.std.proofs.lemmas.Result.{on_ok_weaker}
use Rattle.chunk_header.specs.SimpleChunks.{simple_chunk}
use Rattle.chunk_workers.specs.Coded.{CodedValue, IsCodedAfter, coded_of}
use Rattle.chunk_workers.proofs.CodedLists.{coded_after, simple_joined}
use Rattle.chunk_workers.proofs.coded_chunks.CodedChunks.push_simple.Goals as goal

pub returns : goal.returns
returns c =
    let heads = c.self.inside.heads.items in
    let fronts = c.self.inside.fronts in
    let more_heads = c.append_chunk.new.heads.items in
    let more_fronts = c.append_chunk.new.fronts in
    let head = c.head_of-head.result in
    let group = c.args.group.now in
    let front = c.deref-2.result.now in
    on_ok_weaker c.append_chunk.result
    (λ both.
    subst (λ (old : List CodedValue). IsCodedAfter simple_chunk group old (coded_of more_heads more_fronts)) c.self.view_is
    (coded_after simple_chunk group heads more_heads fronts more_fronts head front c.self.invariant both.0 both.1
    (c.head_of-head.ensures.header (simple_chunk group) c.simple_header-header.ensures)
    (c.head_of-head.ensures.records ∙ c.simple_header-header.ensures.num_records)
    (simple_joined group front c.append_few.new.front.items c.make_front.new.front.items c.values.result.now head.takes_values c.in_ok-takes_values.takes_values
    c.deref-2.ensures.value c.head_of-head.ensures.takes c.in_ok-takes_values.ensures c.in_ok-make_front.ensures c.values.ensures.value)))
    c.append_chunk.ensures.appends
