use Rattle.std.proofs.Common.{◌≡◌, length, drop, ◌∙◌, arith}
use Rattle.std.proofs.lemmas.List.{take_at}
use Rattle.chunk_reader.proofs.Loads.{header_within, data_given, begin_in_reach, room_for_data, ends_within}
use Rattle.chunk_reader.proofs.judging.data_at.Goals as goal

pub behind_header-requires-clause-in_reach : goal.behind_header-requires-clause-in_reach
behind_header-requires-clause-in_reach g c =
    let h = c.args.header.now in
    begin_in_reach _ c.args.at h.data_size h.num_records c.requires.told

pub fill-requires : goal.fill-requires
fill-requires g c =
    let h = c.args.header.now in
    let size : length c.deref_mut.result.now ≡ h.data_size = omega (arith, c.deref_mut.ensures.len, c.in_ok-data.ensures.len) in
    record { told = rw (c.behind_header.ensures, size) (room_for_data _ c.args.at h.data_size h.num_records c.requires.told) }

pub returns-clause-given : goal.returns-clause-given
returns-clause-given g c =
    let h = c.args.header.now in
    let size : length c.deref_mut.result.now ≡ h.data_size = omega (arith, c.deref_mut.ensures.len, c.in_ok-data.ensures.len) in
    let whole : length c.fill.new.buf ≡ c.in_ok-data.data.len = omega (arith, c.fill.auto.buf, c.deref_mut.ensures.len) in
    let held : c.read.result.bytes ≡ c.fill.new.buf =
    c.read.ensures.bytes ∙ c.in_ok-share.ensures ∙ c.from.ensures
    ∙ take_at c.fill.new.buf (drop (length c.fill.new.buf) c.in_ok-data.data.items) c.in_ok-data.data.len whole in
    rw held
    (data_given _ _ c.args.at h.data_size _ c.fill.new.buf (g.met.S.Store.sized c.args.store.now)
    (ends_within _ c.args.at h.data_size h.num_records c.requires.told)
    (header_within c.args.at h.data_size h.num_records)
    (rw (c.behind_header.ensures, size) at c.in_ok-fill.ensures.given))
