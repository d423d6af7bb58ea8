use Rattle.std.proofs.Common.{◌≡◌, ℕ, ◌+◌, ◌-◌, ◌≤◌, List, length, take, sym, subst, rules}
use Rattle.std.specs.Result.{IfOk}
use Rattle.std.proofs.lemmas.Result.{IfOk-weaker}
use Rattle.meta_chunk.specs.Files.{laid_each}
use Rattle.riegeli_c.specs.Writes.{chunks_told, records_cut}
use Rattle.riegeli_c.proofs.WriteSteps.{in-room}
use Rattle.riegeli_c.proofs.writing.write_into.Goals as goal

pub returns-clause-laid : goal.returns-clause-laid
returns-clause-laid c =
    let rs = records_cut c.args.values.now c.args.ends.now in
    let made = c.write-ended.new.made in
    let laid = in-room c.write-ended.result c.args.at rs c.args.options.now c.args.last _ _ c.used-used.result made.room.now c.new-made.ensures.taken c.used-used.ensures.taken
    c.write-ended.ensures.laid c.write-ended.ensures.told in
    let is : c.room-1.given.0 ≡ made.room.now = search rules in
    subst (λ (room : List ℕ). IfOk c.write-ended.result (λ told. take (told.end - c.args.at) room ≡ laid_each c.args.at (chunks_told c.args.at rs c.args.options.now c.args.last)))
    (sym is)
    (IfOk-weaker c.write-ended.result _ _ (λ told h. h.0) laid)

pub returns-clause-fits : goal.returns-clause-fits
returns-clause-fits c =
    let rs = records_cut c.args.values.now c.args.ends.now in
    let made = c.write-ended.new.made in
    let laid = in-room c.write-ended.result c.args.at rs c.args.options.now c.args.last _ _ c.used-used.result made.room.now c.new-made.ensures.taken c.used-used.ensures.taken
    c.write-ended.ensures.laid c.write-ended.ensures.told in
    let size : length made.room.now ≡ length c.args.room.now = search rules in
    subst (λ (size : ℕ). IfOk c.write-ended.result (λ told. told.end ≤ c.args.at + size)) size
    (IfOk-weaker c.write-ended.result _ _ (λ told h. h.1) laid)
