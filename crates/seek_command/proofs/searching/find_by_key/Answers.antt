use Rattle.std.proofs.Common.{◌≡◌, ℕ, List, IfOk, IfSome, ap, subst}
use Rattle.chunk_reader.proofs.Rooms.{IsSized}
use Rattle.record_seek.specs.Steps.{placed_of}
use Rattle.record_seek.proofs.FoundByKey.{met-not_whole}
use Rattle.seek_command.specs.Searches.{MayFind}
use Rattle.seek_command.proofs.ByteOrder.{finds, refuses}
use Rattle.seek_command.proofs.searching.find_by_key.Goals as goal

pub returns-clause-found : goal.returns-clause-found
returns-clause-found g c =
    let did = c.find.ensures in
    let same : c.new-test.result.test.0.now.now ≡ c.args.key.now = ap (λ f. f.0.now.now) c.new-test.ensures in
    subst (λ (key : List ℕ). IfOk c.find.result (λ found. IfSome (g.S.Store.bytes c.args.file.now) (λ bytes. MayFind key bytes (placed_of found)))) same
    (finds _ _ c.new-test.result.test.0.now.now c.find.result _ did.found did.in_order did.apart did.met did.none (λ p answer. (λ h. h, λ h. h)))

pub returns-clause-refused : goal.returns-clause-refused
returns-clause-refused g c =
    λ fault is.
    let file = g.S.Store.bytes c.args.file.now in
    let met = c.find.ensures.refused fault is in
    refuses _ fault met
    (met-not_whole _ c.args.size fault (subst (IsSized file) c.requires.is_told (g.met.S.Store.sized c.args.file.now)) c.requires.in_reach met)
