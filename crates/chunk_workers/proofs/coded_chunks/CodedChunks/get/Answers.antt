use Rattle.std.proofs.Common.{◌≡◌, ◌<◌, Some, List, length, refl, ap, subst, arith}
use Rattle.std.specs.Prelude.{slice_get}
use Rattle.std.proofs.lemmas.Option.{slice_get_read}
use Rattle.chunk_workers.specs.Coded.{CodedValue}
use Rattle.chunk_workers.proofs.CodedLists.{coded_of-at, length-coded_of}
use Rattle.chunk_workers.proofs.coded_chunks.CodedChunks.get.Goals as goal

pub index-requires : goal.index-requires
index-requires c =
    omega (arith, c.requires, ap length c.self.view_is, length-coded_of c.self.inside.heads.items c.self.inside.fronts c.self.invariant)

pub get-requires : goal.get-requires
get-requires c =
    omega (arith, c.requires, ap length c.self.view_is, length-coded_of c.self.inside.heads.items c.self.inside.fronts c.self.invariant, c.self.invariant)

pub returns : goal.returns
returns c =
    let heads = c.self.inside.heads.items in
    let within : c.args.i < length heads = omega (arith, c.requires, ap length c.self.view_is, length-coded_of heads c.self.inside.fronts c.self.invariant) in
    subst (λ (chunks : List CodedValue). slice_get chunks c.args.i ≡ Some (record { head = c.index.result.now; front = c.get.result.now })) c.self.view_is
    (coded_of-at heads c.self.inside.fronts c.args.i c.index.result.now c.get.result.now
    (slice_get_read heads (length heads) c.args.i c.index.result.now refl within c.index.ensures) c.get.ensures)
