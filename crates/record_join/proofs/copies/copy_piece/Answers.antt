use Rattle.std.specs.Prelude.{slice_range}
use Rattle.std.proofs.Common.{◌+◌, length}
use Rattle.record_join.proofs.CopiedPieces.{copied_none}
use Rattle.record_join.proofs.copies.copy_piece.Goals as goal

pub returns-in_default-clause-copied : goal.returns-in_default-clause-copied
returns-in_default-clause-copied g c =
    copied_none (g.S.Store.bytes c.args.store.now) _ (λ file. slice_range file c.args.at (c.args.at + length c.args.piece.now))
