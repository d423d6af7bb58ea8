use Rattle.std.proofs.Common.{◌≡◌, ◌≢◌, ◌++◌, Option, sym, subst}
use Rattle.std.specs.Prelude.{MatchOption}
use Rattle.highway_hash.specs.Riegeli.{riegeli_key}
use Rattle.record_values.proofs.ByteLists.{AreBytes-append, AreBytes-each}
use Rattle.chunk_header.specs.Kinds.{simple_kind}
use Rattle.simple_chunk.specs.Checkers.{CheckerValue, HasChecked}
use Rattle.chunk_reader.proofs.piece_judge.PieceJudgeTakesData.feed.Goals as goal

pub returns-in-Some-clause-taken : goal.returns-in-Some-clause-taken
returns-in-Some-clause-taken c =
    λ bytes taken.
    let header = c.args.self.now.header in
    let P : Option CheckerValue → Type 0 =
    λ o. MatchOption o (header.kind ≢ simple_kind) (λ checker. (header.kind ≡ simple_kind) × HasChecked checker header bytes) in
    let was = subst P c.in-Some.is taken.checked in record {
      are_bytes = AreBytes-append _ _ taken.are_bytes (AreBytes-each _ c.type_inv.piece);
      hashed = c.update.ensures riegeli_key bytes taken.hashed;
      checked = (was.0, c.feed.ensures.checked header bytes was.1);
    }

pub returns-in_default-clause-taken : goal.returns-in_default-clause-taken
returns-in_default-clause-taken c =
    λ bytes taken.
    let header = c.args.self.now.header in
    let P : Option CheckerValue → Type 0 =
    λ o. MatchOption o (header.kind ≢ simple_kind) (λ checker. (header.kind ≡ simple_kind) × HasChecked checker header bytes) in
    let Q : Option CheckerValue → Type 0 = λ o.
    MatchOption o (header.kind ≢ simple_kind)
    (λ checker. (header.kind ≡ simple_kind) × HasChecked checker header (bytes ++ c.args.piece.now)) in record {
      are_bytes = AreBytes-append _ _ taken.are_bytes (AreBytes-each _ c.type_inv.piece);
      hashed = c.update.ensures riegeli_key bytes taken.hashed;
      checked = subst Q (sym c.in_default.is) (subst P c.in_default.is taken.checked);
    }
