use Rattle.std.proofs.Common.{◌≡◌, ◌≢◌, ◌∙◌, Option, sym, subst, arith}
use Rattle.std.specs.Prelude.{MatchOption}
use Rattle.highway_hash.specs.Riegeli.{riegeli_key}
use Rattle.chunk_header.specs.Kinds.{simple_kind}
use Rattle.simple_chunk.specs.Checkers.{CheckerValue, HasChecked}
use Rattle.chunk_reader.proofs.piece_judge.PieceJudge.finish.Goals as goal

pub returns-in-Some : goal.returns-in-Some
returns-in-Some c =
    λ bytes taken whole.
    let header = c.args.self.header in
    let P : Option CheckerValue → Type 0 =
    λ o. MatchOption o (header.kind ≢ simple_kind) (λ checker. (header.kind ≡ simple_kind) × HasChecked checker header bytes) in
    let was = subst P c.in-Some.is taken.checked in
    c.simple_unread.ensures header bytes was.1 was.0 (omega (arith, whole, c.requires.small))
    (sym (c.finish.ensures riegeli_key bytes taken.hashed) ∙ c.if-finish-header.false)
