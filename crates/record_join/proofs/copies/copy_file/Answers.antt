use Rattle.std.proofs.Common.{◌≡◌, ◌∙◌, ◌+◌, Option, Err, IfSome, List, ℕ, Result, length, take, drop, ap, sym, subst, arith, rules, length-append, length-drop}
use Rattle.std.specs.Prelude.{slice_range}
use Rattle.std.proofs.lemmas.List.{length-take-le}
use Rattle.std.proofs.lemmas.Result.{err_from_is_err_and}
use Rattle.record_io.specs.Outside.{Takes}
use Rattle.record_join.specs.Joins.{TakesCopied}
use Rattle.record_join.specs.declared.joins.JoinEnd.{JoinEnd}
use Rattle.record_join.proofs.CopiedPieces.{copied_failed, copied_more}
use Rattle.record_join.proofs.copies.copy_file.Goals as goal

pub returns-in_err-copy_piece-clause-copied : goal.returns-in_err-copy_piece-clause-copied
returns-in_err-copy_piece-clause-copied g c =
    let p = err_from_is_err_and c.from_residual.result c.from_residual.ensures.1 in
    let kept = c.loop-at.invariant in
    let at : ℕ = c.loop-at.at in
    let n : ℕ = length (take c.min-count.result c.loop-at.piece) in
    let bytes : Option (List ℕ) = g.S.Store.bytes c.args.store.now in
    let a : Option (List ℕ) = g.M.Sink.taken c.args.made.now in
    let b : Option (List ℕ) = g.M.Sink.taken c.loop-at.made in
    let then : Option (List ℕ) = g.M.Sink.taken c.copy_piece.new.made in
    let why : JoinEnd = c.in_err-copy_piece.field-0.0 in
    let P : Option (List ℕ) → Type 0 = λ o. IfSome o (λ file. TakesCopied {X = Unit {0}} (Err why) (slice_range file at (at + n)) b then) in
    let Q : Result (Unit {0}) JoinEnd → Type 0 = λ r. IfSome bytes (λ file. TakesCopied r file a then) in
    subst Q (sym (p.1 ∙ ap Err p.2))
    (copied_failed (Unit {0}) (Unit {0}) why bytes a b then at n kept.taken (subst P kept.asks.asks.same_bytes c.in_err-copy_piece.ensures.copied))

pub loop-at-preserved : goal.loop-at-preserved
loop-at-preserved g c =
    let kept = c.loop-at.invariant in
    let at : ℕ = c.loop-at.at in
    let count : ℕ = c.min-count.result in
    let piece : List ℕ = take count c.loop-at.piece in
    let n : length piece ≡ count = length-take-le count c.loop-at.piece (omega (arith, kept.room, c.min-count.ensures)) in
    let P : Option (List ℕ) → Type 0 = λ o. IfSome o (λ file.
    Takes (g.M.Sink.taken c.loop-at.made) (g.M.Sink.taken c.copy_piece.new.made) (slice_range file at (at + length piece))) in
    let Q : ℕ → Type 0 = λ k. IfSome (g.S.Store.bytes c.args.store.now) (λ file.
    Takes (g.M.Sink.taken c.args.made.now) (g.M.Sink.taken c.copy_piece.new.made) (take (at + k) file)) in
    record {
      within = omega (arith, c.min-count.ensures, c.loop-at-test.true);
      room = omega (
        arith,
        length-append c.copy_piece.new.piece (drop count c.loop-at.piece),
        length-drop {A = ℕ},
        c.copy_piece.auto.piece,
        n,
        kept.room,
        c.min-count.ensures,
      );
      taken = subst Q n (copied_more (g.S.Store.bytes c.args.store.now) (g.M.Sink.taken c.args.made.now) (g.M.Sink.taken c.loop-at.made) _ at (length piece)
          kept.taken (subst P kept.asks.asks.same_bytes c.in_ok-copy_piece.ensures.copied));
      asks = record {
        asks = search rules;
        handed = omega (arith, c.in_ok-copy_piece.ensures.store.handed, kept.asks.handed, n);
      };
      counts = search rules;
    }
