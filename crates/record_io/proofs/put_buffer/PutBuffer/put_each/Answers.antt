use Rattle.std.proofs.Common.{List, ℕ, map, arith, rules}
use Rattle.std.proofs.Math.ListN.{get_or-map}
use Rattle.std.proofs.lemmas.List.{length-map}
use Rattle.record_io.proofs.Calls.{OnErr-any}
use Rattle.record_io.proofs.Buffered.{pieces-next, pieces-failed}
use Rattle.record_io.proofs.put_buffer.PutBuffer.put_each.Goals as goal

pub returns-in_err-put : goal.returns-in_err-put
returns-in_err-put g c =
    let texts : List (List ℕ) = map (λ piece. piece.now) c.args.pieces.now in
    record {
      sink = record {
        whole = search rules;
        front = OnErr-any _ (pieces-failed _ _ _ c.args.self.now _ texts c.loop-piece.piece-index _
            (omega (arith, length-map c.args.pieces.now (λ piece. piece.now)))
            (get_or-map (λ piece. piece.now) c.args.pieces.now c.loop-piece.piece-index _)
            c.loop-piece.invariant.whole c.in_err-put.ensures.sink.front);
        emptied = search rules;
        counts = search rules;
      };
    }

pub loop-piece-preserved : goal.loop-piece-preserved
loop-piece-preserved g c =
    let texts : List (List ℕ) = map (λ piece. piece.now) c.args.pieces.now in
    record {
      whole = pieces-next _ _ _ c.args.self.now _ _ texts c.loop-piece.piece-index _
          (omega (arith, length-map c.args.pieces.now (λ piece. piece.now)))
          (get_or-map (λ piece. piece.now) c.args.pieces.now c.loop-piece.piece-index _)
          c.loop-piece.invariant.whole c.in_ok-put.ensures.sink.whole;
      counts = search rules;
    }
