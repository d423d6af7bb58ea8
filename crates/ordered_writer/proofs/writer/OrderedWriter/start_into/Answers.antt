use Rattle.std.proofs.lemmas.Result.{err_from_is_err_and}
use Rattle.meta_chunk.proofs.Signature.{laid-signature}
use Rattle.ordered_writer.proofs.writer.OrderedWriter.start_into.Goals as goal

pub returns-in_err-put-clause-sink : goal.returns-in_err-put-clause-sink
returns-in_err-put-clause-sink g c =
    let p = err_from_is_err_and c.from_residual.result c.from_residual.ensures.1 in
    record {
      through = rw (p.1, laid-signature) c.in_err-put.ensures.sink;
      fits = λ _. c.put.ensures.fits;
    }

pub returns-clause-sink : goal.returns-clause-sink
returns-clause-sink g c = record {
  through = rw laid-signature c.in_ok-put.ensures.sink;
  fits = λ _. c.put.ensures.fits;
}
