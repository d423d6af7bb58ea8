use Rattle.std.proofs.Common.{◌∙◌, ℕ, ◌≤◌, Option, List, ◌++◌, length, sym, ap, subst, arith, rules}
use Rattle.std.proofs.lemmas.List.{append-nil, nil_from_length}
use Rattle.std.proofs.lemmas.Result.{on_ok_weaker}
use Rattle.record_io.specs.Outside.{Takes}
use Rattle.record_io.specs.Buffers.{TakesAndHolds}
use Rattle.ordered_writer.proofs.writer.OrderedWriter.put.Goals as goal

-- where there is no room to hold bytes, all were taken
all-taken : (a b : Option (List ℕ)) (bytes held : List ℕ) → length held ≤ 0 → TakesAndHolds a b bytes held → Takes a b bytes
all-taken a b bytes held none h =
    subst (λ (xs : List ℕ). Takes a b xs)
    (sym (h.parts ∙ ap (λ (xs : List ℕ). h.passed ++ xs) (nil_from_length held (omega (arith, none))) ∙ append-nil h.passed)) h.taken

pub returns-clause-sink : goal.returns-clause-sink
returns-clause-sink g c =
    let gone = rw c.new.ensures at c.put_into.ensures.sink.through in
    let none = c.put_into.ensures.sink.fits (omega (arith, ap length c.new.ensures)) in
    record {
      whole = on_ok_weaker c.put_into.result (all-taken _ _ _ c.put_into.new.buffer none) gone.whole;
      front = gone.front;
      counts = search rules;
    }
