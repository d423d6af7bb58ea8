use Rattle.std.proofs.Common.{◌∙◌, List, ℕ, [], ◌∷◌, ◌++◌, decimal, codes, sym, subst, append_assoc, rules}
use Rattle.std.proofs.lemmas.Result.{on_ok_weaker, on_err_weaker}
use Rattle.record_io.specs.Buffers.{TakesAndHolds}
use Rattle.command_frame.proofs.NoteLines.{front-flushed, whole-flushed}
use Rattle.record_ranges.specs.RangesCommand.{differ_text}
use Rattle.record_ranges.proofs.range_ends.put_sizes.Goals as goal

pub returns : goal.returns
returns g c =
    let first : List ℕ = decimal c.args.first in
    let other : List ℕ = decimal c.args.other in
    let text : List ℕ = differ_text c.args.first c.args.other in
    let whole = rw (
      c.new-line.ensures,
      c.as_bytes.ensures.value,
      c.as_bytes-2.ensures.value ∙ c.format.ensures.text,
      c.as_bytes-3.ensures.value,
      c.as_bytes-4.ensures.value ∙ c.format-2.ensures.text,
      c.as_bytes-5.ensures.value,
    ) at c.in_ok-put_each.ensures.sink.whole in
    let held = subst (λ (t : List ℕ). TakesAndHolds (g.E.Sink.taken c.args.notes.now) (g.E.Sink.taken c.put_each.new.sink) (codes "size " ++ t) c.put_each.new.self)
    (sym (append_assoc first (32 ∷ other) (10 ∷ []))) whole in
    record {
      notes = record {
        whole = on_ok_weaker c.flush.result (whole-flushed _ _ _ text c.put_each.new.self held) c.flush.ensures.sink.whole;
        front = on_err_weaker c.flush.result (front-flushed _ _ _ text c.put_each.new.self held) c.flush.ensures.sink.front;
        counts = search rules;
      };
    }
