use Rattle.std.proofs.Common.{◌∙◌, ◌++◌, rules}
use Rattle.record_io.specs.Buffers.{TakesAndHolds}
use Rattle.std.specs.List.{concat}
use Rattle.damage_skip.proofs.RegionLines.{pieces_of, line-whole, line-front, line-cut}
use Rattle.damage_skip.proofs.regions.region_line.Goals as goal
use Rattle.damage_skip.proofs.regions.region_line.Goals.{In_ok-put, In_ok-put_each}

-- what was held of the word, and of the pieces behind it
word_held : (g : _) (c : In_ok-put g) → TakesAndHolds (g.E.Sink.taken c.args.sink.now) (g.E.Sink.taken c.put.new.sink) c.args.word.now c.put.new.self
word_held g c = rw (c.new-line.ensures, c.as_bytes.ensures.value) at c.in_ok-put.ensures.sink.whole

pieces_held : (g : _) (c : In_ok-put_each g)
    → TakesAndHolds (g.E.Sink.taken c.put.new.sink) (g.E.Sink.taken c.put_each.new.sink) (c.put.new.self ++ concat (pieces_of c.args.region.now)) c.put_each.new.self
pieces_held g c = rw (
  c.as_bytes-2.ensures.value,
  c.as_bytes-3.ensures.value ∙ c.format.ensures.text,
  c.as_bytes-4.ensures.value,
  c.as_bytes-5.ensures.value ∙ c.format-2.ensures.text,
  c.as_bytes-6.ensures.value,
  c.as_bytes-7.ensures.value ∙ c.name.ensures,
  c.as_bytes-8.ensures.value,
) at c.in_ok-put_each.ensures.sink.whole

pub returns-in_err-put_each : goal.returns-in_err-put_each
returns-in_err-put_each g c =
    let put = (goal.at.returns-in_err-put_each g c).In_ok-put in
    record {
      sink = record {
        whole = search rules;
        front = line-cut _ _ _ _ c.args.word.now c.put.new.self c.args.region.now (word_held g put) (rw (
          c.as_bytes-2.ensures.value,
          c.as_bytes-3.ensures.value ∙ c.format.ensures.text,
          c.as_bytes-4.ensures.value,
          c.as_bytes-5.ensures.value ∙ c.format-2.ensures.text,
          c.as_bytes-6.ensures.value,
          c.as_bytes-7.ensures.value ∙ c.name.ensures,
          c.as_bytes-8.ensures.value,
        ) at c.in_err-put_each.ensures.sink.front);
        counts = search rules;
      };
    }

pub returns : goal.returns
returns g c =
    let at = goal.at.returns g c in
    let word = word_held g at.In_ok-put in
    let pieces = pieces_held g at.In_ok-put_each in
    record {
      sink = record {
        whole = line-whole _ _ _ _ _ c.args.word.now c.put.new.self c.put_each.new.self c.args.region.now word pieces c.flush.ensures.sink.whole;
        front = line-front _ _ _ _ _ c.args.word.now c.put.new.self c.put_each.new.self c.args.region.now word pieces c.flush.ensures.sink.front;
        counts = search rules;
      };
    }
