use Rattle.std.proofs.Common.{List, ℕ, subst}
use Rattle.record_io.specs.Outside.{Takes, TakesShort}
use Rattle.sample_command.proofs.SampleCounts.{sample-written}
use Rattle.sample_command.proofs.sampling.make_sample.Goals as goal

pub returns-in-Ok-put_counts-clause-taken : goal.returns-in-Ok-put_counts-clause-taken
returns-in-Ok-put_counts-clause-taken g c =
    let written = sample-written c.args.words.now _ c.in-Ok.totals _ _ c.requires.in_limits.size c.new-records.ensures.rest c.in-Ok.ensures.answer c.in-Ok.ensures.made in (
      written.1,
      subst (λ (text : List ℕ). Takes (g.O.Sink.taken c.args.out.now) (g.O.Sink.taken c.put_counts.new.out) text) written.0 c.in-Ok-put_counts.ensures.out.whole,
    )

pub returns-in-Err-put_counts-clause-taken : goal.returns-in-Err-put_counts-clause-taken
returns-in-Err-put_counts-clause-taken g c =
    let written = sample-written c.args.words.now _ c.in-Ok.totals _ _ c.requires.in_limits.size c.new-records.ensures.rest c.in-Ok.ensures.answer c.in-Ok.ensures.made in (
      written.1,
      subst (λ (text : List ℕ). TakesShort (g.O.Sink.taken c.args.out.now) (g.O.Sink.taken c.put_counts.new.out) text) written.0 c.in-Err-put_counts.ensures.out.front,
    )
