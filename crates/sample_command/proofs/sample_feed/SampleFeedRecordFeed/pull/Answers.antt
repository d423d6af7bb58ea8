use Rattle.std.proofs.Common.{◌-◌, ◌∷◌, None, List, ℕ, refl, ap, sym, ◌∙◌, arith}
use Rattle.record_writer.specs.Feeds.{Rest}
use Rattle.sample_command.specs.Generator.{drawn_from, state_behind}
use Rattle.sample_command.proofs.Drawings.{drawn_from-none, drawn_from-some}
use Rattle.sample_command.proofs.sample_feed.SampleFeedRecordFeed.pull.Goals as goal

-- these records, and no stop behind them
abbrev rest_of : List (List ℕ) → Rest
rest_of records = record { records = records; stop = None }

pub returns-then-self-eq0-clause-at_end : goal.returns-then-self-eq0-clause-at_end
returns-then-self-eq0-clause-at_end c = λ _. record {
  at_end = ap rest_of (drawn_from-none c.args.self.now.left c.args.self.now.generator.state c.if-self-eq0.true);
  kept = refl;
}

pub returns-clause-gives : goal.returns-clause-gives
returns-clause-gives c = λ _.
    let left = c.args.self.now.left in
    let state = c.args.self.now.generator.state in
    record {
      next = (
        rest_of (drawn_from (left - 1) c.draw_record.new.self.state),
        refl,
        ap rest_of (drawn_from-some left (left - 1) state (omega arith)
            ∙ ap (λ (bytes : List ℕ). bytes ∷ drawn_from (left - 1) (state_behind state)) (sym c.in_ok-draw_record.ensures.drawn)
            ∙ ap (λ (s : ℕ). c.draw_record.new.into ∷ drawn_from (left - 1) s) (sym c.draw_record.ensures.left)),
      );
      at_most = omega (arith, c.in_ok-draw_record.ensures.short);
      lowers = omega (arith, c.in_ok-draw_record.ensures.short);
    }
