use Rattle.std.proofs.Common.{◌+◌, ◌≡◌, ◌∙◌, ◌≤◌, ◌<◌, ℕ, List, [], ◌∷◌, ◌++◌, take, drop, length, length-take, length-append, refl, sym, ap, arith, rules}
use Rattle.write_command.specs.Input.{line_limit}
use Rattle.write_command.proofs.FeedSteps.{next-line, line-record, NoneEnds-none}
use Rattle.write_command.proofs.line_feed.LineFeedRecordFeed.push_held.Goals as goal

pub push_open-requires : goal.push_open-requires
push_open-requires g c =
    omega (arith, c.as_slice.ensures.short, ap length c.as_slice.ensures.value, length-take c.in-Some.len c.as_slice.result.now)

pub returns-clause-pushed : goal.returns-clause-pushed
returns-clause-pushed g c = λ _.
    let self = c.args.self.now in
    let ends = c.in-Some.ensures.found in
    let line : List ℕ = take c.in-Some.len self.held in
    let asking : 0 < self.asked = search rules in
    let short : length line ≤ line_limit self.hex =
    rw c.if-self.false (omega (arith, c.as_slice.ensures.short, ap length c.in-Some.ensures.same_held, length-take c.in-Some.len self.held)) in
    let rest : c.skip_line.new.self ≡ drop (c.in-Some.len + 1) self.held = c.skip_line.ensures ∙ ap (λ (l : List ℕ). drop (c.in-Some.len + 1) l) c.in-Some.ensures.same_held in
    let slice : take c.in-Some.len c.as_slice.result.now ≡ line = ap (λ (l : List ℕ). take c.in-Some.len l) (c.as_slice.ensures.value ∙ c.in-Some.ensures.same_held) in
    let parts : self.held ≡ line ++ 10 ∷ c.skip_line.new.self = ends.2 ∙ ap (λ (l : List ℕ). line ++ 10 ∷ l) (sym rest) in
    record {
      record_bytes = line;
      gives = line-record self.hex _ _ line c.if-self.false short
          (next-line self.hex c.line_end.new.self.hex (length self.held + self.asked) self.asked c.line_end.new.self.asked c.in-Some.len [] self.held c.skip_line.new.self line _ _ _
          c.in-Some.ensures.asks.same_form NoneEnds-none ends.1 refl parts (omega arith) (omega (arith, asking, c.in-Some.ensures.asks.same_asked)) c.in-Some.ensures.asks.same_asked
          (ap g.I.Source.left c.in-Some.ensures.asks.same_input) refl);
      takes = rw slice at c.push_open.ensures.push (search rules);
      lowers = omega (arith, c.in-Some.ensures.asks.same_asked, ap length parts, length-append line (10 ∷ c.skip_line.new.self));
    }
