use Rattle.std.proofs.Common.{◌≡◌, ◌≢◌, ◌∙◌, true, Ok, None, [], arith, rules}
use Rattle.record_writer.proofs.Given.{AreGiven-push}
use Rattle.record_writer.proofs.Reaches.{reach_of-kept, reach_of-handed}
use Rattle.record_writer.proofs.group_taker.take_held.Goals as goal

pub returns-in_err-push_held-clause-in_reach : goal.returns-in_err-push_held-clause-in_reach
returns-in_err-push_held-clause-in_reach g c = λ place.
    let not : c.push_held.result ≢ Ok true = search rules in
    reach_of-kept place c.loop.buffer.grouping c.push_held.new.into.grouping _ _ _ (c.push_held.ensures.kept not).grouping (c.push_held.ensures.kept not).bound (c.loop.invariant.in_reach place)

pub loop-preserved : goal.loop-preserved
loop-preserved g c =
    let did : c.push_held.result ≡ Ok true = search rules in
    let h = c.push_held.ensures.pushed did in
    record {
      given = AreGiven-push _ (g.L.RecordFeed.rest c.loop.feed) _ _ c.loop.buffer.grouping _ [] h.record_bytes None c.loop.invariant.given h.gives h.takes;
      closed = c.push_held.ensures.closed ∙ c.loop.invariant.closed;
      lowers = omega (arith, h.lowers, c.loop.invariant.lowers);
      in_reach = λ place. reach_of-handed place c.loop.buffer.grouping c.push_held.new.into.grouping _ _ _ h.record_bytes h.takes h.lowers (c.loop.invariant.in_reach place);
      keeps = record {
        same_going = c.push_held.ensures.keeps.same_going ∙ c.loop.invariant.keeps.same_going;
        same_origin = c.push_held.ensures.keeps.same_origin ∙ c.loop.invariant.keeps.same_origin;
        same_faults = c.push_held.ensures.keeps.same_faults ∙ c.loop.invariant.keeps.same_faults;
      };
    }

pub returns-clause-in_reach : goal.returns-clause-in_reach
returns-clause-in_reach g c = λ place.
    let not : c.push_held.result ≢ Ok true = search rules in
    reach_of-kept place c.loop.buffer.grouping c.push_held.new.into.grouping _ _ _ (c.push_held.ensures.kept not).grouping (c.push_held.ensures.kept not).bound (c.loop.invariant.in_reach place)
