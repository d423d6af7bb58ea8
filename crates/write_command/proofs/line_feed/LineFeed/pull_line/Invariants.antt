use Rattle.std.proofs.Common.{◌≡◌, ◌+◌, ◌^◌, ◌<◌, ◌≤◌, ◌++◌, length}
use Rattle.command_frame.specs.OpenLines.{NoneEnds}
use Rattle.write_command.specs.Input.{line_limit}
use Rattle.write_command.specs.LineFeeds.{origin_of, text_of}
use Rattle.write_command.proofs.line_feed.LineFeed.pull_line.Given as goal

abbrev pub invariant-loop-self : goal.invariant-loop-self
invariant-loop-self g l = record {
  text : text_of (l.line ++ l.self.held) (g.I.Source.left l.self.input.now) ≡ text_of l.fn.self.held (g.I.Source.left l.fn.self.input.now);
  bound : length l.line + (length l.self.held + l.self.asked) ≡ length l.fn.self.held + l.fn.self.asked;
  none : NoneEnds l.line;
  short : length l.line ≤ line_limit l.self.hex;
  asking : 0 < length l.line → 0 < l.self.asked;
  form : l.self.hex ≡ l.fn.self.hex;
  origin : origin_of l.self.input.ghost_name l.self.asked (g.I.Source.left l.self.input.now)
      ≡ origin_of l.fn.self.input.ghost_name l.fn.self.asked (g.I.Source.left l.fn.self.input.now);
  counted : g.I.Source.faults l.fn.self.input.now ≤ g.I.Source.faults l.self.input.now;
  small : g.I.Source.faults l.fn.self.input.now < 2 ^ 64 → g.I.Source.faults l.self.input.now < 2 ^ 64;
}

abbrev pub decreases-loop-self : goal.decreases-loop-self
decreases-loop-self g l = length l.self.held + l.self.asked
