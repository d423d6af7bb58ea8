use Rattle.std.proofs.Common.{◌≤◌, ◌∙◌, Ok, true, length, sym, ap, arith}
use Rattle.hex.proofs.HexLemmas.{decode_of-ok}
use Rattle.write_command.specs.Input.{line_limit}
use Rattle.write_command.proofs.FeedSteps.{digits-record}
use Rattle.write_command.proofs.line_feed.LineFeedRecordFeed.pull.Goals as goal

pub returns-clause-gives : goal.returns-clause-gives
returns-clause-gives g c = λ _.
    let decoded = c.in_ok-decode_digits.ensures.decoded (ap Ok c.if-not-branch-2.false) in
    let ok = decode_of-ok _ _ decoded in
    let pulled = ap Ok c.if-not-branch.false in
    let form = c.in_ok-pull_line.ensures.same_form in
    let short : length c.pull_line.new.line ≤ line_limit c.args.self.now.hex = c.in_ok-pull_line.ensures.short pulled in
    let within : length c.pull_line.new.line ≤ line_limit true = rw (← form, c.if-not-self.false) at short in
    record {
      next = digits-record c.args.self.now.hex _ _ _ _ (sym form ∙ c.if-not-self.false) short decoded (c.in_ok-pull_line.ensures.next pulled);
      at_most = omega (arith, ok.2, within);
      lowers = omega (arith, ok.2, c.in_ok-pull_line.ensures.lowers pulled);
    }
