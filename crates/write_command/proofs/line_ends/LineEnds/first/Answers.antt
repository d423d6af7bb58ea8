use Rattle.std.proofs.Common.{◌≡◌, ◌+◌, ◌-◌, subst, arith}
use Rattle.write_command.specs.LineEnds.{IsFirstEnd}
use Rattle.write_command.proofs.KnownEnds.{none-near, first-marked, knows-unmarked}
use Rattle.write_command.proofs.line_ends.LineEnds.first.Goals as goal

pub returns-then-self-eq0-clause-none : goal.returns-then-self-eq0-clause-none
returns-then-self-eq0-clause-none c none p low high =
    none-near c.args.bytes.now c.args.from c.args.to c.moved.result.base p
    (knows-unmarked c.moved.ensures.knows c.if-self-eq0.true) low high (omega (arith, c.moved.ensures.ended c.if-self-eq0.true))

pub returns-then-at-to-clause-found : goal.returns-then-at-to-clause-found
returns-then-at-to-clause-found c =
    let first = first-marked c.args.bytes.now c.args.from c.args.to c.moved.result.base c.moved.result.mask c.lowest.result
    c.moved.ensures.knows c.lowest.ensures.bound c.lowest.ensures.set c.lowest.ensures.below in
    let place : c.moved.result.base + c.lowest.result ≡ c.args.from + (c.moved.result.base + c.lowest.result - c.args.from) = omega (arith, first.0) in
    subst (IsFirstEnd c.args.bytes.now c.args.from c.args.to) place
    (record { low = first.0; high = c.if-at-to.true; none = λ p low high. first.2 p low (omega (arith, c.if-at-to.true)) high; here = first.1 })

pub returns-else-at-to-clause-none : goal.returns-else-at-to-clause-none
returns-else-at-to-clause-none c none p low high =
    (first-marked c.args.bytes.now c.args.from c.args.to c.moved.result.base c.moved.result.mask c.lowest.result
    c.moved.ensures.knows c.lowest.ensures.bound c.lowest.ensures.set c.lowest.ensures.below).2 p low high (omega (arith, c.if-at-to.false))
