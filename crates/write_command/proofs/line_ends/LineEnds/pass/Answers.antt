use Rattle.write_command.proofs.KnownEnds.{first-near, marked-near, knows-behind}
use Rattle.write_command.proofs.line_ends.LineEnds.pass.Goals as goal

pub without_lowest-self-requires : goal.without_lowest-self-requires
without_lowest-self-requires c =
    let at = c.requires.first.0 in
    let first = c.requires.first.1 in
    marked-near c.args.bytes.now c.args.from c.args.to c.first.new.self.base c.first.new.self.mask at c.first.ensures.knows first
    (first-near c.args.bytes.now c.args.from c.args.to c.first.new.self.base at c.first.result first c.first.ensures.found c.first.ensures.none c.first.ensures.near)

pub returns : goal.returns
returns c at first =
    knows-behind c.args.bytes.now c.args.from c.args.to c.first.new.self.base c.first.new.self.mask c.without_lowest-self.result at c.first.ensures.knows first
    (first-near c.args.bytes.now c.args.from c.args.to c.first.new.self.base at c.first.result first c.first.ensures.found c.first.ensures.none c.first.ensures.near)
    c.without_lowest-self.ensures
