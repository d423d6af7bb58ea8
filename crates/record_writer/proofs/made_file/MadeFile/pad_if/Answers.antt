use Rattle.std.proofs.Common.{rules}
use Rattle.record_writer.proofs.Layings.{Lays-none}
use Rattle.record_writer.proofs.made_file.MadeFile.pad_if.Goals as goal

pub returns-else-wanted : goal.returns-else-wanted
returns-else-wanted g c = record {
  laid = record {
    laid = record {
      whole = rw c.if-wanted.false (Lays-none _ c.args.self.now c.requires.may_pad.going);
      front = tt;
      counts = search rules;
    };
    spent = tt;
  };
}
