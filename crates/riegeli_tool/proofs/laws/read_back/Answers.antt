use Rattle.riegeli_tool.proofs.ReadBack.{are_records, written-faultless, written-records, written-placed}
use Rattle.riegeli_tool.proofs.laws.read_back.Goals as goal

pub returns : goal.returns
returns c =
    let options = c.args.options.now in
    let each = are_records c.args.records.now c.values-values.ensures.are_bytes c.requires.short in
    record {
      faultless = written-faultless c.args.records.now options.size options.every options.pad each c.requires.size;
      records = λ ks h. written-records c.args.records.now options.size options.every options.pad each c.requires.size ks h.1;
      placed = λ ks placed h. written-placed c.args.records.now options.size options.every options.pad each c.requires.size ks placed h.1;
    }
