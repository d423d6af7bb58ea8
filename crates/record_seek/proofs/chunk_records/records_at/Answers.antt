use Rattle.std.proofs.Common.{refl, arith}
use Rattle.record_seek.proofs.ChunkRecords.{records-of, records-there}
use Rattle.record_seek.proofs.chunk_records.records_at.Goals as goal

pub returns-clause-chunk : goal.returns-clause-chunk
returns-clause-chunk g c =
    let judged = c.in_ok-judged.ensures.judged in
    record {
      of_chunk = records-of c.args.size c.args.place c.in_ok-judged.judged _ c.requires.place.sized.in_reach judged refl refl c.records_found.ensures;
      begins = omega (arith, judged.begin);
      within = judged.within;
    }

pub returns-clause-there : goal.returns-clause-there
returns-clause-there g c =
    records-there _ c.args.size c.args.place c.in_ok-judged.judged _ c.in_ok-judged.ensures.judged c.in_ok-judged.ensures.sound refl refl
    c.records_found.ensures
