use Rattle.std.proofs.Common.{◌≡◌, ℕ, ◌+◌, ◌<◌, length, take, sym, subst, arith}
use Rattle.std.specs.Prelude.{set}
use Rattle.std.proofs.lemmas.Option.{slice_get_within}
use Rattle.riegeli_c.specs.Chunks.{ends_from}
use Rattle.riegeli_c.proofs.RecordEnds.{ends_step, joined_size, joined_within}
use Rattle.riegeli_c.proofs.reading.put_ends.Goals as goal

pub overflow_add-end : goal.overflow_add-end
overflow_add-end c =
    omega (
      arith,
      c.requires.small,
      c.loop-i.invariant.end,
      joined_size c.args.records.now c.loop-i.i c.get.result.now c.get.ensures,
      joined_within c.args.records.now (c.loop-i.i + 1),
    )

pub loop-i-preserved : goal.loop-i-preserved
loop-i-preserved c =
    let size = joined_size c.args.records.now c.loop-i.i c.get.result.now c.get.ensures in
    let inside : c.loop-i.i < length c.loop-i.ends =
    omega (arith, c.requires.room, c.loop-i.auto.ends, slice_get_within c.args.records.now c.loop-i.i c.get.result.now c.get.ensures) in
    record {
      end = omega (arith, c.loop-i.invariant.end, size);
      ends = subst (λ (n : ℕ). take (c.loop-i.i + 1) (set c.loop-i.ends c.loop-i.i (n + length c.get.result.now)) ≡ ends_from 0 (take (c.loop-i.i + 1) c.args.records.now))
          (sym c.loop-i.invariant.end)
          (ends_step c.args.records.now c.loop-i.i c.get.result.now c.loop-i.ends c.get.ensures inside c.loop-i.invariant.ends);
    }
