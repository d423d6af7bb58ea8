use Rattle.std.proofs.Common.{◌≡◌, ◌↔◌, ◌+◌, eqb, slice_index, sym, subst, arith, w8}
use Rattle.std.specs.Int.{bit_at}
use Rattle.std.specs.Simd.Lanes.{chunk}
use Rattle.std.proofs.lemmas.Simd.{bitmask_splat, length-chunk}
use Rattle.write_command.proofs.MarkBits.{lanes-mark}
use Rattle.write_command.proofs.marks.marks_at.Goals as goal

pub returns : goal.returns
returns c k within =
    let bytes = c.args.bytes.now in
    let base = c.args.base in
    subst (λ m. (bit_at m k ≡ 1) ↔ (slice_index bytes (base + k) ≡ 10))
    (sym (bitmask_splat w8 eqb (chunk base 64 bytes) 64 10 (length-chunk base 64 bytes c.requires) (omega arith))) (lanes-mark bytes base k within)
