use Rattle.std.proofs.Common.{◌≤◌, length, arith}
use Rattle.std.proofs.lemmas.List.{take-append-le}
use Rattle.record_io.proofs.named_file.NamedFileStore.read_at.Goals as goal

pub returns-clause-bytes : goal.returns-clause-bytes
returns-clause-bytes g c =
    let fits : c.in_ok-count.count ≤ length c.read_from.new.buf = omega (arith, c.in_ok-count.ensures.some.fits) in
    simp take-append-le (c.in-Some-Ok.file, c.read_from.new.file, c.in_ok-count.ensures.bytes)
