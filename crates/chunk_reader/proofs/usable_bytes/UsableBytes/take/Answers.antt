use Rattle.std.proofs.Common.{◌≡◌, ℕ, ◌+◌, ◌%◌, ◌≤◌, length, take, drop, arith}
use Rattle.std.proofs.lemmas.List.{length-take-le}
use Rattle.block_layout.specs.NextPlaces.{IsNextPlace, usable_from}
use Rattle.block_layout.proofs.Ends.{end_of_after}
use Rattle.block_layout.proofs.Runs.{end_of-run}
use Rattle.chunk_reader.proofs.Rooms.{HasUsableBytes-small, HasUsableBytes-run, end_of-le, own_run}
use Rattle.chunk_reader.proofs.usable_bytes.UsableBytes.take.Goals as goal
use Rattle.chunk_reader.proofs.usable_bytes.UsableBytes.take.Goals.{After-min-run}

-- the run: one byte or more of the buffer, up to the next block at most
record IsRun (place size n : ℕ) : Type 0 where
  some : 1 ≤ n
  enough : n ≤ size
  next : IsNextPlace place
  fits : usable_from place % 65536 + n ≤ 65536

run : (g : _) (c : After-min-run g) → IsRun c.args.self.now.place (length c.args.buf.now) c.min-run.result
run g c =
    let first : c.usable_from-first.result ≡ usable_from c.args.self.now.place = c.usable_from-first.ensures in
    record { some = omega arith; enough = omega arith; next = c.args.self.now.next_place; fits = omega arith }

pub usable_from-first-requires-clause-small : goal.usable_from-first-requires-clause-small
usable_from-first-requires-clause-small g c =
    let place = c.args.self.now.place in
    omega (arith, end_of_after place (length c.args.buf.now), HasUsableBytes-small _ place (length c.args.buf.now) c.requires.told)

pub get_exact-requires : goal.get_exact-requires
get_exact-requires g c =
    let r = run g (goal.at.get_exact-requires g c).After-min-run in
    let first : c.usable_from-first.result ≡ usable_from c.args.self.now.place = c.usable_from-first.ensures in
    let size : length (take c.min-run.result c.args.buf.now) ≡ c.min-run.result = length-take-le c.min-run.result c.args.buf.now r.enough in
    record { within = λ _. rw (first, size) (HasUsableBytes-run _ c.args.self.now.place (length c.args.buf.now) c.min-run.result c.requires.told r.enough r.some r.next r.fits) }

pub overflow_add-self : goal.overflow_add-self
overflow_add-self g c =
    let r = run g (goal.at.overflow_add-self g c).After-min-run in
    let place = c.args.self.now.place in
    omega (
      arith,
      c.usable_from-first.ensures,
      end_of-run place c.min-run.result r.some r.next r.fits,
      end_of-le place c.min-run.result (length c.args.buf.now) r.enough,
      HasUsableBytes-small _ place (length c.args.buf.now) c.requires.told,
    )

pub returns-clause-run : goal.returns-clause-run
returns-clause-run g c =
    let r = run g (goal.at.returns-clause-run g c).After-min-run in
    let first : c.usable_from-first.result ≡ usable_from c.args.self.now.place = c.usable_from-first.ensures in
    record {
      some = r.some;
      fits = r.enough;
      moved = omega (arith, first, end_of-run c.args.self.now.place c.min-run.result r.some r.next r.fits);
      in_block = omega (arith, first, r.fits);
    }

pub returns-clause-given : goal.returns-clause-given
returns-clause-given g c =
    let r = run g (goal.at.returns-clause-given g c).After-min-run in
    let place = c.args.self.now.place in
    let n = c.min-run.result in
    let first : c.usable_from-first.result ≡ usable_from place = c.usable_from-first.ensures in
    let size : length c.get_exact.new.buf ≡ n =
    omega (arith, c.get_exact.auto.buf, length-take-le n c.args.buf.now r.enough) in
    let at : length (take n c.args.buf.now) ≡ n = length-take-le n c.args.buf.now r.enough in
    own_run _ _ place (length c.args.buf.now) n c.get_exact.new.buf (drop n c.args.buf.now) (g.met.S.Store.sized c.args.store.now)
    c.requires.told r.enough r.some r.next r.fits size (rw (← first, ← at) c.in_ok-get_exact.ensures.exact)
